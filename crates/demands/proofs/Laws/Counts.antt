-- How a run counts its passes, and that Building once left is left for good.
-- Assumes nothing.
use Prim.Native.Nat.{ℕ, suc, ◌+◌, ◌≤◌, ◌<◌}
use Rattle.std.specs.Prelude.{◌≡◌, refl, ◌↔◌, T, Ok, Err}
use Rattle.std.proofs.Common.{sym, ◌∙◌}
use Rattle.std.proofs.Math.Path.{ap}
use mathlib.Core.List.{List, [], ◌∷◌, ◌++◌}
use Rattle.std.proofs.Math.Logic.{inl, inr}
use native.Mathlib.Omega.{arith}
use Rattle.std.proofs.Math.ListN.{length, length-append}
use Rattle.base.specs.Pick.{pick}
use Rattle.base.specs.Truth.{or_cases, T_dec}
use Rattle.base.specs.Link.{Link}
use Rattle.lists.specs.List.{block_links}
use Rattle.lists.specs.Laws.Link.{answered}
use Rattle.rules.specs.Links.{linked}
use Rattle.rules.specs.Forest.{DepthFirst}
use Rattle.rules.specs.Tables.{par}
use Rattle.rules.specs.Building.{close_building, done, passes, ceiling, lower_ceiling}
use Rattle.rules.specs.Reading.{accepted}
use Rattle.rules.specs.Adopting.{parent_in}
use Rattle.rules.proofs.Laws.Tables.{same_par}
use Rattle.rules.proofs.Laws.Adopting.{adopted_par}
use Rattle.rules.proofs.Laws.Append.{depth_first_same}
use Rattle.state.specs.Test.{is_building, is_reading}
use Rattle.state.specs.Call.{moved}
use Rattle.state.specs.Take.{takes}
use Rattle.state.specs.Close.{opens}
use Rattle.state.specs.Answers.{Ended, closed_told}
use Rattle.state.specs.declared.State.{State}
use Rattle.state.specs.declared.Closed.TheVariants.{More, Done, Read, False}
use Rattle.demands.specs.Promises.{ends_building}
use Rattle.demands.specs.Run.{Origin, start, adopt, Call, take, close, open_reading, Moment, tables_at, after_take, after_close, after_open, Answered, next, opening, Run, begins, goes, now_told, calls, closes_in, accepted_closes, forest_of}
use Rattle.demands.specs.Step.{step}
use Rattle.demands.proofs.Laws.Answered.{next_step, begun_ready}
use Rattle.demands.proofs.Laws.Steps.{take_off, take_bad, take_on, open_off, open_on, close_off, whole_on, more_on, read_on, false_on}
use Rattle.demands.proofs.Laws.Runs.{Holds, begun_state, run_holds}
use Rattle.demands.proofs.Laws.Results.{forest_at, below_ceiling, below_more}

abbrev pub Settled : Moment → Type 0
Settled m = T (is_building m.state.stage) → ⊥

module _ {o : Origin} {m : Moment} (H : Holds o m) where
  -- The close of a Building pass adds its list to those told,
  pub building_adds : T (is_building m.state.stage) → (step m close).told ≡ m.told ++ (m.telling ∷ [])
  building_adds b = elim (T_dec (done m.state.n (close_building m.state.n (tables_at m)))) [
    | yes d ↦ (whole_on m H.tested b d).as_told
    | no d ↦ (more_on m H.tested b d).as_told
  ]

  -- a take or open reading adds none,
  -- and neither does anything once Building is left, for good.
  pub settled_stays : Settled m → (c : Call) → Settled (step m c) × ((step m c).told ≡ m.told)
  unfolding moved
  settled_stays b (take block) = elim (T_dec (takes m.state.stage)) [
    | no c ↦ rw (take_off m H.tested block c) (b, refl)
    | yes c ↦ elim (answered (block_links m.state.n m.state.entries block)) [
      | inr (number, place, e) ↦ rw (take_bad m H.tested block c number place e) (b, refl)
      | inl (g, e) ↦ let L = take_on m H.tested block c g e in (rw L.state b, L.as_told)
    ]
  ]
  settled_stays b open_reading = elim (T_dec (opens m.state.stage)) [
    | no c ↦ rw (open_off m H.tested c) (b, refl)
    | yes c ↦ let L = open_on m H.tested c in (rw L.state (λ x. x), L.as_told)
  ]
  settled_stays b close = elim (T_dec (takes m.state.stage)) [
    | no c ↦ rw (close_off m H.tested c) (b, refl)
    | yes c ↦ elim (or_cases (is_building m.state.stage) (is_reading m.state.stage) c) [
      | inl x ↦ absurd (b x)
      | inr r ↦ elim (T_dec (accepted m.state.n (tables_at m))) [
        | yes x ↦ let L = read_on m H.tested r x in (rw L.state (λ y. y), L.as_told)
        | no x ↦ let L = false_on m H.tested r x in (rw L.state (λ y. y), L.as_told)
      ]
    ]
  ]

-- The same, of what was answered.
settled_next : {o : Origin} {m : Moment} → Holds o m → Settled m → (c : Call) (a : Answered m c) → Settled (next m c a) × ((next m c a).told ≡ m.told)
settled_next {o} {m} H b c a = rw (next_step m c a) (settled_stays H b c)

building_next : {o : Origin} {m : Moment} → Holds o m → T (is_building m.state.stage) → (a : Answered m close) → (next m close a).told ≡ m.told ++ (m.telling ∷ [])
building_next {o} {m} H b a = rw (next_step m close a) (building_adds H b)

-- The lists told are as many as the closes accepted in Building.
counts_alike : (s : State) (c : Ended) (f h : List ℕ) (l : List (List Link)) (g : List Link) (a : ℕ) → a ≡ length l → pick (ends_building c) (suc a) a ≡ length (now_told (closed_told s c f h).answer l g)
unfolding pick
counts_alike s (Ok (More x)) f h l g a e = omega (arith, length-append l (g ∷ []))
counts_alike s (Ok (Done x)) f h l g a e = omega (arith, length-append l (g ∷ []))
counts_alike s (Ok (Read x)) f h l g a e = e
counts_alike s (Ok (False x)) f h l g a e = e
counts_alike s (Err r) f h l g a e = e

pub closes_told : {o : Origin} {m : Moment} (r : Run o m) → accepted_closes r ≡ length m.told
unfolding accepted_closes next after_take after_close after_open opening
closes_told (begins f h a s e) = refl
closes_told (goes r (take block) a) = closes_told r
closes_told (goes {m} r close a) = counts_alike m.state a.answer a.frag a.held m.told m.telling (accepted_closes r) (closes_told r)
closes_told (goes r open_reading a) = closes_told r

-- The ceiling on them.
module _ {n k : ℕ} where
  -- A number that one close more in Building never passes bounds the closes of every run.
  most_told : (c : ℕ) → ((m : Moment) → Holds (start n k) m → T (is_building m.state.stage) → suc (length m.told) ≤ c) → (m : Moment) → Run (start n k) m → length m.told ≤ c
  unfolding opening next after_take after_open
  most_told c f m (begins u h a s e) = omega arith
  most_told c f m (goes {m = w} r (take block) a) = most_told c f w r
  most_told c f m (goes {m = w} r open_reading a) = most_told c f w r
  most_told c f m (goes {m = w} r close a) =
      let H = run_holds r in
      elim (T_dec (is_building w.state.stage)) [
        | yes b ↦ omega (arith, ap length (building_next H b a), length-append w.told (w.telling ∷ []), f w H b)
        | no b ↦ omega (arith, ap length (settled_next H b close a).1, most_told c f w r)
      ]

  pub within_ceiling : {m : Moment} → Run (start n k) m → (length m.told ≤ ceiling n k) × (length m.told ≤ lower_ceiling n k)
  within_ceiling {m} r = (most_told (ceiling n k) (λ w. below_ceiling) m r, most_told (lower_ceiling n k) (λ w. below_more) m r)

-- While a run is in Building each of its closes was accepted.
was_building : {o : Origin} {m : Moment} → Holds o m → (c : Call) (a : Answered m c) → T (is_building (next m c a).state.stage) → T (is_building m.state.stage)
was_building {o} {m} H c a b = elim (T_dec (is_building m.state.stage)) [ yes x ↦ x | no x ↦ absurd ((settled_next H x c a).0 b) ]

closes_more : (cs : List Call) (c : Call) → closes_in (cs ++ (c ∷ [])) ≡ closes_in cs + closes_in (c ∷ [])
unfolding closes_in
closes_more [] c = omega arith
closes_more (take block ∷ cs) c = closes_more cs c
closes_more (close ∷ cs) c = ap suc (closes_more cs c) ∙ omega arith
closes_more (open_reading ∷ cs) c = closes_more cs c

pub all_accepted : {o : Origin} {m : Moment} (r : Run o m) → T (is_building m.state.stage) → closes_in (calls r) ≡ length m.told
unfolding calls closes_in next after_take after_open opening
all_accepted (begins f h a s e) b = refl
all_accepted (goes r (take block) a) b = omega (arith, closes_more (calls r) (take block), all_accepted r (was_building (run_holds r) (take block) a b))
all_accepted (goes {m} r close a) b =
    let w = was_building (run_holds r) close a b in
    omega (arith, ap length (building_next (run_holds r) w a), length-append m.told (m.telling ∷ []), closes_more (calls r) close, all_accepted r w)
all_accepted (goes r open_reading a) b = omega (arith, closes_more (calls r) open_reading, all_accepted r (was_building (run_holds r) open_reading a b))

-- An adopted forest was never in Building.
pub adopted_settled : {n k : ℕ} {ps : List ℕ} {m : Moment} → Run (adopt n k ps) m → Settled m × (m.told ≡ [])
unfolding opening
adopted_settled {n} {k} {ps} (begins f h a s e) =
    (rw (begun_state (adopt n k ps) f h s (begun_ready a s e).0) (λ x. x), refl)
adopted_settled (goes r c a) =
    let (b, t) = adopted_settled r in
    let (d, u) = settled_next (run_holds r) b c a in
    (d, u ∙ t)

-- Its parents are those that were given.
module _ {n k : ℕ} {ps : List ℕ} {m : Moment} (H : Holds (adopt n k ps) m) (b : Settled m) (e : m.told ≡ []) where
  adopted_parents : (v : ℕ) → v < n → par (tables_at m) v ≡ parent_in ps v
  unfolding forest_of passes
  adopted_parents v l =
      ap (λ (p : ℕ → ℕ). p v) (same_par (forest_at H b)) ∙ ap (λ (gs : List (List Link)). par (forest_of (adopt n k ps) gs) v) e ∙ adopted_par n ps v l

  pub adopted_forest : DepthFirst n (par (tables_at m)) (linked m.telling) ↔ DepthFirst n (parent_in ps) (linked m.telling)
  adopted_forest = (
    (λ d. depth_first_same n (par (tables_at m)) (parent_in ps) adopted_parents d.inside _ H.among d),
    (λ d. depth_first_same n (parent_in ps) (par (tables_at m)) (λ v l. sym (adopted_parents v l)) d.inside _ H.among d),
  )
