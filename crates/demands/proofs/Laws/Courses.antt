-- What the whole course of a building comes to.
-- Assumes nothing.
use Prim.Native.Nat.{ℕ, suc, ◌+◌, ◌≤◌}
use Rattle.std.specs.Prelude.{◌≡◌, refl, ◌⊎◌, ◌↔◌, T}
use Rattle.std.proofs.Common.{sym, ap, ◌∙◌, subst, arith}
use mathlib.Core.List.{List, [], ◌∷◌, ◌++◌, map, append_assoc, append-nil}
use Rattle.std.proofs.Math.Logic.{inl, inr}
use Rattle.std.proofs.Math.ListN.{length, length-append}
use Rattle.base.specs.Answer.{gives}
use Rattle.base.specs.Truth.{T_dec, or_l}
use Rattle.base.specs.Link.{Link}
use Rattle.rules.specs.Links.{Links, linked, Tells, Each}
use Rattle.rules.specs.Forest.{DepthFirst}
use Rattle.rules.specs.Building.{close_building, done, ceiling}
use Rattle.rules.specs.Adopting.{parent_in}
use Rattle.rules.proofs.Laws.Append.{each_snoc}
use Rattle.state.specs.Test.{is_building, is_built, is_reading, is_read}
use Rattle.state.specs.Call.{moved}
use Rattle.state.specs.Take.{takes}
use Rattle.state.proofs.Laws.KeepsTables.{reads_settled}
use Rattle.state.specs.declared.State.{State}
use Rattle.state.specs.declared.Stage.{Stage}
use Rattle.state.specs.declared.Stage.TheVariants.{Building, Built, Reading, Read}
use Rattle.demands.specs.Run.{Origin, start, adopt, Call, take, close, open_reading, Moment, Answered, next, begun_by, opening, Run, begins, goes, calls, fragments, tables_at}
use Rattle.demands.specs.Step.{step, after}
use Rattle.demands.specs.Course.{Adds, none, more, PassTells, AllTell, pass_calls, build_calls, read_calls}
use Rattle.demands.proofs.Laws.Steps.{take_off, take_on, close_off, whole_on, more_on, open_on}
use Rattle.demands.proofs.Laws.Answered.{next_step, begun_ready, begun_given, begun_exists, take_exists, open_exists, close_exists}
use Rattle.demands.proofs.Laws.Runs.{Holds, first_state, begun_state, opening_same, begins_hold, step_holds}
use Rattle.demands.proofs.Laws.Results.{accepts_exactly, below_ceiling, read_next, reads_accepted, read_from}
use Rattle.demands.proofs.Laws.Counts.{adopted_forest}

holds_after : {o : Origin} {m : Moment} → Holds o m → (cs : List Call) → Holds o (after m cs)
unfolding after
holds_after H [] = H
holds_after {m = m} H (c ∷ cs) = holds_after {m = step m c} (step_holds H c) cs

after_append : (m : Moment) (cs ds : List Call) → after m (cs ++ ds) ≡ after (after m cs) ds
unfolding after
after_append m [] ds = refl
after_append m (c ∷ cs) ds = after_append (step m c) cs ds

-- The blocks of a pass, where they are taken,
record Took (m w : Moment) (g : List Link) : Type 0 where
  same_stage : w.state.stage ≡ m.state.stage
  same_told : w.told ≡ m.told
  telling_more : w.telling ≡ m.telling ++ g

takes_blocks : {o : Origin} {m : Moment} → Holds o m → (n e : ℕ) → m.state.n ≡ n → m.state.entries ≡ e → T (takes m.state.stage)
    → (blocks : List (List ℕ)) (g : List Link) → Adds n e blocks g → Took m (after m (map take blocks)) g
unfolding after moved
takes_blocks H n e p q c [] g none = record { same_stage = refl; same_told = refl; telling_more = sym (append-nil _) }
takes_blocks {o} {m} H n e p q c (block ∷ blocks) g (more {g = a} {h = b} x y) =
    let L = take_on m H.tested block c a (rw (p, q) x) in
    let K = takes_blocks {m = step m (take block)} (step_holds H (take block)) n (e + length a) (ap (λ (s : State). s.n) L.state ∙ p) (ap (λ (s : State). s.entries) L.state ∙ ap (λ (i : ℕ). i + length a) q)
    (rw L.state c) blocks b y in
    record {
      same_stage = K.same_stage ∙ ap (λ (s : State). s.stage) L.state;
      same_told = K.same_told ∙ L.as_told;
      telling_more = K.telling_more ∙ rw L.as_telling (append_assoc m.telling a b);
    }

-- and where the stage does not allow it.
takes_none : {o : Origin} {m : Moment} → Holds o m → (T (takes m.state.stage) → ⊥) → (blocks : List (List ℕ)) → after m (map take blocks) ≡ m
unfolding after
takes_none H c [] = refl
takes_none {o} {m} H c (block ∷ blocks) = ap (λ (w : Moment). after w (map take blocks)) (take_off m H.tested block c) ∙ takes_none H c blocks

pass_after : (m : Moment) (blocks : List (List ℕ)) → after m (pass_calls blocks) ≡ step (after m (map take blocks)) close
unfolding after pass_calls
pass_after m blocks = after_append m (map take blocks) (close ∷ [])

-- Between two passes that told E, after p of them: in Building, and then each was one, or Built.
record Between (n k : ℕ) (E : Links) (p : ℕ) (m : Moment) : Type 0 where
  holds : Holds (start n k) m
  quiet : m.telling ≡ []
  tell : Each (Tells E) m.told
  stage : (T (is_building m.state.stage) × (length m.told ≡ p)) ⊎ T (is_built m.state.stage)

none_entered : {o : Origin} {m : Moment} → Holds o m → m.telling ≡ [] → m.state.entries ≡ 0
none_entered H e = H.entered ∙ ap length e

built_takes : (g : Stage) → T (is_built g) → T (takes g) → ⊥
built_takes Building b t = b
built_takes Built b t = t
built_takes Reading b t = b
built_takes Read b t = b

-- The reading pass up to its close.
record Reads (o : Origin) (told : List (List Link)) (g : List Link) (w : Moment) : Type 0 where
  holds : Holds o w
  reading : T (is_reading w.state.stage)
  same_told : w.told ≡ told
  telling : w.telling ≡ g

reads_by : {o : Origin} {m : Moment} → Holds o m → T (is_built m.state.stage) → (blocks : List (List ℕ)) (g : List Link) → Adds (fragments o) 0 blocks g
    → Reads o m.told g (after (step m open_reading) (map take blocks))
unfolding moved
reads_by {o} {m} B b blocks g a =
    let L = open_on m B.tested (or_l (is_built m.state.stage) _ b) in
    let H = step_holds B open_reading in
    let K = takes_blocks H (fragments o) 0 H.size (none_entered H L.as_telling) (rw L.state tt) blocks g a in
    record {
      holds = holds_after H (map take blocks);
      reading = rw (K.same_stage, L.state) tt;
      same_told = K.same_told ∙ L.as_told;
      telling = K.telling_more ∙ rw L.as_telling refl;
    }

reads_after : (m : Moment) (blocks : List (List ℕ)) → after m (read_calls blocks) ≡ step (after (step m open_reading) (map take blocks)) close
unfolding after read_calls
reads_after m blocks = pass_after (step m open_reading) blocks

module _ {n k : ℕ} {E : Links} where
  counted_as : {p q : ℕ} {m : Moment} → p ≡ q → Between n k E p m → Between n k E q m
  counted_as {p} {q} {m} e B = subst (λ (i : ℕ). Between n k E i m) e B

  -- The close of a pass that told g.
  closed_between : {p : ℕ} {w : Moment} → Holds (start n k) w → T (is_building w.state.stage) → (told : List (List Link)) (g : List Link) → w.told ≡ told → w.telling ≡ g
      → Each (Tells E) told → Tells E g → length told ≡ p → Between n k E (suc p) (step w close)
  unfolding moved
  closed_between {p} {w} H b told g e f each t l =
      let each' : Each (Tells E) (w.told ++ (w.telling ∷ [])) = rw (e, f) (each_snoc (Tells E) told g each t) in
      let long : length (w.told ++ (w.telling ∷ [])) ≡ suc p = rw e (omega (arith, length-append told (w.telling ∷ []))) in
      elim (T_dec (done w.state.n (close_building w.state.n (tables_at w)))) [
        | yes d ↦
            let L = whole_on w H.tested b d in
            record { holds = step_holds H close; quiet = L.as_telling; tell = rw L.as_told each'; stage = inr (rw L.state tt) }
        | no d ↦
            let L = more_on w H.tested b d in
            record { holds = step_holds H close; quiet = L.as_telling; tell = rw L.as_told each'; stage = inl (rw L.state tt, rw L.as_told long) }
      ]

  pass_between : {p : ℕ} {m : Moment} → Between n k E p m → (blocks : List (List ℕ)) → PassTells n E blocks → Between n k E (suc p) (after m (pass_calls blocks))
  pass_between {p} {m} B blocks (g, a, t) = rw (pass_after m blocks) (elim B.stage [
    | inl (b, l) ↦
        let K = takes_blocks B.holds n 0 B.holds.size (none_entered B.holds B.quiet) (or_l (is_building m.state.stage) (is_reading m.state.stage) b) blocks g a in
        closed_between (holds_after B.holds (map take blocks)) (rw K.same_stage b) m.told g K.same_told (K.telling_more ∙ rw B.quiet refl) B.tell t l
    | inr b ↦
        let c = built_takes m.state.stage b in
        rw (takes_none B.holds c blocks, close_off m B.holds.tested c) (record { holds = B.holds; quiet = B.quiet; tell = B.tell; stage = inr b })
  ])

  passes_between : {p : ℕ} {m : Moment} → Between n k E p m → (passes : List (List (List ℕ))) → AllTell n E passes → Between n k E (length passes + p) (after m (build_calls passes))
  unfolding after build_calls
  passes_between B [] a = counted_as (omega arith) B
  passes_between {p} {m} B (blocks ∷ passes) (a, each) =
      rw (after_append m (pass_calls blocks) (build_calls passes)) (counted_as {p = length passes + suc p} (omega arith) (passes_between {p = suc p} (pass_between B blocks a) passes each))

  -- So many passes that Building is over.
  built_by : {p : ℕ} {m : Moment} → Between n k E p m → ceiling n k ≤ p → T (is_built m.state.stage)
  built_by B l = elim B.stage [
    | inr b ↦ b
    | inl (b, e) ↦ absurd (omega (arith, below_ceiling B.holds b))
  ]

-- The first moment of a run.
record First (o : Origin) (w : Moment) : Type 0 where
  holds : Holds o w
  state : w.state ≡ first_state o
  quiet : w.telling ≡ []
  none_told : w.told ≡ []

-- Its calls lead from there to where it has come.
run_from : {o : Origin} {m : Moment} (r : Run o m) → (w : Moment) × First o w × (m ≡ after w (calls r))
unfolding calls after opening
run_from {o} (begins f h a s e) = (opening s a.frag a.held, record { holds = begins_hold o f h a s e; state = begun_state o f h s (begun_ready a s e).0; quiet = refl; none_told = refl }, refl)
run_from (goes {m} r c a) =
    let (w, F, p) = run_from r in
    (w, F, next_step m c a ∙ ap (λ (x : Moment). step x c) p ∙ sym (after_append w (calls r) (c ∷ [])))

-- A run goes on with any calls.
pub some_answer : (m : Moment) (c : Call) → Answered m c
some_answer m (take block) = take_exists m.state m.frag m.held block
some_answer m close = close_exists m.state m.frag m.held
some_answer m open_reading = open_exists m.state m.frag m.held

pub follow : {o : Origin} {m : Moment} (r : Run o m) (cs : List Call) → (q : Run o (after m cs)) × (calls q ≡ calls r ++ cs)
unfolding calls after
follow r [] = (r, sym (append-nil (calls r)))
follow {o} {m} r (c ∷ cs) =
    let a = some_answer m c in
    let (q, e) = subst (λ (x : Moment). (q : Run o (after x cs)) × (calls q ≡ (calls r ++ (c ∷ [])) ++ cs)) (next_step m c a) (follow {m = next m c a} (goes r c a) cs) in
    (q, e ∙ append_assoc (calls r) (c ∷ []) cs)

-- There is a run of any calls after a first one that is accepted.
pub run_of : (o : Origin) (f h : List ℕ) (s : State) → (begun_by o f h).answer ≡ gives s → (cs : List Call) → (r : Run o (after (opening s (begun_by o f h).frag (begun_by o f h).held) cs)) × (calls r ≡ cs)
unfolding calls
run_of o f h s e cs =
    let a = begun_exists (begun_by o f h) in
    let z = begun_given a s e in
    subst (λ (w : Moment). (r : Run o (after w cs)) × (calls r ≡ cs)) (sym (opening_same o f h a s z)) (follow (begins f h a s z) cs)

-- The course: from a start, so many passes as the ceiling says, or more, and the reading pass, all of them telling E.
pub course_ends : {n k : ℕ} {m : Moment} (r : Run (start n k) m) (E : Links) (passes : List (List (List ℕ))) (reading : List (List ℕ)) → calls r ≡ build_calls passes ++ read_calls reading
    → AllTell n E passes → PassTells n E reading → ceiling n k ≤ length passes → T (is_read m.state.stage) × Tells E m.telling
course_ends {n} {k} {m} r E passes reading c each (g, a, t) l =
    let (w, F, p) = run_from r in
    let B = passes_between (record { holds = F.holds; quiet = F.quiet; tell = rw F.none_told tt; stage = inl (rw F.state tt, ap length F.none_told) }) passes each in
    let R = reads_by B.holds (built_by B (omega arith)) reading g a in
    let u = after (step (after w (build_calls passes)) open_reading) (map take reading) in
    let e : m ≡ step u close = p ∙ ap (after w) c ∙ after_append w (build_calls passes) (read_calls reading) ∙ reads_after (after w (build_calls passes)) reading in
    let (z, f) = read_next R.holds R.reading (reads_accepted R.holds R.reading E (rw R.same_told B.tell) (rw R.telling t)) in
    (rw e z, rw (e, f, R.telling) t)

-- An adopted forest, read.
pub adopted_reads : {n k : ℕ} {ps : List ℕ} {m : Moment} (r : Run (adopt n k ps) m) (blocks : List (List ℕ)) (g : List Link) → Adds n 0 blocks g → calls r ≡ read_calls blocks
    → T (is_read m.state.stage) ↔ DepthFirst n (parent_in ps) (linked g)
adopted_reads {n} {k} {ps} {m} r blocks g a c =
    let (w, F, p) = run_from r in
    let R = reads_by F.holds (rw F.state tt) blocks g a in
    let u = after (step w open_reading) (map take blocks) in
    let e : m ≡ step u close = p ∙ ap (after w) c ∙ reads_after w blocks in
    let b = reads_settled u.state.stage R.reading in
    let A = accepts_exactly R.holds b in
    let (i, j) = adopted_forest R.holds b (R.same_told ∙ F.none_told) in (
      (λ z. rw R.telling at (i (A.0 (read_from R.holds R.reading (rw e at z))))),
      (λ d. rw e (read_next R.holds R.reading (A.1 (j (rw R.telling d)))).0),
    )
