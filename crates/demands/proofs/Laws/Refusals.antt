-- What a refused call leaves, of any state and tables; and which refusals a moment of a run can meet.
-- Assumes nothing.
use Prim.Native.Nat.{ℕ, zero, suc, ◌+◌, ◌≤◌, ◌<◌}
use Rattle.std.specs.Prelude.{◌≡◌, Bool, not, List, ◌⊎◌, ◌≢◌, T, leb, length}
use Rattle.std.proofs.Math.Path.{refl, sym}
use Rattle.std.proofs.Common.{◌∙◌, arith}
use Rattle.std.proofs.Math.Logic.{inl, inr}
use Rattle.std.proofs.Math.Decide.{ℕ_discrete, dec_lt}
use Rattle.base.specs.Pick.{pick, pick_true, pick_false, pick_all, tests}
use Rattle.base.specs.Answer.{Answer, gives, refuses}
use Rattle.base.specs.Truth.{or_cases, T_dec, T_true, T_false}
use Rattle.base.specs.Link.{Link}
use Rattle.numbers.specs.Number.{read_number}
use Rattle.numbers.proofs.Theorems.{number_refusal}
use Rattle.lists.specs.List.{and_then, placed, joins, counts, read_ends, read_link, before, links_in, links_at, block_links}
use Rattle.lists.specs.Laws.Link.{never_both}
use Rattle.rules.specs.Tables.{Tables}
use Rattle.rules.specs.Building.{done}
use Rattle.rules.specs.Reading.{accepted}
use Rattle.rules.specs.Adopting.{adoptable}
use Rattle.rules.proofs.Laws.Adopting.{adoptable_exact}
use Rattle.state.specs.Layout.{tables_in, held_of}
use Rattle.state.specs.Test.{is_building, is_reading, sound}
use Rattle.state.specs.Call.{bounds_refusal, Left, head_refusal, headed, leaves}
use Rattle.state.specs.Adopt.{adopted_state, adopt_refusal, adopt_call}
use Rattle.state.specs.Take.{takes, taken, take_in, take_call}
use Rattle.state.specs.Close.{opens, open_call, Ending, end_building, end_reading, close_in, close_call}
use Rattle.state.specs.Ask.{ask_one, ask_two}
use Rattle.state.proofs.Laws.Sound.{sound_known, frag_found, held_found}
use Rattle.state.proofs.Laws.Keeps.{Passes, Head, AsFound, headed_all, headed_on, headed_off}
use Rattle.state.proofs.Laws.KeepsBegun.{adopt_makes}
use Rattle.state.specs.declared.State.{State}
use Rattle.state.specs.declared.Stage.{Stage}
use Rattle.demands.specs.Claims.{Leading, NotesLost}

-- A refused take or open reading leaves everything as found.
module _ (s : State) (f h : List ℕ) where
  abbrev Unchanged : Left (Unit {0}) → Type 0
  Unchanged l = (number place : ℕ) → l.answer ≡ refuses number place → AsFound s f h l

  taken_unchanged : (x : Answer (List Link)) → Unchanged (taken s f h x)
  unfolding taken leaves
  taken_unchanged (gives g) number place e = absurd (never_both refl e)
  taken_unchanged (refuses r q) number place e = (refl, refl, refl)

  pub take_unchanged : (block : List ℕ) → Unchanged (take_call s f h block)
  unfolding take_call take_in
  take_unchanged block = headed_all takes s f h Unchanged _ (λ H. taken_unchanged (block_links s.n s.entries block)) (λ r d number place e. (refl, refl, refl))

  pub open_unchanged : Unchanged (open_call s f h)
  unfolding open_call leaves
  open_unchanged = headed_all opens s f h Unchanged _ (λ H number place e. absurd (never_both refl e)) (λ r d number place e. (refl, refl, refl))

  -- Refusal 9.
  abbrev Loses : Left Ending → Type 0
  Loses l = (place : ℕ) → l.answer ≡ refuses 9 place → (place ≡ 0) × NotesLost s f h l.state l.frag l.held

  number_is : {A : Type 0} {r p q t : ℕ} → ◌≡◌ {A = Answer A} (refuses r p) (refuses q t) → r ≡ q
  number_is e = cc

  place_is : {A : Type 0} {r p q t : ℕ} → ◌≡◌ {A = Answer A} (refuses r p) (refuses q t) → p ≡ t
  place_is e = cc

  building_loses : (t : Tables) → Loses (end_building s t f h)
  unfolding end_building leaves
  building_loses t = pick_all Loses (done s.n t) _ _ (λ place e. absurd (never_both refl e)) (λ place e. absurd (never_both refl e))

  reading_loses : Head takes s f h → T (is_reading s.stage) → Loses (end_reading s (tables_in s f h) f h)
  unfolding end_reading leaves held_of
  reading_loses H r = pick_all Loses (accepted s.n (tables_in s f h)) _ _ (λ place e. absurd (never_both refl e)) (λ place e.
      let S = sound_known s f h H.bounds H.passes.tested in (
        sym (place_is e),
        record {
          was_reading = r;
          state_after = refl;
          frag_before = frag_found s f h H.bounds S;
          frag_after = refl;
          held_after = sym (held_found s f h H.bounds S);
        },
      ))

  pub close_loses : Loses (close_call s f h)
  unfolding close_call close_in
  close_loses = headed_all takes s f h Loses _
      (λ H. elim (T_dec (is_building s.stage)) [
        | yes b ↦ rw (T_true (is_building s.stage) b, pick_true) (building_loses _)
        | no b ↦ rw (T_false (is_building s.stage) b, pick_false) (elim (or_cases (is_building s.stage) (is_reading s.stage) H.allows) [
          | inl x ↦ absurd (b x)
          | inr r ↦ reading_loses H r
        ])
      ])
      (λ r d place e. absurd (d (number_is e)))

  pub nine_at : (place : ℕ) → (close_call s f h).answer ≡ refuses 9 place → place ≡ 0
  nine_at place e = (close_loses place e).0

-- Every refusal that an answer may be has a property.
abbrev pub Only : (ℕ → Type 0) → {A : Type 0} → Answer A → Type 0
Only P (gives a) = Unit
Only P (refuses number place) = P number

then_only : (P : ℕ → Type 0) {A B : Type 0} (x : Answer A) (f : A → Answer B) → Only P x → ((a : A) → Only P (f a)) → Only P (and_then x f)
unfolding and_then
then_only P (gives a) f p q = q a
then_only P (refuses number place) f p q = p

placed_only : (P : ℕ → Type 0) {A : Type 0} (at : ℕ) (x : Answer A) → Only P x → Only P (placed at x)
unfolding placed
placed_only P at (gives a) p = p
placed_only P at (refuses number place) p = p

-- A block is refused with 4, 5, 7, 8 or 12.
module _ (P : ℕ → Type 0) (p4 : P 4) (p5 : P 5) (p7 : P 7) (p8 : P 8) (p12 : P 12) where
  number_only : (s : List ℕ) (at : ℕ) → Only P (read_number s at)
  number_only s at = go (read_number s at) refl
    where
      go : (x : _) → read_number s at ≡ x → Only P x
      go (gives a) e = tt
      go (refuses number place) e = elim (number_refusal s at number place e).0 [ inl z ↦ rw z p7 | inr z ↦ rw z p8 ]

  link_only : (n entries : ℕ) (s : List ℕ) (at : ℕ) → Only P (read_link n entries s at)
  unfolding read_link read_ends joins counts
  link_only n entries s at =
      then_only P (placed at (read_ends s at)) _
      (placed_only P at (read_ends s at) (then_only P (read_number s at) _ (number_only s at) (λ a. then_only P (read_number s a.next) _ (number_only s a.next) (λ b. tt))))
      (λ l. pick_all (Only P) _ _ _ p4 (pick_all (Only P) _ _ _ p4 (pick_all (Only P) _ _ _ p5 (pick_all (Only P) _ _ _ p12 tt))))

  links_only : (turns n entries : ℕ) (s : List ℕ) (at : ℕ) → Only P (links_in turns n entries s at)
  unfolding links_in before
  links_only zero n entries s at = tt
  links_only (suc k) n entries s at =
      pick_all (Only P) (leb (length s) at) _ _ tt
      (then_only P (read_link n entries s at) _ (link_only n entries s at) (λ l. then_only P (links_in k n (entries + 1) s l.next) _ (links_only k n (entries + 1) s l.next) (λ ls. tt)))

  pub block_only : (n entries : ℕ) (s : List ℕ) → Only P (block_links n entries s)
  unfolding block_links links_at
  block_only n entries s = links_only _ n entries s 0

-- The head of a call at a moment of a run: 6 or nothing.
module _ (allowed : Stage → Bool) (s : State) (f h : List ℕ) (p : Passes s f h) where
  pub head_none : T (allowed s.stage) → head_refusal allowed s f h ≡ 0
  unfolding head_refusal pick
  head_none a = rw (p.in_bounds, T_true (allowed s.stage) a, T_true (sound s f h) p.tested) refl

  pub head_six : (T (allowed s.stage) → ⊥) → head_refusal allowed s f h ≡ 6
  unfolding head_refusal pick
  head_six a = rw (p.in_bounds, T_false (allowed s.stage) a) refl

  -- A question about one fragment,
  module _ {A : Type 0} (v : ℕ) (x : A) where
    pub one_given : T (allowed s.stage) → v < s.n → ask_one allowed s f h v x ≡ gives x
    unfolding ask_one
    one_given a l = rw (head_none a) (simp tests)

    pub one_far : T (allowed s.stage) → s.n ≤ v → ask_one allowed s f h v x ≡ refuses 4 0
    unfolding ask_one
    one_far a l = rw (head_none a) (simp tests)

    pub one_off : (T (allowed s.stage) → ⊥) → ask_one allowed s f h v x ≡ refuses 6 0
    unfolding ask_one
    one_off a = rw (head_six a) (simp tests)

  -- and about two.
  module _ {A : Type 0} (a b : ℕ) (x : A) where
    pub two_given : T (allowed s.stage) → a < s.n → b < s.n → a ≢ b → ask_two allowed s f h a b x ≡ gives x
    unfolding ask_two
    two_given c l i d = rw (head_none c) (simp tests)

    pub two_far : T (allowed s.stage) → (s.n ≤ a) ⊎ (s.n ≤ b) → ask_two allowed s f h a b x ≡ refuses 4 0
    unfolding ask_two
    two_far c (inl l) = rw (head_none c) (simp tests)
    two_far c (inr l) = rw (head_none c) (elim (dec_lt a s.n) [ yes i ↦ simp tests | no i ↦ simp tests ])

    pub two_same : T (allowed s.stage) → a < s.n → b < s.n → a ≡ b → ask_two allowed s f h a b x ≡ refuses 5 0
    unfolding ask_two
    two_same c l i d = rw (head_none c) (simp tests)

    pub two_off : (T (allowed s.stage) → ⊥) → ask_two allowed s f h a b x ≡ refuses 6 0
    unfolding ask_two
    two_off c = rw (head_six c) (simp tests)

-- Two fragments as a question meets them.
pub two_cases : (n a b : ℕ) → ((n ≤ a) ⊎ (n ≤ b)) ⊎ ((a < n) × (b < n) × Dec (a ≡ b))
two_cases n a b = elim (dec_lt a n) [
  | no l ↦ inl (inl (omega arith))
  | yes l ↦ elim (dec_lt b n) [
    | no i ↦ inl (inr (omega arith))
    | yes i ↦ inr (l, i, ℕ_discrete a b)
  ]
]

-- The refusals of every call where the test is passed: never 11.
abbrev pub Other : ℕ → Type 0
Other number = number ≢ 11

module _ (s : State) (f h : List ℕ) (p : Passes s f h) where
  headed_only : {A : Type 0} (allowed : Stage → Bool) (rest : Left A) → (T (allowed s.stage) → Only Other rest.answer) → Only Other (headed allowed s f h rest).answer
  headed_only allowed rest q = elim (T_dec (allowed s.stage)) [
    | yes a ↦ rw (headed_on allowed s f h p a rest) (q a)
    | no a ↦ rw (headed_off allowed s f h p a rest) (omega arith)
  ]

  taken_only : (x : Answer (List Link)) → Only Other x → Only Other (taken s f h x).answer
  unfolding taken leaves
  taken_only (gives g) q = tt
  taken_only (refuses number place) q = q

  pub take_only : (block : List ℕ) → Only Other (take_call s f h block).answer
  unfolding take_call take_in
  take_only block = headed_only takes _ (λ a. taken_only (block_links s.n s.entries block) (block_only Other (omega arith) (omega arith) (omega arith) (omega arith) (omega arith) s.n s.entries block))

  pub open_only : Only Other (open_call s f h).answer
  unfolding open_call leaves
  open_only = headed_only opens _ (λ a. tt)

  abbrev Ends : Left Ending → Type 0
  Ends l = Only Other l.answer

  pub close_only : Only Other (close_call s f h).answer
  unfolding close_call close_in end_building end_reading leaves
  close_only = headed_only takes _ (λ a. pick_all Ends _ _ _ (pick_all Ends _ _ _ tt tt) (pick_all Ends _ _ _ tt (omega arith)))

  module _ {A : Type 0} (allowed : Stage → Bool) (x : A) where
    pub one_only : (v : ℕ) → Only Other (ask_one allowed s f h v x)
    one_only v = elim (T_dec (allowed s.stage)) [
      | yes a ↦ elim (dec_lt v s.n) [
        | yes l ↦ rw (one_given allowed s f h p v x a l) tt
        | no l ↦ rw (one_far allowed s f h p v x a (omega arith)) (omega arith)
      ]
      | no a ↦ rw (one_off allowed s f h p v x a) (omega arith)
    ]

    pub two_only : (a b : ℕ) → Only Other (ask_two allowed s f h a b x)
    two_only a b = elim (T_dec (allowed s.stage)) [
      | yes c ↦ elim (two_cases s.n a b) [
        | inl z ↦ rw (two_far allowed s f h p a b x c z) (omega arith)
        | inr (l, i, z) ↦ elim z [ yes e ↦ rw (two_same allowed s f h p a b x c l i e) (omega arith) | no d ↦ rw (two_given allowed s f h p a b x c l i d) tt ]
      ]
      | no c ↦ rw (two_off allowed s f h p a b x c) (omega arith)
    ]

-- Adopt, where n, k and the lengths are good: accepted, or 10.
module _ (n k : ℕ) (ps f h : List ℕ) (b : bounds_refusal n k (length f) (length h) ≡ 0) (l : n ≤ length ps) where
  adopt_due : adopt_refusal n k ps (length f) (length h) ≡ pick (not (adoptable n ps)) 10 0
  unfolding adopt_refusal
  adopt_due = rw b (simp tests)

  pub adopt_good : Leading n ps → (adopt_call n k ps f h).answer ≡ gives (adopted_state n k)
  unfolding pick
  adopt_good q = (adopt_makes n k f h ps (adopt_due ∙ rw (T_true (adoptable n ps) ((adoptable_exact n ps).1 q)) refl)).0

  pub adopt_ten : (Leading n ps → ⊥) → (adopt_call n k ps f h).answer ≡ refuses 10 0
  unfolding adopt_call pick
  adopt_ten q = rw (adopt_due, T_false (adoptable n ps) (λ t. q ((adoptable_exact n ps).0 t))) refl
