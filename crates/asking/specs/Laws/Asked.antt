-- What the head of a question gives, and the answers of the questions.
-- Assumes nothing.
use Rattle.std.specs.Prelude.{ℕ, ◌≤◌, ◌<◌, max, ◌≡◌, Bool, false, List}
use Rattle.std.proofs.Math.Path.{refl}
use Rattle.std.proofs.Common.{sym, ◌∙◌, arith}
use Rattle.std.proofs.Math.Decide.{ℕ_discrete, dec_lt}
use Rattle.base.specs.Pick.{tests}
use Rattle.base.specs.Truth.{true_T, or_r}
use Rattle.base.specs.Answer.{gives, refuses}
use Rattle.rules.specs.Tables.{parent_of, rank, note_of, placed, par, lev}
use Rattle.rules.specs.Reading.{above, lowest, reach, child_of, sole_below, sole, cut, root_of, piece}
use Rattle.state.specs.Layout.{tables_in, forest_in}
use Rattle.state.specs.Call.{head_refusal}
use Rattle.state.specs.Ask.{ask_one, ask_two}
use Rattle.state.specs.Test.{is_reading, is_read}
use Rattle.state.specs.declared.State.{State}
use Rattle.state.specs.declared.Stage.{Stage}
use Rattle.state.specs.declared.Stage.TheVariants.{Building}
use Rattle.testing.specs.Test.{head_but_links}
use Rattle.testing.specs.Whole.{Numbered}
use Rattle.testing.specs.Laws.Head.{head_known, head_is, head_passed}
use Rattle.testing.specs.Laws.Whole.{passed_numbered}
use Rattle.asking.specs.Asked.{ask_refusal}

-- The questions are asked of the fragment table alone.
module _ (s : State) (f h : List ℕ) where
  pub same_parent_of : (v : ℕ) → parent_of (forest_in s.n f) v ≡ parent_of (tables_in s f h) v
  unfolding parent_of tables_in
  same_parent_of v = refl

  pub same_lev : (v : ℕ) → lev (forest_in s.n f) v ≡ lev (tables_in s f h) v
  unfolding lev rank tables_in
  same_lev v = refl

  pub same_piece : (v : ℕ) → piece s.n (forest_in s.n f) v ≡ piece s.n (tables_in s f h) v
  unfolding piece root_of par lev placed rank parent_of tables_in
  same_piece v = refl

  pub same_sole : (a b : ℕ) → sole s.n (forest_in s.n f) a b ≡ sole s.n (tables_in s f h) a b
  unfolding sole sole_below reach above lowest child_of par lev placed rank parent_of note_of tables_in
  same_sole a b = refl

  pub same_cut : (v : ℕ) → cut s.n (forest_in s.n f) v ≡ cut s.n (tables_in s f h) v
  unfolding cut reach above lowest child_of par lev placed rank parent_of note_of tables_in
  same_cut v = refl

-- In Read the head lets a numbered table pass.
pub head_numbered : (s : State) (f h : List ℕ) (r : ℕ) (b : Bool) → b ≡ is_read s.stage → r ≡ head_but_links b s f h → r ≡ 0 → Numbered s.n f
head_numbered s f h r b eb er z =
    let p = head_passed is_read refl s f h r b eb er z in
    passed_numbered p (or_r (is_reading s.stage) (is_read s.stage) (true_T (is_read s.stage) (sym eb ∙ (head_known b s f h (sym er ∙ z)).may)))

-- The answers of a question about one fragment, r being the head's refusal.
module _ {A : Type 0} (allowed : Stage → Bool) (s : State) (f h : List ℕ) (r : ℕ) (e : r ≡ head_refusal allowed s f h) (x : A) (v : ℕ) where
  pub one_refused : (r ≡ 0 → ⊥) → refuses r 0 ≡ ask_one allowed s f h v x
  unfolding ask_one
  one_refused d = rw (← e) (simp tests)

  module _ (z : r ≡ 0) where
    pub one_far : s.n ≤ v → refuses 4 0 ≡ ask_one allowed s f h v x
    unfolding ask_one
    one_far l = rw (← e) (simp tests)

    pub one_answer : v < s.n → gives x ≡ ask_one allowed s f h v x
    unfolding ask_one
    one_answer l = rw (← e) (simp tests)

-- The answers of a question about two fragments.
module _ {A : Type 0} (allowed : Stage → Bool) (s : State) (f h : List ℕ) (r : ℕ) (e : r ≡ head_refusal allowed s f h) (x : A) (a b : ℕ) where
  pub two_refused : (r ≡ 0 → ⊥) → refuses r 0 ≡ ask_two allowed s f h a b x
  unfolding ask_two
  two_refused d = rw (← e) (simp tests)

  module _ (z : r ≡ 0) where
    pub two_first : s.n ≤ a → refuses 4 0 ≡ ask_two allowed s f h a b x
    unfolding ask_two
    two_first l = rw (← e) (simp tests)

    module _ (k : a < s.n) where
      pub two_second : s.n ≤ b → refuses 4 0 ≡ ask_two allowed s f h a b x
      unfolding ask_two
      two_second l = rw (← e) (simp tests)

      module _ (l : b < s.n) where
        pub two_same : a ≡ b → refuses 5 0 ≡ ask_two allowed s f h a b x
        unfolding ask_two
        two_same q = rw (← e) (simp tests)

        pub two_answer : (a ≡ b → ⊥) → gives x ≡ ask_two allowed s f h a b x
        unfolding ask_two
        two_answer q = rw (← e) (simp tests)

-- Which refusal is due at a question about v: r is the head's.
module _ (b : Bool) (s : State) (f h : List ℕ) (v : ℕ) where
  module _ (r : ℕ) (e : r ≡ head_but_links b s f h) where
    pub due_head : (r ≡ 0 → ⊥) → r ≡ ask_refusal b s f h v
    unfolding ask_refusal
    due_head d = rw (← e) (simp tests)

  module _ (z : head_but_links b s f h ≡ 0) where
    pub due_far : s.n ≤ v → 4 ≡ ask_refusal b s f h v
    unfolding ask_refusal
    due_far l = rw z (simp tests)

    pub due_none : v < s.n → 0 ≡ ask_refusal b s f h v
    unfolding ask_refusal
    due_none l = rw z (simp tests)

  -- What is known where none is due.
  pub ask_passed : ask_refusal b s f h v ≡ 0 → (head_but_links b s f h ≡ 0) × (v < s.n)
  ask_passed e = elim (ℕ_discrete (head_but_links b s f h) 0) [
    | no d ↦ absurd (d (due_head _ refl d ∙ e))
    | yes z ↦ elim (dec_lt v s.n) [
      | no d ↦ absurd (omega (arith, due_far z (omega arith) ∙ e))
      | yes l ↦ (z, l)
    ]
  ]

-- A question that is allowed in some stages, but never in Building: what it answers, d being the refusal that is due.
module _ (allowed : Stage → Bool) (never : allowed Building ≡ false) (s : State) (f h : List ℕ) (b : Bool) (eb : b ≡ allowed s.stage) where
  same_head : head_but_links b s f h ≡ head_refusal allowed s f h
  same_head = head_is allowed never s f h _ b eb refl

  module _ {A : Type 0} (x : A) (v d : ℕ) (e : d ≡ ask_refusal b s f h v) where
    pub ask_refused : (d ≡ 0 → ⊥) → refuses d 0 ≡ ask_one allowed s f h v x
    ask_refused k = elim (ℕ_discrete (head_but_links b s f h) 0) [
      | no q ↦ rw (e, ← due_head b s f h v _ refl q) (one_refused allowed s f h _ same_head x v q)
      | yes z ↦ elim (dec_lt v s.n) [
        | no l ↦ rw (e, ← due_far b s f h v z (omega arith)) (one_far allowed s f h _ same_head x v z (omega arith))
        | yes l ↦ absurd (k (e ∙ sym (due_none b s f h v z l)))
      ]
    ]

    pub ask_answer : d ≡ 0 → gives x ≡ ask_one allowed s f h v x
    ask_answer z = let p = ask_passed b s f h v (sym e ∙ z) in one_answer allowed s f h _ same_head x v p.0 p.1

  module _ {A : Type 0} (x : A) (v w m : ℕ) (em : m ≡ max v w) (d : ℕ) (e : d ≡ ask_refusal b s f h m) where
    pub both_refused : (d ≡ 0 → ⊥) → refuses d 0 ≡ ask_two allowed s f h v w x
    both_refused k = elim (ℕ_discrete (head_but_links b s f h) 0) [
      | no q ↦ rw (e, ← due_head b s f h m _ refl q) (two_refused allowed s f h _ same_head x v w q)
      | yes z ↦ elim (dec_lt v s.n) [
        | no l ↦ rw (e, ← due_far b s f h m z (omega arith)) (two_first allowed s f h _ same_head x v w z (omega arith))
        | yes l ↦ elim (dec_lt w s.n) [
          | no n ↦ rw (e, ← due_far b s f h m z (omega arith)) (two_second allowed s f h _ same_head x v w z l (omega arith))
          | yes n ↦ absurd (k (e ∙ sym (due_none b s f h m z (omega arith))))
        ]
      ]
    ]

    module _ (z : d ≡ 0) where
      pub both_same : v ≡ w → refuses 5 0 ≡ ask_two allowed s f h v w x
      both_same q = let p = ask_passed b s f h m (sym e ∙ z) in two_same allowed s f h _ same_head x v w p.0 (omega arith) (omega arith) q

      pub both_answer : (v ≡ w → ⊥) → gives x ≡ ask_two allowed s f h v w x
      both_answer q = let p = ask_passed b s f h m (sym e ∙ z) in two_answer allowed s f h _ same_head x v w p.0 (omega arith) (omega arith) q
