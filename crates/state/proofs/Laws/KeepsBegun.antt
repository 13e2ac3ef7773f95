-- What start and adopt leave: where they are accepted, a state and tables that pass the test; where they are refused, the tables that were found.
-- Assumes nothing.
use Rattle.std.specs.Prelude.{ℕ, ◌≤◌, ◌≡◌, refl, List, T, ltb, eqb, length}
use Rattle.std.proofs.Common.{subst, lt→ltb, eq-eqb, ne_eqb}
use native.Mathlib.Omega.{arith}
use Rattle.std.proofs.Math.Decide.{ℕ_discrete, dec_lt}
use Rattle.base.specs.Pick.{pick, pick_true, pick_false}
use Rattle.base.specs.Answer.{gives, refuses}
use Rattle.lists.specs.Laws.Link.{never_both}
use Rattle.rules.specs.Tables.{Tables, fresh}
use Rattle.rules.specs.Adopting.{adoptable, adopted}
use Rattle.rules.proofs.Laws.Tables.{placed_loose}
use Rattle.rules.proofs.Laws.Adopting.{adopted_placed, adopted_rested, adopted_stands}
use Rattle.state.specs.Layout.{tables_in, frag_of, held_of}
use Rattle.state.specs.Call.{bounds_refusal, Begun}
use Rattle.state.specs.Start.{started, start_call}
use Rattle.state.specs.Adopt.{adopted_state, adopt_refusal, adopt_call}
use Rattle.state.proofs.Laws.Bounds.{Bounds, bounds_known}
use Rattle.state.proofs.Laws.Sound.{Agrees, laid_tables}
use Rattle.state.proofs.Laws.Start.{fresh_agrees}
use Rattle.state.proofs.Laws.Keeps.{Passes, laid_passes, none_due, rung, rung_not, rested_agrees}
use Rattle.state.specs.declared.State.{State}

-- What is asked of a call that begins a state.
pub record Begins (f h : List ℕ) (b : Begun) : Type 0 where
  -- 'What an accepted call leaves .. passes this test.'
  pub keeps : (s : State) → b.answer ≡ gives s → Passes s b.frag b.held
  -- 'leaves state and tables as found'
  pub same : (number place : ℕ) → b.answer ≡ refuses number place → (b.frag ≡ f) × (b.held ≡ h)

given_same : {A : Type 0} {x y : A} → gives x ≡ gives y → x ≡ y
given_same e = cc

-- Begun where no refusal is due.
abbrev begun : ℕ → State → Tables → List ℕ → List ℕ → Begun
begun r s t f h =
    pick (eqb r 0) (record { answer = gives s; frag = frag_of s.stage s.n t f; held = held_of s.n s.k t h }) (record { answer = refuses r 0; frag = f; held = h })

-- A call answers with the state s, and leaves words that hold the tables t.
abbrev pub MakesState : Begun → State → Tables → Type 0
MakesState b s t = (b.answer ≡ gives s) × (tables_in s b.frag b.held ≡ t)

begun_makes : (r : ℕ) (s : State) (t : Tables) (f h : List ℕ) → r ≡ 0 → Bounds s.n s.k (length f) (length h) → Agrees s t → MakesState (begun r s t f h) s t
begun_makes r s t f h e b a = rw (eq-eqb r 0 e, pick_true) (refl, laid_tables s t f h b.fragments a)

begins : (r : ℕ) (s : State) (t : Tables) (f h : List ℕ) → (r ≡ 0 → Bounds s.n s.k (length f) (length h) × Agrees s t)
    → Begins f h (begun r s t f h)
begins r s t f h ok = elim (ℕ_discrete r 0) [
  | yes e ↦
      let (b, a) = ok e in
      rw (eq-eqb r 0 e, pick_true) (record {
        keeps = λ s' x. subst (λ (y : State). Passes y (frag_of s.stage s.n t f) (held_of s.n s.k t h)) (given_same x) (laid_passes s t f h a b);
        same = λ number place x. absurd (never_both refl x);
      })
  | no d ↦ rw (ne_eqb r 0 d, pick_false) (record { keeps = λ s' x. absurd (never_both x refl); same = λ number place x. (refl, refl) })
]

module _ (n k : ℕ) (f h : List ℕ) where
  pub start_keeps : Begins f h (start_call n k f h)
  unfolding start_call
  start_keeps = begins (bounds_refusal n k (length f) (length h)) (started n k) (fresh n) f h (λ e.
      let b = bounds_known n k (length f) (length h) e in
      (b, fresh_agrees n k b.some_fragments b.some_room))

  pub start_makes : bounds_refusal n k (length f) (length h) ≡ 0 → MakesState (start_call n k f h) (started n k) (fresh n)
  unfolding start_call
  start_makes e =
      let b = bounds_known n k (length f) (length h) e in
      begun_makes (bounds_refusal n k (length f) (length h)) (started n k) (fresh n) f h e b (fresh_agrees n k b.some_fragments b.some_room)

  -- What is known where adopt refuses nothing.
  module _ (ps : List ℕ) where
    adopt_known : adopt_refusal n k ps (length f) (length h) ≡ 0 → Bounds n k (length f) (length h) × (n ≤ length ps) × T (adoptable n ps)
    unfolding adopt_refusal
    adopt_known e =
        let (z, e1) = none_due (bounds_refusal n k (length f) (length h)) _ e in
        let (l, e2) = rung (ltb (length ps) n) 2 _ e1 in
        let (q, e3) = rung_not (adoptable n ps) 9 0 e2 in
        (bounds_known n k (length f) (length h) z, elim (dec_lt (length ps) n) [ yes i ↦ absurd (l (lt→ltb (length ps) n i)) | no i ↦ omega arith ], q)

    adopted_agrees : 1 ≤ k → n ≤ length ps → T (adoptable n ps) → Agrees (adopted_state n k) (adopted n ps)
    adopted_agrees some l q =
        rested_agrees (adopted_state n k) (adopted n ps) (adopted_stands n ps l q) (adopted_rested n ps) some refl refl refl (omega arith)
        (λ v i z. absurd (placed_loose (adopted n ps) v (adopted_placed n ps v i) z)) (λ b. absurd b) (λ b. adopted_placed n ps) (λ b. b)

    pub adopt_keeps : Begins f h (adopt_call n k ps f h)
    unfolding adopt_call
    adopt_keeps = begins (adopt_refusal n k ps (length f) (length h)) (adopted_state n k) (adopted n ps) f h (λ e.
        let (b, l, q) = adopt_known e in
        (b, adopted_agrees b.some_room l q))

    pub adopt_makes : adopt_refusal n k ps (length f) (length h) ≡ 0 → MakesState (adopt_call n k ps f h) (adopted_state n k) (adopted n ps)
    unfolding adopt_call
    adopt_makes e =
        let (b, l, q) = adopt_known e in
        begun_makes (adopt_refusal n k ps (length f) (length h)) (adopted_state n k) (adopted n ps) f h e b (adopted_agrees b.some_room l q)
