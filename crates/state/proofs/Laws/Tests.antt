-- The answers of tests that every stage asks: one fragment of the forest, every fragment, and words that are 0.
-- Assumes nothing.
use Prim.Native.Nat.{ℕ, suc, ◌+◌, ◌-◌, ◌*◌, ◌≤◌, ◌<◌, min}
use Rattle.std.specs.Prelude.{◌≡◌, Bool, true, false, ◌&&◌, ◌||◌, not, List, eqb, ltb, length, get_or, take, drop}
use Rattle.std.proofs.Math.Path.{refl, sym}
use Rattle.std.proofs.Common.{◌∙◌, add-one, drop_of_length-le, drop-cons}
use native.Mathlib.Omega.{arith}
use Rattle.std.proofs.Math.Decide.{ℕ_discrete, dec_le}
use Rattle.std.proofs.Math.Seq.{take-nil}
use Rattle.std.proofs.lemmas.List.{length-drop, take_min}
use borrow.Author.Tests.{le-ltb, eq-eqb, ne_eqb}
use Rattle.base.specs.Pick.{tests}
use Rattle.base.specs.Truth.{T_false, false_T}
use Rattle.rules.specs.Search.{every}
use Rattle.rules.proofs.Laws.Search.{every_at}
use Rattle.rules.specs.Tables.{Tables, parent_of, rank, note_of, mark_of, placed}
use Rattle.state.specs.Layout.{words}
use Rattle.state.specs.Call.{fragments_most, bounds_refusal, head_refusal}
use Rattle.state.specs.Test.{all_zero, stands_at, clear_at, sound}
use Rattle.state.specs.declared.State.{State}
use Rattle.state.specs.declared.Stage.{Stage}

-- A fragment table that is long enough for n fragments.
pub record Room (n : ℕ) (f : List ℕ) : Type 0 where
  pub few : n ≤ fragments_most
  pub long : words * n ≤ length f

none_of : (a b : Bool) → false ≡ (a && (b && false))
none_of true true = refl
none_of true false = refl
none_of false b = refl

-- 'a placed fragment is a root of level 0, or has a placed parent of level one less': p and r are v's words, q its parent's.
module _ (n : ℕ) (t : Tables) (v p r : ℕ) (ep : p ≡ parent_of t v) (er : r ≡ rank t v) where
  pub stands_root : p ≡ v → eqb r 1 ≡ stands_at n t v
  unfolding stands_at
  stands_root e =
      let q : parent_of t v ≡ v = sym ep ∙ e in
      let z : r ≡ suc r → ⊥ = λ z. omega arith in
      elim (ℕ_discrete r 1) [
        | yes o ↦ rw (q, ← er, eq-eqb v v refl, eq-eqb r 1 o)
        | no o ↦ rw (q, ← er, eq-eqb v v refl, ne_eqb r 1 o, ne_eqb r (suc r) z) (none_of (ltb v n) (placed t v))
      ]

  module _ (d : p ≡ v → ⊥) where
    pub stands_far : n ≤ p → false ≡ stands_at n t v
    unfolding stands_at
    stands_far g = rw (← ep, ← er) (simp tests)

    module _ (g : p < n) (q : ℕ) (eq : q ≡ rank t p) where
      pub stands_loose : q ≡ 0 → false ≡ stands_at n t v
      unfolding stands_at placed
      stands_loose e = let o : q ≤ 0 = omega arith in rw (← ep, ← er, ← eq, le-ltb 0 q o) (simp tests)

      pub stands_under : (q ≡ 0 → ⊥) → eqb r (q + 1) ≡ stands_at n t v
      unfolding stands_at placed
      stands_under e = let o : 0 < q = omega arith in rw (← ep, ← er, ← eq, add-one) (simp tests)

-- Notes and marks that are cleared.
module _ (t : Tables) (v o : ℕ) (eo : o ≡ note_of t v) where
  pub clear_not : (o ≡ 0 → ⊥) → false ≡ clear_at t v
  unfolding clear_at
  clear_not d = rw (← eo) (simp tests)

  pub clear_so : (m : ℕ) → m ≡ mark_of t v → o ≡ 0 → eqb m 0 ≡ clear_at t v
  unfolding clear_at
  clear_so m em e = rw (← eo, ← em) (simp tests)

-- A loop that leaves at the first v that fails.
module _ (p : ℕ → Bool) where
  pub every_none : every p 0 ≡ true
  unfolding every
  every_none = refl

  pub every_more : (v : ℕ) → every p v ≡ true → p v ≡ true → every p (v + 1) ≡ true
  unfolding every
  every_more v e q = rw (add-one, q, e)

  pub every_fails : (v n : ℕ) → v < n → p v ≡ false → false ≡ every p n
  every_fails v n l q = sym (T_false (every p n) (λ t. false_T (p v) q (every_at p n t v l)))

-- The same over the words of a list.
pub zero_none : (l : List ℕ) (m : ℕ) → m ≡ 0 → true ≡ all_zero (take m l)
unfolding all_zero
zero_none l m e = rw e

pub zero_ends : (l : List ℕ) (i e : ℕ) → min e (length l) ≤ i → true ≡ all_zero (take (e - i) (drop i l))
unfolding all_zero
zero_ends l i e h = elim (dec_le e i) [
  | yes g ↦ zero_none (drop i l) (e - i) (omega arith)
  | no g ↦ rw (drop_of_length-le l {i = i} (omega arith), take-nil (e - i))
]

pub and_true_right : (a : Bool) → a && true ≡ a
and_true_right true = refl
and_true_right false = refl

-- What lies within the table decides.
pub zero_part : (l : List ℕ) (from to end : ℕ) → end ≡ min to (length l)
    → all_zero (take (end - min from end) (drop (min from end) l)) ≡ all_zero (take (to - from) (drop from l))
zero_part l from to end e = elim (dec_le from end) [
  | yes h ↦
      let m : min from end ≡ from = omega arith in
      let k : end - from ≡ min (to - from) (length (drop from l)) = simp length-drop (omega arith) in
      rw (m, k, take_min (to - from) (drop from l)) refl
  | no h ↦ sym (zero_none (drop (min from end) l) (end - min from end) (omega arith)) ∙ zero_ends l from to (omega arith)
]

-- One word more: what was found before it, and what is left.
pub zero_more : (l : List ℕ) (i e : ℕ) (found : Bool) → i < length l → i < e
    → not (not (eqb (get_or l i 0) 0) || found) && all_zero (take (e - (i + 1)) (drop (i + 1) l)) ≡ not found && all_zero (take (e - i) (drop i l))
unfolding all_zero
zero_more l i e found h g =
    let q : e - i ≡ suc (e - suc i) = omega arith in
    rw (add-one, q, drop-cons l i 0 h) (apart (eqb (get_or l i 0) 0) found (all_zero (take (e - suc i) (drop (suc i) l))))
  where
    apart : (a b c : Bool) → not (not a || b) && c ≡ not b && (a && c)
    apart true b c = refl
    apart false true c = refl
    apart false false c = refl

pub zero_next : (l : List ℕ) (i : ℕ) (found : Bool) → i < length l
    → not (found || not (eqb (get_or l i 0) 0)) && all_zero (drop (i + 1) l) ≡ not found && all_zero (drop i l)
unfolding all_zero
zero_next l i found h = rw (add-one, drop-cons l i 0 h) (apart (eqb (get_or l i 0) 0) found (all_zero (drop (suc i) l)))
  where
    apart : (a b c : Bool) → not (b || not a) && c ≡ not b && (a && c)
    apart a true c = refl
    apart true false c = refl
    apart false false c = refl

pub zero_last : (l : List ℕ) (i : ℕ) (found : Bool) → length l ≤ i → not found ≡ not found && all_zero (drop i l)
unfolding all_zero
zero_last l i found h = rw (drop_of_length-le l {i = i} h) (sym (and_true_right (not found)))

-- The refusal that is due at the head of a call, step by step: b is the answer of the bounds.
module _ (allowed : Stage → Bool) (s : State) (f h : List ℕ) (b : ℕ) (eb : b ≡ bounds_refusal s.n s.k (length f) (length h)) where
  pub head_bounds : (b ≡ 0 → ⊥) → b ≡ head_refusal allowed s f h
  unfolding head_refusal
  head_bounds d = rw (← eb) (simp tests)

  module _ (h1 : b ≡ 0) where
    pub head_stage : allowed s.stage ≡ false → 6 ≡ head_refusal allowed s f h
    unfolding head_refusal
    head_stage e = rw (← eb, h1, e) (simp tests)

    module _ (h2 : allowed s.stage ≡ true) where
      pub head_unsound : false ≡ sound s f h → 11 ≡ head_refusal allowed s f h
      unfolding head_refusal
      head_unsound e = rw (← eb, h1, h2, ← e) (simp tests)

      pub head_sound : true ≡ sound s f h → 0 ≡ head_refusal allowed s f h
      unfolding head_refusal
      head_sound e = rw (← eb, h1, h2, ← e) (simp tests)
