-- The numbers follow from the forest alone.
-- Assumes nothing.
use Prim.Native.Nat.{ℕ, zero, suc, ◌+◌}
use Rattle.std.specs.Prelude.{◌≡◌, Bool, ◌&&◌, eqb}
use Rattle.std.proofs.Math.Path.{refl, ap}
use Rattle.std.proofs.Common.{◌∙◌}
use Rattle.std.proofs.Math.Bool.{not}
use Rattle.base.specs.Pick.{pick}
use Rattle.rules.specs.Search.{count, sum, first}
use Rattle.rules.specs.Tables.{Tables, par, lev}
use Rattle.rules.specs.Reading.{above, child_of}
use Rattle.rules.specs.Numbers.{below, below_if, beside, passed, turn_at, turn, end, at_turn}
use Rattle.rules.proofs.Laws.Tables.{SameForest, same_par, same_lev}
use Rattle.rules.proofs.Laws.Reading.{same_above}

module _ {s t : Tables} (e : SameForest s t) (n : ℕ) where
  same_below : (v : ℕ) → below n s v ≡ below n t v
  unfolding below
  same_below v = ap (λ (q : ℕ → ℕ → Bool). count (q v) n) (same_above e)

  same_passed : (v : ℕ) → passed n s v ≡ passed n t v
  unfolding passed below_if below beside child_of
  same_passed v =
      ap (λ (q : ℕ → ℕ → Bool). sum (λ c. pick (pick (eqb (par s v) v) (eqb (par s c) c) (eqb (par s c) (par s v) && not (eqb c (par s v)))) (count (q c) n) 0) v) (same_above e)
      ∙ ap (λ (p : ℕ → ℕ). sum (λ c. pick (pick (eqb (p v) v) (eqb (p c) c) (eqb (p c) (p v) && not (eqb c (p v)))) (count (above t c) n) 0) v) (same_par e)

  same_turn_at : (l v : ℕ) → turn_at n s l v ≡ turn_at n t l v
  unfolding turn_at
  same_turn_at zero v = same_passed v
  same_turn_at (suc l) v = ap (λ p. suc (turn_at n s l p) + passed n s v) (ap (λ (p : ℕ → ℕ). p v) (same_par e)) ∙ ap (λ i. suc i + passed n s v) (same_turn_at l (par t v)) ∙ ap (λ i. suc (turn_at n t l (par t v)) + i) (same_passed v)

  pub same_turn : (v : ℕ) → turn n s v ≡ turn n t v
  unfolding turn
  same_turn v = ap (λ (l : ℕ → ℕ). turn_at n s (l v) v) (same_lev e) ∙ same_turn_at (lev t v) v

  pub same_end : (v : ℕ) → end n s v ≡ end n t v
  unfolding end
  same_end v = ap (λ i. i + below n s v) (same_turn v) ∙ ap (λ i. turn n t v + i) (same_below v)

  first_same : (i m : ℕ) → first (λ v. eqb (turn n s v) i) m ≡ first (λ v. eqb (turn n t v) i) m
  unfolding first
  first_same i zero = refl
  first_same i (suc m) = rw (first_same i m, same_turn m)

  pub same_at_turn : (i : ℕ) → at_turn n s i ≡ at_turn n t i
  unfolding at_turn
  same_at_turn i = first_same i n
