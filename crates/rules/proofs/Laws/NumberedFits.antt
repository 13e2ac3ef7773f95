-- The numbers of a forest fit: each fragment's those of its parent, its first child and the next one beside it.
-- Assumes nothing.
use Rattle.std.specs.Prelude.{ℕ, suc, ◌<◌, ◌≡◌}
use Rattle.std.proofs.Common.{sym, ap, ◌∙◌, subst, inl, inr, arith}
use Rattle.rules.specs.Forest.{Levels}
use Rattle.rules.specs.Tables.{Tables, par, lev}
use Rattle.rules.specs.Numbers.{turn, end}
use Rattle.rules.proofs.Laws.Up.{par_in}
use Rattle.rules.proofs.Laws.Numbers.{turn_in_lem, at_turn_lem, turn_end, child_turn, next_root, next_child, first_child}
use Rattle.rules.proofs.Laws.Fits.{Under, FitsAt, NumberedAt}

module _ (n : ℕ) (t : Tables) (P E O : ℕ → ℕ) (L : Levels n (par t) (lev t)) (N : (v : ℕ) → v < n → NumberedAt n t P E O v) where
  -- Whose turn is i.
  whose_at : (u i : ℕ) → u < n → turn n t u ≡ i → (i < n) × (O i ≡ u)
  whose_at u i h e =
      let l : turn n t u < n = turn_in_lem n t L u h in
      subst (λ (j : ℕ). (j < n) × (O j ≡ u)) e (l, (N (turn n t u) l).whose ∙ at_turn_lem n t L u h)

  under : (u p i : ℕ) → u < n → par t u ≡ p → turn n t u ≡ i → Under n t P E O p i
  under u p i h e q = let (l, w) = whose_at u i h q in record { early = l; one = rw w h; under = ap (par t) w ∙ e }

  pub numbered_fits : (v : ℕ) → v < n → FitsAt n t P E O v
  numbered_fits v h =
      let p : P v ≡ turn n t v = (N v h).turns in
      let e : E v ≡ end n t v = (N v h).ends in
      let (l, w) = whose_at v (P v) h (sym p) in
      record {
        inside = l;
        back = w;
        wide = omega (arith, turn_end n t L v h);
        first_child = elim (first_child n t L v h) [
          | inl a ↦ inl (omega arith)
          | inr (u, hu, q, d, a) ↦ inr (under u v (suc (P v)) hu q (omega arith))
        ];
        next_root = λ r. elim (next_root n t L v h r) [
          | inl a ↦ inl (e ∙ a)
          | inr (u, hu, q, g, a) ↦ let (i, o) = whose_at u (E v) hu (a ∙ sym e) in inr (record { early = i; one = rw o hu; root = ap (par t) o ∙ q ∙ sym o; rises = rw o g })
        ];
        later = λ d. omega (arith, child_turn n t L v h d, (N (par t v) (par_in L v h)).turns);
        next_child = λ d. elim (next_child n t L v h d) [
          | inl a ↦ inl (omega (arith, (N (par t v) (par_in L v h)).ends))
          | inr (u, hu, q, g, a) ↦ inr (under u (par t v) (E v) hu q (a ∙ sym e), rw (whose_at u (E v) hu (a ∙ sym e)).1 g)
        ];
      }
