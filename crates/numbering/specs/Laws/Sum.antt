-- Sums that are no greater, and what stands below those that pass a test.
-- Assumes nothing.
use Rattle.std.specs.Prelude.{ℕ, zero, suc, ◌≤◌, ◌<◌, ◌≡◌, Bool, T}
use Rattle.std.proofs.Common.{sym, ◌∙◌, arith}
use Rattle.base.specs.Truth.{T_dec}
use Rattle.rules.specs.Search.{sum}
use Rattle.rules.specs.Tables.{Tables}
use Rattle.rules.specs.Numbers.{below_if}
use Rattle.rules.proofs.Laws.Sums.{sum_zero, sum_suc}
use Rattle.rules.proofs.Laws.Below.{below_if_yes, below_if_no}

pub sum_le : (f g : ℕ → ℕ) (n : ℕ) → ((i : ℕ) → i < n → f i ≤ g i) → sum f n ≤ sum g n
sum_le f g zero e = omega (arith, sum_zero f)
sum_le f g (suc n) e = omega (arith, sum_suc f n, sum_suc g n, e n (omega arith), sum_le f g n (λ i h. e i (omega arith)))

module _ (n : ℕ) (t : Tables) where
  pub if_same : (p q : ℕ → Bool) (c : ℕ) → (T (p c) → T (q c)) → (T (q c) → T (p c)) → below_if n t p c ≡ below_if n t q c
  if_same p q c to from = elim (T_dec (p c)) [
    | yes h ↦ below_if_yes n t p c h ∙ sym (below_if_yes n t q c (to h))
    | no h ↦ below_if_no n t p c h ∙ sym (below_if_no n t q c (λ k. h (from k)))
  ]

  pub if_le : (p q : ℕ → Bool) (c : ℕ) → (T (p c) → T (q c)) → below_if n t p c ≤ below_if n t q c
  if_le p q c to = elim (T_dec (p c)) [
    | yes h ↦ omega (arith, below_if_yes n t p c h, below_if_yes n t q c (to h))
    | no h ↦ omega (arith, below_if_no n t p c h)
  ]
