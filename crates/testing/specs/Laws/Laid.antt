-- The words of a table in which three sections are laid, and that a table with these words is the one.
-- Assumes nothing.
use Rattle.std.specs.Prelude.{ℕ, ◌+◌, ◌-◌, ◌*◌, ◌≤◌, ◌<◌, ◌≡◌, refl, List, ◌++◌, length, get_or, take, drop}
use Rattle.std.proofs.Common.{sym, ap, ◌∙◌, arith, length-append, ext_get_or, get_or-drop, get_or-append-add}
use Rattle.std.proofs.Math.Decide.{dec_lt}
use Rattle.std.proofs.Math.ListN.{length-take, length-drop, get_or-append}
use Rattle.std.proofs.Math.Seq.{get_or-take}
use Rattle.rules.specs.Search.{table}
use Rattle.rules.proofs.Laws.Search.{table_length, table_at}
use Rattle.testing.specs.Laid.{laid_at, Laid}

past_part : (p r : List ℕ) (m j : ℕ) → length p ≡ m → get_or (p ++ r) (m + j) 0 ≡ get_or r j 0
past_part p r m j e = ap (λ (k : ℕ). get_or (p ++ r) (k + j) 0) (sym e) ∙ get_or-append-add p r j 0

module _ (n j : ℕ) (a b c : ℕ → ℕ) (f : List ℕ) (long : (j + 3) * n ≤ length f) where
  abbrev low : List ℕ
  low = take (j * n) f

  abbrev laid : List ℕ
  laid = laid_at n j a b c f

  low_length : length low ≡ j * n
  low_length = simp length-take (omega arith)

  laid_length : length laid ≡ length f
  unfolding laid_at
  laid_length = simp (length-append, length-take, length-drop, table_length) (omega arith)

  laid_before : (i : ℕ) → i < j * n → get_or laid i 0 ≡ get_or f i 0
  unfolding laid_at
  laid_before i h = get_or-append low _ 0 i (omega (arith, low_length)) ∙ get_or-take (j * n) f i 0 h

  -- Word k of the three sections and what stands behind them.
  laid_on : (i k : ℕ) → i ≡ j * n + k → get_or laid i 0 ≡ get_or (table a n ++ (table b n ++ (table c n ++ drop ((j + 3) * n) f))) k 0
  unfolding laid_at
  laid_on i k e = rw e (past_part low _ (j * n) k low_length)

  laid_first : (v : ℕ) → v < n → get_or laid (j * n + v) 0 ≡ a v
  laid_first v h = laid_on (j * n + v) v refl ∙ get_or-append (table a n) _ 0 v (omega (arith, table_length a n)) ∙ table_at a n v 0 h

  laid_second : (v : ℕ) → v < n → get_or laid ((j + 1) * n + v) 0 ≡ b v
  laid_second v h =
      laid_on ((j + 1) * n + v) (n + v) (omega arith) ∙ past_part (table a n) _ n v (table_length a n)
      ∙ get_or-append (table b n) _ 0 v (omega (arith, table_length b n)) ∙ table_at b n v 0 h

  laid_third : (v : ℕ) → v < n → get_or laid ((j + 2) * n + v) 0 ≡ c v
  laid_third v h =
      laid_on ((j + 2) * n + v) (n + (n + v)) (omega arith) ∙ past_part (table a n) _ n (n + v) (table_length a n)
      ∙ past_part (table b n) _ n v (table_length b n)
      ∙ get_or-append (table c n) _ 0 v (omega (arith, table_length c n)) ∙ table_at c n v 0 h

  laid_behind : (i : ℕ) → (j + 3) * n ≤ i → get_or laid i 0 ≡ get_or f i 0
  laid_behind i h =
      let k = i - (j + 3) * n in
      let e : (j + 3) * n + k ≡ i = omega arith in
      laid_on i (n + (n + (n + k))) (omega arith) ∙ past_part (table a n) _ n (n + (n + k)) (table_length a n)
      ∙ past_part (table b n) _ n (n + k) (table_length b n) ∙ past_part (table c n) _ n k (table_length c n)
      ∙ get_or-drop ((j + 3) * n) f k 0 ∙ ap (λ (x : ℕ). get_or f x 0) e

  pub laid_words : Laid n j a b c f laid
  laid_words = record { only = record { long = laid_length; before = laid_before; behind = laid_behind }; first = laid_first; second = laid_second; third = laid_third }

  -- Two tables with these words have the same ones.
  same_word : {g k : List ℕ} → Laid n j a b c f g → Laid n j a b c f k → (i : ℕ) → get_or g i 0 ≡ get_or k i 0
  same_word {g} {k} p q i = elim (dec_lt i (j * n)) [
    | yes h ↦ p.only.before i h ∙ sym (q.only.before i h)
    | no h0 ↦ elim (dec_lt i ((j + 1) * n)) [
      | yes h ↦ at (j * n) (i - j * n) (omega arith) (p.first (i - j * n) (omega arith) ∙ sym (q.first (i - j * n) (omega arith)))
      | no h1 ↦ elim (dec_lt i ((j + 2) * n)) [
        | yes h ↦ at ((j + 1) * n) (i - (j + 1) * n) (omega arith) (p.second (i - (j + 1) * n) (omega arith) ∙ sym (q.second (i - (j + 1) * n) (omega arith)))
        | no h2 ↦ elim (dec_lt i ((j + 3) * n)) [
          | yes h ↦ at ((j + 2) * n) (i - (j + 2) * n) (omega arith) (p.third (i - (j + 2) * n) (omega arith) ∙ sym (q.third (i - (j + 2) * n) (omega arith)))
          | no h3 ↦ p.only.behind i (omega arith) ∙ sym (q.only.behind i (omega arith))
        ]
      ]
    ]
  ]
    where
      at : (m v : ℕ) → i ≡ m + v → get_or g (m + v) 0 ≡ get_or k (m + v) 0 → get_or g i 0 ≡ get_or k i 0
      at m v e w = rw e w

  pub laid_is : {g : List ℕ} → Laid n j a b c f g → g ≡ laid
  laid_is {g} p = ext_get_or 0 g laid (p.only.long ∙ sym laid_length) (λ i h. same_word p laid_words i)
