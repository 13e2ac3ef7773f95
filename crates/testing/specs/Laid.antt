-- Three sections laid in a fragment table, between the words that stood before and behind them. Definitions only.
-- Assumes nothing.
use Rattle.std.specs.Prelude.{ℕ, ◌+◌, ◌*◌, ◌<◌, ◌≡◌, List, ◌++◌, get_or, take, drop}
use Rattle.rules.specs.Search.{table}
use Rattle.testing.specs.Only.{Only}

-- Sections j, j + 1 and j + 2 of n words each hold a, b and c of each fragment.
unfoldable pub laid_at : (n j : ℕ) (a b c : ℕ → ℕ) → List ℕ → List ℕ
laid_at n j a b c f = take (j * n) f ++ (table a n ++ (table b n ++ (table c n ++ drop ((j + 3) * n) f)))

-- The same by the words.
pub record Laid (n j : ℕ) (a b c : ℕ → ℕ) (f g : List ℕ) : Type 0 where
  pub only : Only (j * n) ((j + 3) * n) f g
  pub first : (v : ℕ) → v < n → get_or g (j * n + v) 0 ≡ a v
  pub second : (v : ℕ) → v < n → get_or g ((j + 1) * n + v) 0 ≡ b v
  pub third : (v : ℕ) → v < n → get_or g ((j + 2) * n + v) 0 ≡ c v
