-- Words of a table that stay, and words that are 0. Definitions only.
-- Assumes nothing.
use Rattle.std.specs.Prelude.{ℕ, ◌≤◌, ◌<◌, ◌≡◌, List, length, get_or}

-- Only the words from a to b may differ.
pub record Only (a b : ℕ) (f g : List ℕ) : Type 0 where
  pub long : length g ≡ length f
  pub before : (i : ℕ) → i < a → get_or g i 0 ≡ get_or f i 0
  pub behind : (i : ℕ) → b ≤ i → get_or g i 0 ≡ get_or f i 0

-- The words from a to b are 0.
abbrev pub Blank : ℕ → ℕ → List ℕ → Type 0
Blank a b f = (i : ℕ) → a ≤ i → i < b → get_or f i 0 ≡ 0
