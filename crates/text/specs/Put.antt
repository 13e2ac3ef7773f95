-- Text that is written into a lent buffer as far as it has room. Definitions only.
-- Assumes nothing.
use Rattle.std.specs.Prelude.{ℕ, ◌+◌, ◌≤◌, List, [], ◌≡◌, leb, length}
use Rattle.std.proofs.lemmas.List.Edits.{sets}
use Rattle.base.specs.Pick.{pick}

-- The greatest position from which text is written.
abbrev pub ample : ℕ
ample = 1000000000

-- `bytes` stands in the buffer from `at` on, as far as there is room, and `r` is the position behind it.
pub record Put (bytes : List ℕ) (at : ℕ) (out : List ℕ) (r : ℕ) (after : List ℕ) : Type 0 where
  pub end : r ≡ at + length bytes
  pub stored : after ≡ sets out at bytes

-- The same, with a bound on how far the position goes on.
pub record Line (bytes : List ℕ) (most at : ℕ) (out : List ℕ) (r : ℕ) (after : List ℕ) : Type 0 where
  pub put : Put bytes at out r after
  pub short : r ≤ at + most

-- A line behind the greatest position is left out.
unfoldable pub within : (at : ℕ) → List ℕ → List ℕ
within at bytes = pick (leb at ample) bytes []
