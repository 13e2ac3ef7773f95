-- How far the search for the root of a tree has come. Definitions only.
-- Assumes nothing.
use Rattle.std.specs.Prelude.{ℕ, ◌≤◌, ◌<◌, ◌≡◌}
use Rattle.rules.specs.Tables.{Tables, par}
use Rattle.rules.specs.Numbers.{turn}

-- A root whose turn does not come behind v's.
pub record Top (n : ℕ) (t : Tables) (v r : ℕ) : Type 0 where
  pub fragment : r < n
  pub root : par t r ≡ r
  pub early : turn n t r ≤ turn n t v
