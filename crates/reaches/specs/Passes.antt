-- What the passes over the order do. Definitions only.
-- Assumes nothing.
use Rattle.std.specs.Prelude.{ℕ, ◌+◌, ◌*◌, ◌≤◌, ◌<◌, min, ◌≡◌, List, get_or, set}
use Rattle.rules.specs.Search.{least}
use Rattle.rules.specs.Tables.{Tables, par}
use Rattle.rules.specs.Reading.{above, lowest, root_of}
use Rattle.state.specs.Layout.{words, forest_in}
use Rattle.testing.specs.Whole.{Whole}
use Rattle.testing.specs.Only.{Only, Blank}
use Rattle.reaches.specs.Order.{Ordered}

-- A whole table with an order.
pub record Ready (n : ℕ) (f : List ℕ) : Type 0 where
  pub whole : Whole n f
  pub ordered : Ordered n (forest_in n f) f

-- One with an order whose scratch is 0.
pub record Layable (n : ℕ) (f : List ℕ) : Type 0 where
  pub ready : Ready n f
  pub blank : Blank (7 * n) (words * n) f

-- A value for each fragment stands from `base` on, in scratch.
pub record Sinkable (n base : ℕ) (f : List ℕ) : Type 0 where
  pub ready : Ready n f
  pub scratch : 7 * n ≤ base
  pub inside : base + n ≤ words * n

-- The parent's value becomes no greater than v's.
unfoldable pub sunk_at : (n base v : ℕ) → List ℕ → List ℕ
sunk_at n base v f =
    set f (base + par (forest_in n f) v) (min (get_or f (base + par (forest_in n f) v) 0) (get_or f (base + v) 0))

-- The least value of v and all below it.
unfoldable pub least_below : ℕ → Tables → (ℕ → ℕ) → ℕ → ℕ
least_below n t value v = least (above t v) value (value v) n

pub record Sinks (n base : ℕ) (f g : List ℕ) : Type 0 where
  pub only : Only base (base + n) f g
  pub each : (v : ℕ) → v < n → get_or g (base + v) 0 ≡ least_below n (forest_in n f) (λ u. get_or f (base + u) 0) v

-- v has its parent's value, in section 7.
unfoldable pub fallen_at : (n v : ℕ) → List ℕ → List ℕ
fallen_at n v f = set f (7 * n + v) (get_or f (7 * n + par (forest_in n f) v) 0)

-- Each fragment has its root's value.
pub record Falls (n : ℕ) (f g : List ℕ) : Type 0 where
  pub only : Only (7 * n) (8 * n) f g
  pub each : (v : ℕ) → v < n → get_or g (7 * n + v) 0 ≡ get_or f (7 * n + root_of (forest_in n f) v) 0

-- The values to begin with, of the first k: notes in section 10, own numbers in section 7.
pub record Low (n k : ℕ) (f g : List ℕ) : Type 0 where
  pub only : Only (10 * n) (11 * n) f g
  pub each : (v : ℕ) → v < k → get_or g (10 * n + v) 0 ≡ lowest (forest_in n f) v

pub record Own (n k : ℕ) (f g : List ℕ) : Type 0 where
  pub only : Only (7 * n) (8 * n) f g
  pub each : (v : ℕ) → v < k → get_or g (7 * n + v) 0 ≡ v
