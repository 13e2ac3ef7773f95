-- How far a walk over the turns of those below a fragment has come. Definitions only.
-- Assumes nothing.
use Rattle.std.specs.Prelude.{ℕ, ◌≤◌, ◌<◌, ◌≡◌, Bool, ◌&&◌, T, leb}
use Rattle.rules.specs.Tables.{Tables, lev}
use Rattle.rules.specs.Reading.{above, lowest, reach, child_of}
use Rattle.rules.specs.Numbers.{turn, end, at_turn}

-- c is a child of v that does not reach above v.
unfoldable pub shut : ℕ → Tables → ℕ → ℕ → Bool
shut n t v c = child_of t v c && leb (lev t v) (reach n t c)

-- x is the least note of v and those below it whose turns come before i.
pub record Reached (n : ℕ) (t : Tables) (v i x : ℕ) : Type 0 where
  pub behind : turn n t v < i
  pub most : (u : ℕ) → u < n → T (above t v u) → turn n t u < i → x ≤ lowest t u
  pub hit : (u : ℕ) × (u < n) × T (above t v u) × (x ≡ lowest t u)

-- Each shut child of v comes at i or later, and at i the next child comes, or those below v end.
pub record Walked (n : ℕ) (t : Tables) (v i : ℕ) : Type 0 where
  pub later : (c : ℕ) → c < n → T (shut n t v c) → i ≤ turn n t c
  pub next : i < end n t v → T (child_of t v (at_turn n t i))
