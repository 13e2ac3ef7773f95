-- How a table of parents is followed. Definitions only.
-- Assumes nothing.
use Rattle.std.specs.Prelude.{ℕ, suc, ◌+◌, ◌*◌, ◌≤◌, ◌<◌, ◌≡◌, Bool, true, false, List, length, get_or, drop, ltb}
use Rattle.rules.specs.Forest.{up, depth, Levels}
use Rattle.rules.specs.Adopting.{parent_in, rooted_in}

-- v's parent is a fragment.
abbrev pub below : ℕ → List ℕ → ℕ → Bool
below n ps v = ltb (parent_in ps v) n

-- A table of n parents, all of them fragments.
pub record Inside (n : ℕ) (ps : List ℕ) : Type 0 where
  pub long : n ≤ length ps
  pub inside : (v : ℕ) → v < n → parent_in ps v < n

-- v's way leads to a root.
abbrev pub Leads : List ℕ → ℕ → Type 0
Leads ps v = (k : ℕ) × (parent_in ps (up (parent_in ps) k v) ≡ up (parent_in ps) k v)

-- What following v's way decides: it leads to a root if all before v do, or it leads to none.
pub record Verdict (n : ℕ) (ps : List ℕ) (v : ℕ) (r : Bool) : Type 0 where
  pub good : r ≡ true → ((u : ℕ) → u < v → Leads ps u) → Leads ps v
  pub bad : r ≡ false → rooted_in n ps v ≡ false

-- A table of n parents that lead to roots.
pub record Rooted (n : ℕ) (ps : List ℕ) : Type 0 where
  pub long : n ≤ length ps
  pub levels : Levels n (parent_in ps) (depth (parent_in ps) n)

-- Section 1 has one more than the levels of the first v fragments.
abbrev pub Ranked : ℕ → List ℕ → ℕ → List ℕ → Type 0
Ranked n ps v f = (u : ℕ) → u < v → get_or f (n + u) 0 ≡ suc (depth (parent_in ps) n u)

-- The first v fragments of ps are written with their levels; nothing from word 2·n on changed.
pub record Placed (n : ℕ) (ps : List ℕ) (v : ℕ) (f f' : List ℕ) : Type 0 where
  pub as_long : length f' ≡ length f
  pub parents : (u : ℕ) → u < v → get_or f' u 0 ≡ parent_in ps u
  pub levels : Ranked n ps v f'
  pub after : drop (2 * n) f' ≡ drop (2 * n) f
