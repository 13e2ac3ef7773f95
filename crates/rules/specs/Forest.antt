-- Forests as tables of parents, and when one is a depth-first forest of a set of links. Definitions only.
-- Assumes nothing.
use Rattle.std.specs.Prelude.{ℕ, zero, suc, ◌-◌, ◌<◌, ◌≡◌, cond, ◌⊎◌, ◌≢◌, T, eqb}
use Rattle.rules.specs.Links.{Links}

-- k steps up the way to the root.
unfoldable pub up : (ℕ → ℕ) → ℕ → ℕ → ℕ
up par zero v = v
up par (suc k) v = up par k (par v)

-- a is on b's way to the root; b itself counts.
abbrev pub Above : (ℕ → ℕ) → ℕ → ℕ → Type 0
Above par a b = (k : ℕ) × (up par k b ≡ a)

-- The same where levels are known, with the steps counted: by the law of levels Above and Over are one (Laws.Up.above-over), and Over can be tested
-- (`above` in Reading.antt).
abbrev pub Over : (ℕ → ℕ) → (ℕ → ℕ) → ℕ → ℕ → Type 0
Over par lev a b = up par (lev b - lev a) b ≡ a

-- The law of levels: a root by itself at level 0, or a parent one level higher up.
abbrev pub Levels : ℕ → (ℕ → ℕ) → (ℕ → ℕ) → Type 0
Levels n par lev = (v : ℕ) → v < n → ((par v ≡ v) × (lev v ≡ 0)) ⊎ ((par v < n) × (lev v ≡ suc (lev (par v))))

-- The level: how many steps the way to the root has, counted up to a bound.
unfoldable pub depth : (ℕ → ℕ) → ℕ → ℕ → ℕ
depth par zero v = 0
depth par (suc k) v = cond (eqb (par v) v) 0 (suc (depth par k (par v)))

-- 'A depth-first forest of a set of links', of the parents of n fragments.
pub record DepthFirst (n : ℕ) (par : ℕ → ℕ) (E : Links) : Type 0 where
  pub inside : (v : ℕ) → v < n → par v < n
  -- 'parents lead to roots without a cycle'
  pub rooted : (v : ℕ) → v < n → (k : ℕ) × (par (up par k v) ≡ up par k v)
  -- 'each fragment not a root has its parent link in the set'
  pub tree : (v : ℕ) → v < n → par v ≢ v → T (E v (par v))
  -- 'every link joins a fragment and one above it on its way to the root'
  pub spans : (u v : ℕ) → T (E u v) → Above par u v ⊎ Above par v u
