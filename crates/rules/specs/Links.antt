-- Links, lists of links, and what it means that two fragments are joined. Definitions only.
-- Assumes nothing.
use Rattle.std.specs.Prelude.{ℕ, suc, ◌<◌, ◌≡◌, Bool, false, cond, ◌&&◌, ◌||◌, List, [], ◌∷◌, ◌≢◌, T, eqb}
use Rattle.base.specs.Link.{Link}

-- 'Links have no direction': the link l is the one between u and v.
unfoldable pub between : Link → ℕ → ℕ → Bool
between (a, b) u v = (eqb a u && eqb b v) || (eqb a v && eqb b u)

-- A set of links: which two fragments are linked.
abbrev pub Links : Type 0
Links = ℕ → ℕ → Bool

-- 'Links have no direction.'
abbrev pub Undirected : Links → Type 0
Undirected E = (u v : ℕ) → T (E u v) → T (E v u)

-- The set that a list tells. 'A link that stands twice counts as one link.'
unfoldable pub linked : List Link → Links
linked [] u v = false
linked (l ∷ g) u v = between l u v || linked g u v

-- How many entries of a list pass a test.
unfoldable pub tally : (Link → Bool) → List Link → ℕ
tally p [] = 0
tally p (l ∷ g) = cond (p l) (suc (tally p g)) (tally p g)

-- The list tells the set E, in any order and with any repeats.
abbrev pub Tells : Links → List Link → Type 0
Tells E g = (u v : ℕ) → linked g u v ≡ E u v

-- Two lists tell the same set.
abbrev pub SameSet : List Link → List Link → Type 0
SameSet g h = Tells (linked h) g

-- Every list of some has a property.
abbrev pub Each : (List Link → Type 0) → List (List Link) → Type 0
Each P [] = Unit
Each P (g ∷ gs) = P g × Each P gs

-- 'fragment numbers (0 to n-1)', and no link from a fragment to itself: what the scan of a block lets through.
abbrev pub Among : ℕ → Links → Type 0
Among n E = (u v : ℕ) → T (E u v) → (u < n) × (v < n) × (u ≢ v)

-- The ends of the links of a list are below n.
abbrev pub Inside : ℕ → List Link → Type 0
Inside n g = (u v : ℕ) → T (linked g u v) → (u < n) × (v < n)

-- A chain of links from a to c.
pub data Joined (R : ℕ → ℕ → Type 0) : ℕ → ℕ → Type 0 where
  here : {a : ℕ} → Joined R a a
  step : {a b c : ℕ} → R a b → Joined R b c → Joined R a c

-- Two fragments are joined by the links of a set.
abbrev pub JoinedBy : Links → ℕ → ℕ → Type 0
JoinedBy E = Joined (λ (u v : ℕ). T (E u v))
