-- The numbers of a forest: the turn of each fragment in depth-first order, children by rising number, and where those below it end. Definitions only.
-- Assumes nothing.
use Rattle.std.specs.Prelude.{ℕ, zero, suc, ◌+◌, Bool, eqb}
use Rattle.base.specs.Pick.{pick}
use Rattle.rules.specs.Search.{count, sum, first}
use Rattle.rules.specs.Tables.{Tables, par, lev}
use Rattle.rules.specs.Reading.{above, child_of}

-- How many have v on their way to the root; v itself counts.
unfoldable pub below : ℕ → Tables → ℕ → ℕ
below n t v = count (above t v) n

-- What stands below c, where a test of c holds.
unfoldable pub below_if : ℕ → Tables → (ℕ → Bool) → ℕ → ℕ
below_if n t test c = pick (test c) (below n t c) 0

-- c is beside v: a root as v is one, or another child of v's parent. v itself counts.
unfoldable pub beside : Tables → ℕ → ℕ → Bool
beside t v c = pick (eqb (par t v) v) (eqb (par t c) c) (child_of t (par t v) c)

-- How many stand below the smaller ones beside v.
unfoldable pub passed : ℕ → Tables → ℕ → ℕ
passed n t v = sum (below_if n t (beside t v)) v

-- The turn of v, on level l: behind its parent, and behind all below the smaller ones beside it.
unfoldable pub turn_at : ℕ → Tables → (l v : ℕ) → ℕ
turn_at n t zero v = passed n t v
turn_at n t (suc l) v = suc (turn_at n t l (par t v)) + passed n t v

unfoldable pub turn : ℕ → Tables → ℕ → ℕ
turn n t v = turn_at n t (lev t v) v

-- Where those below v end: the turn of the next fragment that is not below it, n where there is none.
unfoldable pub end : ℕ → Tables → ℕ → ℕ
end n t v = turn n t v + below n t v

-- The fragment whose turn is i.
unfoldable pub at_turn : ℕ → Tables → ℕ → ℕ
at_turn n t i = first (λ v. eqb (turn n t v) i) n
