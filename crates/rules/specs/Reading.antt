-- The reading rules and the questions, in document 01's order. Definitions only.
-- Assumes nothing.
use Rattle.std.specs.Prelude.{ℕ, ◌-◌, max, Bool, true, ◌&&◌, ◌||◌, not, List, [], ◌∷◌, ltb, leb, eqb}
use Rattle.base.specs.Pick.{pick}
use Rattle.base.specs.Link.{Link}
use Rattle.rules.specs.Forest.{up}
use Rattle.rules.specs.Search.{count, some, every, first, least}
use Rattle.rules.specs.Tables.{Tables, note_of, mark_of, par, lev, put_note, put_mark, put_crossed}

-- a is on b's way to the root; b itself counts: the test of Over (Forest.antt).
unfoldable pub above : Tables → ℕ → ℕ → Bool
above t a b = eqb (up (par t) (lev t b - lev t a) b) a

-- 'Each fragment notes the least of its own level and the levels of fragments linked to it, its parent left out; and whether its parent
-- link was seen.' What v hears of a link to w; the note is stored as how far it lies under v's own level.
unfoldable pub hear : ℕ → ℕ → Tables → Tables
hear v w t =
    pick (eqb (par t v) w)
    (put_mark v t)
    (put_note v (max (note_of t v) (lev t v - lev t w)) t)

-- 'A link between fragments where neither is above the other marks the pass false.'
unfoldable pub read_link : Tables → Link → Tables
read_link t (a, b) = pick (above t a b || above t b a) (hear b a (hear a b t)) (put_crossed true (hear b a (hear a b t)))

unfoldable pub read_links : Tables → List Link → Tables
read_links t [] = t
read_links t (e ∷ g) = read_links (read_link t e) g

-- 'refusal 9 is given exactly when the pass is false or some parent link was not seen'
unfoldable pub seen : Tables → ℕ → Bool
seen t v = eqb (par t v) v || ltb 0 (mark_of t v)

unfoldable pub accepted : ℕ → Tables → Bool
accepted n t = not t.crossed && every (seen t) n

-- The least of a fragment's own level and the levels that it noted.
unfoldable pub lowest : Tables → ℕ → ℕ
lowest t v = lev t v - note_of t v

-- 'The reach of v is the least note of v and all below it.'
unfoldable pub reach : ℕ → Tables → ℕ → ℕ
reach n t v = least (above t v) (lowest t) (lowest t v) n

-- c is a child of v.
unfoldable pub child_of : Tables → ℕ → ℕ → Bool
child_of t v c = eqb (par t c) v && not (eqb c v)

-- 'Sole (a, b): yes exactly when one is the other's parent and the child's reach is its own level.'
unfoldable pub sole_below : ℕ → Tables → ℕ → ℕ → Bool
sole_below n t p c = child_of t p c && eqb (reach n t c) (lev t c)

unfoldable pub sole : ℕ → Tables → ℕ → ℕ → Bool
sole n t a b = sole_below n t a b || sole_below n t b a

-- 'Cut v: a root, when it has two children or more; any other, when some child's reach is at least v's level.'
unfoldable pub cut : ℕ → Tables → ℕ → Bool
cut n t v =
    pick (eqb (par t v) v)
    (leb 2 (count (child_of t v) n))
    (some (λ c. child_of t v c && leb (lev t v) (reach n t c)) n)

-- The root of v's tree.
unfoldable pub root_of : Tables → ℕ → ℕ
root_of t v = up (par t) (lev t v) v

-- 'Piece: the smallest fragment of the tree.'
unfoldable pub piece : ℕ → Tables → ℕ → ℕ
piece n t v = first (λ u. eqb (root_of t u) (root_of t v)) n
