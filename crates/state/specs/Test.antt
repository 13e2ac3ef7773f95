-- The test of the tables, refusal 11, clause by clause in document 01's order. Definitions only.
-- Assumes nothing.
use Rattle.std.specs.Prelude.{ℕ, suc, pred, ◌-◌, ◌*◌, Bool, true, ◌||◌, ◌&&◌, not, List, [], ◌∷◌, take, drop, ltb, leb, eqb}
-- 'Entries in one pass: at most 16,777,215.'
pub use Rattle.lists.specs.List.{entries_most}
use Rattle.base.specs.Link.{Link}
use Rattle.rules.specs.Links.{linked}
use Rattle.rules.specs.Search.{count, every}
use Rattle.rules.specs.Tables.{Tables, parent_of, rank, note_of, mark_of, placed, lev}
use Rattle.rules.specs.Building.{pieces, member, size_of, held_in, done}
use Rattle.rules.specs.Reading.{accepted}
use Rattle.rules.specs.Numbers.{turn, end, at_turn}
use Rattle.state.specs.Layout.{words, stored_in, tables_in, turn_in, end_in, whose_in}
use Rattle.state.specs.declared.State.{State}
pub use Rattle.state.specs.Stages.{is_building, is_built, is_reading, is_read, is_numbered}

-- A clause that is asked only where a test holds.
unfoldable pub asked : Bool → Bool → Bool
asked test clause = not test || clause

-- Every word of a list is 0.
unfoldable pub all_zero : List ℕ → Bool
all_zero [] = true
all_zero (x ∷ l) = eqb x 0 && all_zero l

-- 'Building has an unplaced fragment, every other stage has none and holds no link'
unfoldable pub stage_fits : State → Tables → Bool
stage_fits s t =
    asked (is_building s.stage) (not (done s.n t))
    && asked (not (is_building s.stage)) (done s.n t && eqb s.held 0)

-- 'a placed fragment is a root of level 0, or has a placed parent of level one less'
unfoldable pub stands_at : ℕ → Tables → ℕ → Bool
stands_at n t v =
    (eqb (parent_of t v) v && eqb (rank t v) 1)
    || (ltb (parent_of t v) n && (placed t (parent_of t v) && eqb (rank t v) (suc (rank t (parent_of t v)))))

unfoldable pub forest_fits : ℕ → Tables → Bool
forest_fits n t = every (λ v. asked (placed t v) (stands_at n t v)) n

-- 'held links join different unplaced fragments' (stored with the smaller end first)
unfoldable pub ends_fit : ℕ → Tables → List Link → Bool
ends_fit n t [] = true
ends_fit n t ((a, b) ∷ held) = (ltb a b && (ltb b n && (not (placed t a) && not (placed t b)))) && ends_fit n t held

-- 'none twice'
unfoldable pub none_twice : List Link → Bool
none_twice [] = true
none_twice ((a, b) ∷ held) = not (linked held a b) && none_twice held

-- 'at most k·s - 1 in a piece of s'
unfoldable pub quota_fits : ℕ → ℕ → List Link → Bool
quota_fits n k held =
    every (λ p. asked (member (pieces n held) p p) (leb (held_in (pieces n held) held p) (k * size_of n (pieces n held) p - 1))) n

unfoldable pub held_fits : ℕ → ℕ → Tables → Bool
held_fits n k t = ends_fit n t t.held && (none_twice t.held && quota_fits n k t.held)

-- 'a noted fragment is placed, and only an unplaced one has noted it' (Building)
unfoldable pub note_fits : ℕ → Tables → ℕ → Bool
note_fits n t v = eqb (note_of t v) 0 || (not (placed t v) && (ltb (pred (note_of t v)) n && placed t (pred (note_of t v))))

-- 'Built has cleared notes'
unfoldable pub clear_at : Tables → ℕ → Bool
clear_at t v = eqb (note_of t v) 0 && eqb (mark_of t v) 0

-- 'a reading note is at most its fragment's level': stored as how far it lies under that level, so that is never more than the level
unfoldable pub low_fits : Tables → ℕ → Bool
low_fits t v = leb (note_of t v) (lev t v)

unfoldable pub notes_fit : State → Tables → Bool
notes_fit s t =
    asked (is_building s.stage) (every (note_fits s.n t) s.n)
    && (asked (is_built s.stage) (every (clear_at t) s.n && eqb s.entries 0)
    && asked (is_numbered s.stage) (every (low_fits t) s.n))

-- 'unused held words and scratch are 0'
unfoldable pub rest_zero : State → List ℕ → List ℕ → Bool
rest_zero s f h =
    all_zero (drop s.held (take (s.k * s.n) h))
    && all_zero (take ((words - stored_in s.stage) * s.n) (drop (stored_in s.stage * s.n) f))

-- 'the entry count is at most 16,777,215, and the pass count at most one more than the number of fragments placed'
unfoldable pub counts_fit : State → Tables → Bool
counts_fit s t = leb s.entries entries_most && leb s.passes (suc (count (placed t) s.n))

-- 'Read has every parent link seen and no false mark'
unfoldable pub read_fits : State → Tables → Bool
read_fits s t = asked (is_read s.stage) (accepted s.n t)

-- 'what else is stored agrees with these': an unplaced fragment has no parent; a mark is 0 or 1, in Building on unplaced fragments only, in Reading and Read not on a
-- root; only a reading pass is false; the held links have room.
unfoldable pub mark_fits : State → Tables → ℕ → Bool
mark_fits s t v =
    leb (mark_of t v) 1
    && (asked (is_building s.stage) (eqb (mark_of t v) 0 || not (placed t v))
    && asked (is_numbered s.stage) (eqb (mark_of t v) 0 || not (eqb (parent_of t v) v)))

unfoldable pub rest_agrees : State → Tables → Bool
rest_agrees s t =
    every (λ v. asked (not (placed t v)) (eqb (parent_of t v) 0)) s.n
    && (every (mark_fits s t) s.n
    && (asked (not (is_reading s.stage)) (not s.crossed)
    && leb s.held (s.k * s.n)))

-- 'numbers stored for this fall under test 11': in Reading and Read each fragment's turn, where those below it end, and whose turn each is
unfoldable pub numbered_at : ℕ → Tables → List ℕ → ℕ → Bool
numbered_at n t f v = eqb (turn_in n f v) (turn n t v) && (eqb (end_in n f v) (end n t v) && eqb (whose_in n f v) (at_turn n t v))

unfoldable pub numbers_fit : State → Tables → List ℕ → Bool
numbers_fit s t f = asked (is_numbered s.stage) (every (numbered_at s.n t f) s.n)

-- The whole test, of a state whose n, k and tables are within their bounds.
unfoldable pub fits : State → Tables → List ℕ → List ℕ → Bool
fits s t f h =
    stage_fits s t
    && (forest_fits s.n t
    && (held_fits s.n s.k t
    && (notes_fit s t
    && (rest_zero s f h
    && (counts_fit s t
    && (read_fits s t
    && (rest_agrees s t
    && numbers_fit s t f)))))))

unfoldable pub sound : State → List ℕ → List ℕ → Bool
sound s f h = fits s (tables_in s f h) f h
