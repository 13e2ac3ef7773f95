-- The test of the tables (refusal 11) as it is computed, but for the held links: what the state says, one pass over the fragments, the words that must be 0, and one
-- pass over the numbers.
-- Definitions only.
-- Assumes nothing.
use Rattle.std.specs.Prelude.{ℕ, suc, pred, ◌+◌, ◌-◌, ◌*◌, Bool, ◌||◌, ◌&&◌, not, List, ltb, leb, eqb, length, take, drop}
use Rattle.base.specs.Pick.{pick}
use Rattle.base.specs.Link.{Link}
use Rattle.rules.specs.Search.{every}
use Rattle.rules.specs.Tables.{Tables, parent_of, note_of, mark_of, placed}
use Rattle.state.specs.Layout.{words, stored, numbers, tables_in, forest_in, turn_in, end_in, whose_in}
use Rattle.state.specs.Call.{bounds_refusal}
use Rattle.state.specs.Test.{entries_most, is_building, is_built, is_reading, is_read, is_numbered, asked, all_zero, stage_fits, stands_at, forest_fits, ends_fit, none_twice, quota_fits, clear_at, low_fits, notes_fit, rest_zero, counts_fit, read_fits, rest_agrees, numbers_fit}
use Rattle.state.specs.declared.State.{State}
use Rattle.state.specs.declared.Stage.{Stage}

-- The clauses of the test but the one of the held links.
unfoldable pub fits_but_links : State → Tables → List ℕ → List ℕ → Bool
fits_but_links s t f h =
    stage_fits s t
    && (forest_fits s.n t
    && (notes_fit s t
    && (rest_zero s f h
    && (counts_fit s t
    && (read_fits s t
    && (rest_agrees s t
    && numbers_fit s t f))))))

unfoldable pub sound_but_links : State → List ℕ → List ℕ → Bool
sound_but_links s f h = fits_but_links s (tables_in s f h) f h

-- The clause of the held links, of the tables t and the links held in them.
unfoldable pub links_fit : ℕ → ℕ → Tables → List Link → Bool
links_fit n k t held = ends_fit n t held && (none_twice held && quota_fits n k held)

-- 'Order: 1, 2, 3, 6, 11': the refusal due at the head of a call before its held links are looked at; 0 where none is.
unfoldable pub head_but_links : (allowed : Bool) → State → List ℕ → List ℕ → ℕ
head_but_links allowed s f h =
    pick (not (eqb (bounds_refusal s.n s.k (length f) (length h)) 0)) (bounds_refusal s.n s.k (length f) (length h))
    (pick (not allowed) 6
    (pick (not (sound_but_links s f h)) 11
    0))

-- A root has no mark; any other fragment has 1, or 0 where not all parent links need be seen.
unfoldable pub mark_at : (read : Bool) → Tables → ℕ → Bool
mark_at read t v = pick (eqb (parent_of t v) v) (eqb (mark_of t v) 0) (pick (eqb (mark_of t v) 0) (not read) (eqb (mark_of t v) 1))

-- What the test asks of an unplaced fragment.
unfoldable pub waits_at : ℕ → Tables → ℕ → Bool
waits_at n t v =
    eqb (parent_of t v) 0
    && (leb (mark_of t v) 1
    && (eqb (note_of t v) 0 || (ltb (pred (note_of t v)) n && placed t (pred (note_of t v)))))

-- What it asks of the note and the mark of a placed one.
unfoldable pub noted_at : Stage → Tables → ℕ → Bool
noted_at g t v = pick (is_numbered g) (low_fits t v && mark_at (is_read g) t v) (clear_at t v)

-- What it asks of the fragment v.
unfoldable pub fragment_fits : Stage → ℕ → Tables → ℕ → Bool
fragment_fits g n t v = pick (placed t v) (stands_at n t v && noted_at g t v) (is_building g && waits_at n t v)

-- What it asks of the counts, where so many fragments are placed,
unfoldable pub counts_hold : State → ℕ → Bool
counts_hold s placed = leb s.passes (suc placed) && (leb s.entries entries_most && leb s.held (s.k * s.n))

-- and by the stage.
unfoldable pub stage_holds : State → ℕ → Bool
stage_holds s placed =
    asked (is_building s.stage) (ltb placed s.n)
    && (asked (not (is_building s.stage)) (eqb s.held 0)
    && (asked (is_built s.stage) (eqb s.entries 0)
    && asked (not (is_reading s.stage)) (not s.crossed)))

-- The fragment whose turn is i by the words of f is one of n, and its parent is p.
unfoldable pub under_at : ℕ → Tables → List ℕ → (p i : ℕ) → Bool
under_at n t f p i = ltb i n && (ltb (whose_in n f i) n && eqb (parent_of t (whose_in n f i)) p)

-- v comes at its own turn, and what stands below it ends there or begins with a child.
unfoldable pub comes_at : ℕ → Tables → List ℕ → ℕ → Bool
comes_at n t f v =
    ltb (turn_in n f v) n
    && (eqb (whose_in n f (turn_in n f v)) v
    && (ltb (turn_in n f v) (end_in n f v)
    && (eqb (end_in n f v) (suc (turn_in n f v)) || under_at n t f v (suc (turn_in n f v)))))

-- The fragment whose turn is i is greater than v, and its parent is p.
unfoldable pub rises_to : ℕ → Tables → List ℕ → (v p i : ℕ) → Bool
rises_to n t f v p i = ltb v (whose_in n f i) && under_at n t f p i

-- Behind a root comes a greater root, or nothing;
unfoldable pub root_fits : ℕ → Tables → List ℕ → ℕ → Bool
root_fits n t f v = eqb (end_in n f v) n || rises_to n t f v (whose_in n f (end_in n f v)) (end_in n f v)

-- behind a child of p, which comes later than p, a greater child of p, or what comes behind p.
unfoldable pub child_fits : ℕ → Tables → List ℕ → (p v : ℕ) → Bool
child_fits n t f p v =
    ltb (turn_in n f p) (turn_in n f v)
    && (eqb (end_in n f v) (end_in n f p) || rises_to n t f v p (end_in n f v))

-- What the test asks of the numbers of v.
unfoldable pub words_fit : ℕ → Tables → List ℕ → ℕ → Bool
words_fit n t f v = comes_at n t f v && pick (eqb (parent_of t v) v) (root_fits n t f v) (child_fits n t f (parent_of t v) v)

-- What it asks of the words behind the sections of every stage.
unfoldable pub rest_fits : ℕ → Stage → List ℕ → Bool
rest_fits n g f =
    pick (is_numbered g)
    (all_zero (take (words * n - (stored + numbers) * n) (drop ((stored + numbers) * n) f)) && every (words_fit n (forest_in n f) f) n)
    (all_zero (take (words * n - stored * n) (drop (stored * n) f)))
