-- A find and a join in three scratch sections of the fragment table, whatever stands there: section 4 has the pointers; at the smallest member
-- of a piece section 5 has one less than its size, section 6 how many links it holds. Definitions only.
-- Assumes nothing.
use Rattle.std.specs.Prelude.{ℕ, zero, suc, ◌+◌, ◌-◌, ◌*◌, Bool, ◌&&◌, List, length, get_or, set, eqb, ltb, leb}
use Rattle.base.specs.Pick.{pick}
use Rattle.state.specs.Layout.{words}
use Rattle.state.specs.Call.{fragments_most}

-- A table of so many words has the sections of n fragments, of which v is one.
unfoldable pub is_in : (len n v : ℕ) → Bool
is_in len n v = leb n fragments_most && (leb (words * n) len && ltb v n)

-- Section 4: the pointer of v.
abbrev pub pointer : ℕ → List ℕ → ℕ → ℕ
pointer n f v = get_or f (4 * n + v) 0

-- A pointer of u leads to a smaller fragment.
unfoldable pub leads : (word u : ℕ) → Bool
leads word u = ltb 0 word && leb word u

-- The way from u along pointers that lead on, two steps in a turn: where it ends, and the table, in which the fragments left behind point two steps on.
unfoldable pub way : (turns n u : ℕ) → List ℕ → ℕ × List ℕ
way zero n u f = (u, f)
way (suc turns) n u f =
    let p = pointer n f u - 1 in
    let up = pointer n f p in
    pick (leads (pointer n f u) u) (pick (leads up p) (way turns n (up - 1) (set f (4 * n + u) up)) (p, f)) (u, f)

-- The way from v: v + 1 turns are enough, since each goes down. Where the table has not the sections, or v is none of the fragments, it ends at v.
unfoldable pub found : (n v : ℕ) → List ℕ → ℕ × List ℕ
found n v f = pick (is_in (length f) n v) (way (suc v) n v f) (v, f)

-- A word with another and one added; as it was where the sum is too great for a word.
unfoldable pub added : (x y : ℕ) → ℕ
added x y = pick (ltb (x + y + 1) 4294967296) (x + y + 1) x

-- One more link counted in the piece of p.
unfoldable pub counted : (n p : ℕ) → List ℕ → List ℕ
counted n p f = set f (6 * n + p) (added (get_or f (6 * n + p) 0) 0)

-- One word grown by another and one.
abbrev pub grown : (at by : ℕ) → List ℕ → List ℕ
grown at by f = set f at (added (get_or f at 0) (get_or f by 0))

-- The piece of q under that of p, by one link more.
unfoldable pub united : (n p q : ℕ) → List ℕ → List ℕ
united n p q f = set (grown (6 * n + p) (6 * n + q) (grown (5 * n + p) (5 * n + q) f)) (4 * n + q) (p + 1)

-- One more link between the pieces of p and q: of two the one with the smaller member stays.
unfoldable pub bound : (n p q : ℕ) → List ℕ → List ℕ
bound n p q f = pick (eqb p q) (counted n p f) (pick (ltb p q) (united n p q f) (united n q p f))

-- One more link between a and b: the pieces where their ways end are bound. Nothing changes where a or b is none of the fragments.
unfoldable pub joined : (n a b : ℕ) → List ℕ → List ℕ
joined n a b f =
    let x = found n a f in
    let y = found n b x.1 in
    pick (is_in (length f) n a) (pick (is_in (length f) n b) (bound n x.0 y.0 y.1) f) f
