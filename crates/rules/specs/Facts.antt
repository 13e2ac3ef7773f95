-- The words of the theorems: what is said of tables when a forest stands in them, within a pass and between two, after a walk, and after a reading.
-- Definitions only.
-- Assumes nothing.
use Rattle.std.specs.Prelude.{ℕ, suc, ◌*◌, ◌<◌, ◌≤◌, ◌≡◌, false, ◌&&◌, not, List, [], ◌⊎◌, ◌≢◌, ◌↔◌, length, get_or, replicate, T, eqb}
use Rattle.base.specs.Link.{Link}
use Rattle.rules.specs.Links.{Links, linked, tally, between, Among, Joined, JoinedBy}
use Rattle.rules.specs.Forest.{Above, Over}
use Rattle.rules.specs.Search.{least}
use Rattle.rules.specs.Tables.{Tables, parent_of, rank, note_of, mark_of, placed, par, lev}
use Rattle.rules.specs.Building.{pieces, size_of, held_in}
use Rattle.rules.specs.Reading.{lowest, sole, cut, piece}

-- 'a placed fragment is a root of level 0, or has a placed parent of level one less'
pub record Standing (n : ℕ) (t : Tables) : Type 0 where
  pub long_parent : length t.parent ≡ n
  pub long_level : length t.level ≡ n
  pub long_note : length t.note ≡ n
  pub long_mark : length t.mark ≡ n
  pub stands : (v : ℕ) → v < n → T (placed t v) → ((parent_of t v ≡ v) × (rank t v ≡ 1)) ⊎ ((parent_of t v < n) × T (placed t (parent_of t v)) × (rank t v ≡ suc (rank t (parent_of t v))))

-- The notes are cleared, and what is marked.
pub record Unnoted (n : ℕ) (t : Tables) : Type 0 where
  pub no_note : t.note ≡ replicate n 0
  pub no_mark : t.mark ≡ replicate n 0
  pub no_cross : t.crossed ≡ false

-- Between two passes: notes, marks and held links are cleared.
pub record Rested (n : ℕ) (t : Tables) : Type 0 where
  pub no_note : t.note ≡ replicate n 0
  pub no_mark : t.mark ≡ replicate n 0
  pub no_held : t.held ≡ []
  pub no_cross : t.crossed ≡ false

-- An unplaced fragment.
abbrev pub Loose : Tables → ℕ → Type 0
Loose t v = rank t v ≡ 0

-- The held links: between different unplaced fragments, none twice, no piece over its quota.
pub record Holding (n k : ℕ) (t : Tables) : Type 0 where
  pub ends : (u v : ℕ) → T (linked t.held u v) → (u < n) × (v < n) × (u ≢ v) × Loose t u × Loose t v
  pub once : (u v : ℕ) → tally (λ e. between e u v) t.held ≤ 1
  pub quota : (v : ℕ) → v < n → suc (held_in (pieces n t.held) t.held (get_or (pieces n t.held) v 0)) ≤ k * size_of n (pieces n t.held) (get_or (pieces n t.held) v 0)

-- What holds at every moment of a pass: 'a noted fragment is placed, and only an unplaced one has noted it'.
pub record Underway (n k : ℕ) (t : Tables) : Type 0 where
  pub standing : Standing n t
  pub holding : Holding n k t
  pub noting : (u p : ℕ) → note_of t u ≡ suc p → (u < n) × (p < n) × Loose t u × T (placed t p)

-- Where a walk may begin: its top is placed, everything else that held links join with the top is not.
pub record Ready (n top : ℕ) (t : Tables) : Type 0 where
  pub standing : Standing n t
  pub among : Among n (linked t.held)
  pub top_in : top < n
  pub top_placed : T (placed t top)
  pub others : (v : ℕ) → JoinedBy (linked t.held) top v → v ≢ top → Loose t v

-- What a walk from the top leaves: 'every held link of a piece joins a walked fragment and one above it; the walk reaches the whole piece'.
pub record Walked (n top : ℕ) (t w : Tables) (deepest : ℕ) : Type 0 where
  pub standing : Standing n w
  pub same_note : w.note ≡ t.note
  pub same_mark : w.mark ≡ t.mark
  pub same_held : w.held ≡ t.held
  pub same_crossed : w.crossed ≡ t.crossed
  -- nothing outside the piece changes, and neither does the top
  pub outside_parent : (v : ℕ) → (JoinedBy (linked t.held) top v → ⊥) → parent_of w v ≡ parent_of t v
  pub outside_rank : (v : ℕ) → (JoinedBy (linked t.held) top v → ⊥) → rank w v ≡ rank t v
  pub top_parent : parent_of w top ≡ parent_of t top
  pub top_rank : rank w top ≡ rank t top
  -- the whole piece is reached, along held links, below the top
  pub reached : (v : ℕ) → JoinedBy (linked t.held) top v → T (placed w v)
  pub below : (v : ℕ) → JoinedBy (linked t.held) top v → v ≢ top → JoinedBy (linked t.held) top (parent_of w v) × T (linked t.held v (parent_of w v)) × (rank w v ≡ suc (rank w (parent_of w v)))
  pub under_top : (v : ℕ) → JoinedBy (linked t.held) top v → Over (par w) (lev w) top v
  -- depth-first
  pub spans : (u v : ℕ) → JoinedBy (linked t.held) top u → T (linked t.held u v) → Over (par w) (lev w) u v ⊎ Over (par w) (lev w) v u
  pub deepest_in : JoinedBy (linked t.held) top deepest
  pub deepest_most : (v : ℕ) → JoinedBy (linked t.held) top v → rank w v ≤ rank w deepest

-- a and b lie on one way to the root.
abbrev pub OneWay : Tables → ℕ → ℕ → Type 0
OneWay t a b = Over (par t) (lev t) a b ⊎ Over (par t) (lev t) b a

-- A link between two unplaced fragments.
abbrev pub Free : Links → Tables → ℕ → ℕ → Type 0
Free E t u v = T (E u v) × Loose t u × Loose t v

-- What stands is part of a depth-first forest of E, and each unplaced part can still be hung in it.
pub record Partial (n : ℕ) (E : Links) (t : Tables) : Type 0 where
  pub standing : Standing n t
  -- 'each fragment not a root has its parent link in the set'
  pub tree : (v : ℕ) → T (placed t v) → par t v ≢ v → T (E v (par t v))
  -- 'every link joins a fragment and one above it on its way to the root', where both are placed
  pub spans : (u v : ℕ) → T (E u v) → T (placed t u) → T (placed t v) → OneWay t u v
  -- the placed neighbours of unplaced fragments that are joined through unplaced ones lie on one way
  pub one_way : (u v a b : ℕ) → Joined (Free E t) u v → Loose t u → T (E u a) → T (placed t a) → T (E v b) → T (placed t b) → OneWay t a b

-- The notes of the tables are those of the list g: 'Each fragment notes the least of its own level and the levels of fragments linked to it, its
-- parent left out; and whether its parent link was seen. A link between fragments where neither is above the other marks the pass false.'
pub record NotesOf (n : ℕ) (g : List Link) (t : Tables) : Type 0 where
  pub standing : Standing n t
  pub among : Among n (linked g)
  pub notes : (v : ℕ) → v < n → lowest t v ≡ least (λ w. linked g v w && not (eqb w (par t v))) (lev t) (lev t v) n
  pub marks : (v : ℕ) → v < n → (0 < mark_of t v) ↔ T (linked g v (par t v))
  pub uncrossed : (T t.crossed → ⊥) ↔ ((u v : ℕ) → T (linked g u v) → Above (par t) u v ⊎ Above (par t) v u)

-- 'Equal reports': piece, sole and cut answer alike for every fragment and pair.
pub record SameReports (n : ℕ) (s t : Tables) : Type 0 where
  pub same_piece : (v : ℕ) → v < n → piece n s v ≡ piece n t v
  pub same_sole : (a b : ℕ) → a < n → b < n → sole n s a b ≡ sole n t a b
  pub same_cut : (v : ℕ) → v < n → cut n s v ≡ cut n t v
