-- What a close makes of one piece and of all.
-- Assumes nothing.
use Rattle.std.specs.Prelude.{ℕ, ◌<◌, ◌≤◌, ◌≡◌, ◌⊎◌, ◌≢◌, get_or, T}
use Rattle.rules.specs.Links.{Links, linked}
pub use Rattle.rules.specs.Links.{Tells, Each}
use Rattle.rules.specs.Tables.{Tables, parent_of, rank, placed, par, lev}
use Rattle.rules.specs.Building.{pieces, lost}
use Rattle.rules.specs.Forest.{Over}
use Rattle.rules.specs.Facts.{Standing, Loose, OneWay}
use Rattle.rules.proofs.Laws.Kept.{Kept}

-- The smallest member of v's piece.
abbrev pub label : ℕ → Tables → ℕ → ℕ
label n t v = get_or (pieces n t.held) v 0

-- v is a member of the piece p.
abbrev pub Of : ℕ → Tables → ℕ → ℕ → Type 0
Of n t p v = (v < n) × (label n t v ≡ p)

-- The top of the piece p hangs under q: a placed neighbour of a member, and no other is deeper.
pub record Hook (n : ℕ) (E : Links) (t s : Tables) (p top q : ℕ) : Type 0 where
  pub hook_placed : T (placed t q)
  pub hook_over : Over (par s) (lev s) q top
  pub friend : ℕ
  pub friend_in : Of n t p friend
  pub friend_link : T (E friend q)
  pub deepest : (u a : ℕ) → Of n t p u → T (E u a) → T (placed t a) → rank t a ≤ rank t q

-- Not lost: all of the piece is placed, along held links. Lost: what is placed of it lies on one way.
abbrev pub Shape : ℕ → Tables → Tables → ℕ → Type 0
Shape n t s p =
    ((T (lost n t (pieces n t.held) p) → ⊥) × ((v : ℕ) → Of n t p v → T (placed s v)) × ((u v : ℕ) → Of n t p u → Of n t p v → T (linked t.held u v) → OneWay s u v))
    ⊎ (T (lost n t (pieces n t.held) p) × ((u v : ℕ) → Of n t p u → Of n t p v → T (placed s u) → T (placed s v) → OneWay s u v))

-- What the close of the told tables t has made of the piece p in the tables s.
pub record Treated (n : ℕ) (E : Links) (t s : Tables) (p : ℕ) : Type 0 where
  pub top : ℕ
  pub top_in : Of n t p top
  pub top_placed : T (placed s top)
  pub under : (v : ℕ) → Of n t p v → T (placed s v) → Over (par s) (lev s) top v
  -- no member has a placed neighbour, or the top hangs under the deepest
  pub hangs : ((u a : ℕ) → Of n t p u → T (E u a) → T (placed t a) → ⊥) ⊎ ((q : ℕ) × Hook n E t s p top q)
  pub tree : (v : ℕ) → Of n t p v → T (placed s v) → par s v ≢ v → T (E v (par s v))
  pub shape : Shape n t s p

-- The pieces with a smallest member below m are treated, all else is as it was told.
pub record Closing (n : ℕ) (E : Links) (t : Tables) (m : ℕ) (s : Tables) : Type 0 where
  pub standing : Standing n s
  pub same_note : s.note ≡ t.note
  pub same_mark : s.mark ≡ t.mark
  pub same_held : s.held ≡ t.held
  pub same_crossed : s.crossed ≡ t.crossed
  pub kept : Kept t s
  pub rest_parent : (v : ℕ) → v < n → m ≤ label n t v → parent_of s v ≡ parent_of t v
  pub rest_rank : (v : ℕ) → v < n → m ≤ label n t v → rank s v ≡ rank t v
  pub loose_parent : (v : ℕ) → Loose s v → parent_of s v ≡ parent_of t v
  pub treated : (p : ℕ) → p < m → label n t p ≡ p → Loose t p → Treated n E t s p
