-- What the parts of a close in Building ask and promise, over the words of the two tables. Definitions only.
-- Assumes nothing.
use Rattle.std.specs.Prelude.{ℕ, suc, ◌+◌, ◌-◌, ◌*◌, ◌≤◌, ◌<◌, ◌≡◌, Bool, false, ◌&&◌, not, List, ◌⊎◌, ◌≢◌, length, get_or, set, take, drop, T, eqb}
use Rattle.base.specs.Pick.{pick}
use Rattle.rules.specs.Search.{first}
use Rattle.rules.specs.Tables.{Tables, rank, note_of, placed}
use Rattle.rules.specs.Building.{Walk, pieces, member, noted, top_of, hang, walked, place_path, place_piece, place_pieces, close_building}
use Rattle.rules.specs.Facts.{Standing, Ready, Underway}
use Rattle.state.specs.Layout.{held_links, wiped, words, stored, section, forest_in, frag_of}
use Rattle.state.specs.Test.{all_zero, ends_fit}
use Rattle.state.specs.declared.Stage.TheVariants.{Building}
use Rattle.closing.specs.Arranged.{Arranged, Frame}
use Rattle.closing.specs.Arranging.{next_or}
use Rattle.pieces.specs.Gathered.{held_tables, with_pieces}
use Rattle.closing.specs.Walk.{Wide}

-- Section 7 has for each fragment the smallest member of its piece.
abbrev pub labels_in : ℕ → List ℕ → List ℕ
labels_in n f = section n 7 f

abbrev pub label_at : ℕ → List ℕ → ℕ → ℕ
label_at n f v = get_or f (7 * n + v) 0

-- x tells the first fragment from one on that has a label: one more than it, 0 where none has.
pub record First (n : ℕ) (f : List ℕ) (from label x : ℕ) : Type 0 where
  pub none : x ≡ 0 → (w : ℕ) → from ≤ w → w < n → label_at n f w ≢ label
  pub some : (w : ℕ) → x ≡ suc w → (from ≤ w) × (w < n) × (label_at n f w ≡ label) × ((y : ℕ) → from ≤ y → y < w → label_at n f y ≢ label)

-- Section 8: one more than the next member of v's piece; 0 at the last.
abbrev pub Membered : ℕ → List ℕ → Type 0
Membered n f = (v : ℕ) → v < n → First n f (suc v) (label_at n f v) (get_or f (8 * n + v) 0)

-- The members can be chained where section 9 is 0.
pub record Chainable (n : ℕ) (f : List ℕ) : Type 0 where
  pub wide : Wide n f
  pub labels : (v : ℕ) → v < n → label_at n f v < n
  pub blank : (p : ℕ) → p < n → get_or f (9 * n + p) 0 ≡ 0

pub record Chains (n : ℕ) (f f' : List ℕ) : Type 0 where
  pub same_long : length f' ≡ length f
  pub before : (i : ℕ) → i < 8 * n → get_or f' i 0 ≡ get_or f i 0
  pub membered : Membered n f'
  -- section 9: the smallest member of each piece
  pub firsts : (p : ℕ) → p < n → First n f' 0 p (get_or f' (9 * n + p) 0)
  pub behind : (i : ℕ) → 10 * n ≤ i → get_or f' i 0 ≡ get_or f i 0

-- The next member of v's piece; n behind the last.
pub record Follows (n v : ℕ) (f : List ℕ) (r : ℕ) : Type 0 where
  pub on : v < r
  pub within : r ≤ n
  pub member : r < n → label_at n f r ≡ label_at n f v
  pub between : (x : ℕ) → v < x → x < r → label_at n f x ≢ label_at n f v

-- The members of the piece p can be gone through, from p on: no member is smaller.
pub record Chained (n p : ℕ) (f : List ℕ) : Type 0 where
  pub wide : Wide n f
  pub membered : Membered n f
  pub in_range : p < n
  pub own : label_at n f p ≡ p
  pub least : (v : ℕ) → v < p → label_at n f v ≢ p

pub record Noting (n p : ℕ) (f : List ℕ) : Type 0 where
  pub chained : Chained n p f
  pub notes : (v : ℕ) → v < n → note_of (forest_in n f) v ≤ n

unfoldable pub first_noted : ℕ → Tables → List ℕ → ℕ → ℕ → ℕ
first_noted n t l p note = first (λ v. member l p v && eqb (note_of t v) note) n

-- The top of a piece whose best note is given.
unfoldable pub top_by : ℕ → Tables → List ℕ → ℕ → ℕ → ℕ
top_by n t l p note = pick (eqb note 0) p (first_noted n t l p note)

-- Two words of a fragment, n apart, may be copied for each member: neither the words copied nor the chain are written over.
pub record Copyable (n from to : ℕ) (f : List ℕ) : Type 0 where
  pub wide : Wide n f
  pub apart : (from + 2 * n ≤ to) ⊎ (to + 2 * n ≤ from)
  pub off_chain : (9 * n ≤ to) ⊎ (to + 2 * n ≤ 7 * n)
  pub from_in : from + 2 * n ≤ words * n
  pub to_in : to + 2 * n ≤ words * n

-- The two words of v copied.
unfoldable pub copied_at : (n from to v : ℕ) → List ℕ → List ℕ
copied_at n from to v f = set (set f (to + v) (get_or f (from + v) 0)) (to + n + v) (get_or f (from + n + v) 0)

-- Those of the members below m of the piece p are copied, and no other word changed.
pub record Copies (n p from to m : ℕ) (f f' : List ℕ) : Type 0 where
  pub same_long : length f' ≡ length f
  pub members : (v : ℕ) → v < m → v < n → label_at n f v ≡ p → (get_or f' (to + v) 0 ≡ get_or f (from + v) 0) × (get_or f' (to + n + v) 0 ≡ get_or f (from + n + v) 0)
  pub others : (v : ℕ) → v < n → (m ≤ v) ⊎ (label_at n f v ≢ p) → (get_or f' (to + v) 0 ≡ get_or f (to + v) 0) × (get_or f' (to + n + v) 0 ≡ get_or f (to + n + v) 0)
  pub before : (i : ℕ) → i < to → get_or f' i 0 ≡ get_or f i 0
  pub behind : (i : ℕ) → to + 2 * n ≤ i → get_or f' i 0 ≡ get_or f i 0

-- The tables with the forest that is saved in sections 12 and 13.
unfoldable pub saved_at : ℕ → ℕ → List ℕ → List ℕ → Tables
saved_at n c f h = record {
  parent = section n 12 f;
  level = section n 13 f;
  note = section n 2 f;
  mark = section n 3 f;
  held = held_links c h;
  crossed = false;
}

-- Nothing changes but the forest, the sections where it is saved, and the cursors of the walk.
abbrev pub Beside : (n : ℕ) (f f' : List ℕ) → Type 0
Beside n f f' = Frame n 2 12 f f'

pub record Climbable (n top deepest : ℕ) (f : List ℕ) : Type 0 where
  pub wide : Wide n f
  pub standing : Standing n (forest_in n f)
  pub top_in : top < n
  pub deep_in : deepest < n
  pub deep_placed : T (placed (forest_in n f) deepest)
  pub below : rank (forest_in n f) top ≤ rank (forest_in n f) deepest

pub record Climbs (n top deepest : ℕ) (f f' : List ℕ) : Type 0 where
  pub tables : (c : ℕ) (h : List ℕ) → held_tables n c f' h ≡ held_tables n c f h
  pub saved : (c : ℕ) (h : List ℕ) → saved_at n c f' h ≡ place_path (held_tables n c f h) (rank (held_tables n c f h) deepest - rank (held_tables n c f h) top) deepest (saved_at n c f h)
  pub beside : Beside n f f'

-- From here on h₀ is the held table as it was told, which only the proof knows, and h the arranged one in memory.

-- The piece p is placed from its top.
pub record Hanging (n c p top note : ℕ) (f h₀ h : List ℕ) : Type 0 where
  pub arranged : Arranged n c h₀ f h
  pub standing : Standing n (held_tables n c f h₀)
  pub chained : Chained n p f
  pub labels : labels_in n f ≡ pieces n (held_tables n c f h₀).held
  pub top_of_lem : label_at n f top ≡ p
  pub note_in : note ≤ n
  pub ready : Ready n top (hang top note (held_tables n c f h₀))

-- Some links stand arranged along which it can be placed.
pub record MayHang (n c p top note : ℕ) (f h : List ℕ) : Type 0 where
  pub told : List ℕ
  pub hanging : Hanging n c p top note f told h

abbrev pub walk_of : (n top note : ℕ) → Tables → Walk
walk_of n top note t = walked n top (hang top note t)

pub record WholeLeaves (n c top note : ℕ) (f h₀ f' : List ℕ) : Type 0 where
  pub tables : held_tables n c f' h₀ ≡ (walk_of n top note (held_tables n c f h₀)).tables
  pub beside : Beside n f f'

-- Whatever links stand so.
abbrev pub PlacesWhole : (n c p top note : ℕ) (f h f' : List ℕ) → Type 0
PlacesWhole n c p top note f h f' = (h₀ : List ℕ) → Hanging n c p top note f h₀ h → WholeLeaves n c top note f h₀ f'

-- Of a lost piece only the path is placed.
pub record PathLeaves (n c top note : ℕ) (f h₀ f' : List ℕ) : Type 0 where
  pub tables : held_tables n c f' h₀ ≡
      place_path (walk_of n top note (held_tables n c f h₀)).tables
      (rank (walk_of n top note (held_tables n c f h₀)).tables (walk_of n top note (held_tables n c f h₀)).deepest - rank (walk_of n top note (held_tables n c f h₀)).tables top)
      (walk_of n top note (held_tables n c f h₀)).deepest (held_tables n c f h₀)
  pub beside : Beside n f f'

abbrev pub PlacesPath : (n c p top note : ℕ) (f h f' : List ℕ) → Type 0
PlacesPath n c p top note f h f' = (h₀ : List ℕ) → Hanging n c p top note f h₀ h → PathLeaves n c top note f h₀ f'

-- The close comes to the piece p.
pub record Due (n c p : ℕ) (f h₀ h : List ℕ) : Type 0 where
  pub noting : Noting n p f
  pub arranged : Arranged n c h₀ f h
  pub labels : labels_in n f ≡ pieces n (held_tables n c f h₀).held
  pub standing : Standing n (held_tables n c f h₀)
  pub ready : Ready n (top_of n (held_tables n c f h₀) (labels_in n f) p) (hang (top_of n (held_tables n c f h₀) (labels_in n f) p) (noted (held_tables n c f h₀) (labels_in n f) p n) (held_tables n c f h₀))

pub record MayPlace (n c p : ℕ) (f h : List ℕ) : Type 0 where
  pub told : List ℕ
  pub due : Due n c p f told h

pub record PieceLeaves (n c p : ℕ) (f h₀ f' : List ℕ) : Type 0 where
  pub tables : held_tables n c f' h₀ ≡ place_piece n (labels_in n f) p (held_tables n c f h₀)
  pub beside : Beside n f f'

abbrev pub PlacesPiece : (n c p : ℕ) (f h f' : List ℕ) → Type 0
PlacesPiece n c p f h f' = (h₀ : List ℕ) → Due n c p f h₀ h → PieceLeaves n c p f h₀ f'

-- Every fragment's label, by its pointer in section 4.
pub record Labels (n : ℕ) (f f' : List ℕ) : Type 0 where
  pub same_long : length f' ≡ length f
  pub labels : (v : ℕ) → v < n → get_or f' (7 * n + v) 0 ≡ next_or v (get_or f (4 * n + v) 0)
  pub before : (i : ℕ) → i < 7 * n → get_or f' i 0 ≡ get_or f i 0
  pub behind : (i : ℕ) → 8 * n ≤ i → get_or f' i 0 ≡ get_or f i 0

-- p is unplaced and its piece's smallest member.
unfoldable pub due_at : (n p : ℕ) → List ℕ → Bool
due_at n p f = not (placed (forest_in n f) p) && member (labels_in n f) p p

-- All pieces are placed.
pub record Closable (n c : ℕ) (f h₀ h : List ℕ) : Type 0 where
  pub wide : Wide n f
  pub membered : Membered n f
  pub arranged : Arranged n c h₀ f h
  pub room : ℕ
  pub underway : Underway n room (held_tables n c f h₀)
  pub labels : labels_in n f ≡ pieces n (held_tables n c f h₀).held

pub record MayClose (n c : ℕ) (f h : List ℕ) : Type 0 where
  pub told : List ℕ
  pub closable : Closable n c f told h

pub record AllLeaves (n c : ℕ) (f h₀ f' : List ℕ) : Type 0 where
  pub tables : held_tables n c f' h₀ ≡ place_pieces n (labels_in n f) n (held_tables n c f h₀)
  pub beside : Beside n f f'

abbrev pub PlacesAll : (n c : ℕ) (f h f' : List ℕ) → Type 0
PlacesAll n c f h f' = (h₀ : List ℕ) → Closable n c f h₀ h → AllLeaves n c f h₀ f'

-- The pass ends. Scratch is 0.
pub record Endable (n c : ℕ) (f h : List ℕ) : Type 0 where
  pub some : 0 < n
  pub wide : Wide n f
  pub there : c ≤ length h
  pub blank : T (all_zero (take ((words - stored) * n) (drop (stored * n) f)))
  pub room : ℕ
  pub underway : Underway n room (held_tables n c f h)
  -- each link stands with its smaller end first
  pub ends : T (ends_fit n (held_tables n c f h) (held_tables n c f h).held)

-- What is stored stays, and all is ready for the pieces.
pub record Prepares (n c : ℕ) (f h f' h' : List ℕ) : Type 0 where
  pub same_long : length f' ≡ length f
  pub stored : (i : ℕ) → i < 4 * n → get_or f' i 0 ≡ get_or f i 0
  pub closable : Closable n c f' h h'
  pub past : (i : ℕ) → words * n ≤ i → get_or f' i 0 ≡ get_or f i 0
  pub held_long : length h' ≡ length h
  pub held_past : (i : ℕ) → c ≤ i → get_or h' i 0 ≡ get_or h i 0

pub record EndsPass (n c : ℕ) (f h f' h' : List ℕ) : Type 0 where
  pub same_long : length f' ≡ length f
  pub frag : f' ≡ frag_of Building n (close_building n (held_tables n c f h)) f
  pub held : h' ≡ wiped 0 c h

-- The pieces of the held links stand in scratch, over a table whose pass ends.
pub record MayEnd (n c : ℕ) (g h : List ℕ) : Type 0 where
  pub found : List ℕ
  pub endable : Endable n c found h
  pub laid : g ≡ with_pieces n (held_links c h) found

-- Whatever table that was.
abbrev pub PreparesFrom : (n c : ℕ) (g h f' h' : List ℕ) → Type 0
PreparesFrom n c g h f' h' = (f : List ℕ) → Endable n c f h → g ≡ with_pieces n (held_links c h) f → Prepares n c f h f' h'

abbrev pub EndsFrom : (n c : ℕ) (g h f' h' : List ℕ) → Type 0
EndsFrom n c g h f' h' = (f : List ℕ) → Endable n c f h → g ≡ with_pieces n (held_links c h) f → EndsPass n c f h f' h'
