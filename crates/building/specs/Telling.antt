-- What stands in the two tables while the links of a block are told, and what the private functions of a take leave there. Definitions only.
-- Assumes nothing.
use Rattle.std.specs.Prelude.{ℕ, suc, ◌+◌, ◌-◌, ◌*◌, ◌≤◌, ◌<◌, min, max, ◌≡◌, Bool, true, false, List, length, get_or, set, take, drop, T, ltb}
use Rattle.base.specs.Answer.{gives}
use Rattle.base.specs.Link.{Link}
use Rattle.lists.specs.List.{links_at}
use Rattle.rules.specs.Tables.{Tables, note_of}
use Rattle.rules.specs.Building.{pieces, better, hold, hold_link, build_links}
use Rattle.rules.specs.Facts.{Underway, Loose}
use Rattle.state.specs.Layout.{words, stored, word_of, forest_in, held_link}
use Rattle.state.specs.Test.{all_zero}
use Rattle.state.specs.Call.{fragments_most, room_most}
use Rattle.pieces.specs.Gathered.{held_tables}
use Rattle.pieces.specs.Pieces.{Gathered, Joinable, Joins, Gathers}
use Rattle.building.specs.Noted.{Ends, Noted}

-- The held links stand with the smaller end first.
abbrev pub Rising : ℕ → List ℕ → Type 0
Rising count h = (i : ℕ) → i < count → (held_link h i).0 < (held_link h i).1

-- Between two links of a block: the tables of a pass that is underway, their pieces and the links noted in scratch.
pub record Telling (n k count : ℕ) (f h : List ℕ) : Type 0 where
  pub few_fragments : n ≤ fragments_most
  pub some_room : 0 < k
  pub few_room : k ≤ room_most
  pub long : words * n ≤ length f
  pub held_long : k * n ≤ length h
  pub underway : Underway n k (held_tables n count f h)
  pub gathered : Gathered n (held_tables n count f h).held f
  pub as_many : length (held_tables n count f h).held ≡ count
  pub rising : Rising count h
  pub noted : Noted n (held_tables n count f h).held f

-- What is told leaves the tables t, their pieces and the links noted in scratch, and every word past scratch and the held links.
pub record Leaves (n k count : ℕ) (f h : List ℕ) (count' : ℕ) (f' h' : List ℕ) (t : Tables) : Type 0 where
  pub telling : Telling n k count' f' h'
  pub tables : held_tables n count' f' h' ≡ t
  pub frag_length : length f' ≡ length f
  pub frag_past : drop (words * n) f' ≡ drop (words * n) f
  pub held_length : length h' ≡ length h
  pub held_past : drop count' h' ≡ drop count' h
  pub more : count ≤ count'

-- The table after u noted p, where that is the better note.
unfoldable pub noting : ℕ → ℕ → ℕ → List ℕ → List ℕ
noting n u p f = set f (2 * n + u) (better (forest_in n f) (note_of (forest_in n f) u) (suc p))

pub record Notable (n u p : ℕ) (f : List ℕ) : Type 0 where
  pub few_fragments : n ≤ fragments_most
  pub long : words * n ≤ length f
  pub first : u < n
  pub second : p < n
  pub note_in : note_of (forest_in n f) u ≤ n

-- Room for one more link in the piece of p, by the words of its size and its links.
unfoldable pub room_at : ℕ → ℕ → ℕ → List ℕ → Bool
room_at n k p f = ltb (get_or f (6 * n + p) 0) (k * suc (get_or f (5 * n + p) 0) - 1)

pub record Sized (n k p : ℕ) (f : List ℕ) : Type 0 where
  pub few_fragments : n ≤ fragments_most
  pub some_room : 0 < k
  pub few_room : k ≤ room_most
  pub long : words * n ≤ length f
  pub in_range : p < n

-- A word for one more held link.
pub record Holdable (n count a b : ℕ) (f h : List ℕ) : Type 0 where
  pub few_fragments : n ≤ fragments_most
  pub ends : Ends n a b
  pub there : count < length h
  pub joinable : Joinable n f (min a b) (max a b)

-- The link is held, with the smaller end first, and joins the pieces in scratch.
pub record Holds (n count a b : ℕ) (f h f' h' : List ℕ) : Type 0 where
  pub word : h' ≡ set h count (word_of (min a b, max a b))
  pub joins : Joins n (min a b) (max a b) f f'

-- A link between two unplaced fragments may be told.
pub record Between (n k count a b : ℕ) (f h : List ℕ) : Type 0 where
  pub telling : Telling n k count f h
  pub ends : Ends n a b
  pub loose_first : Loose (held_tables n count f h) a
  pub loose_second : Loose (held_tables n count f h) b

-- Its ends are in the piece with smallest member p.
pub record Within (n k count p a b : ℕ) (f h : List ℕ) : Type 0 where
  pub between : Between n k count a b f h
  pub first : get_or (pieces n (held_tables n count f h).held) a 0 ≡ p
  pub second : get_or (pieces n (held_tables n count f h).held) b 0 ≡ p

-- The link is to be held, and the tables are as they were; or it is not, and they are as it leaves them.
pub record MayHold (n k count a b : ℕ) (f h : List ℕ) (r : Bool) (f' : List ℕ) : Type 0 where
  pub same : r ≡ true → Leaves n k count f h count f' h (held_tables n count f h)
  pub new : r ≡ true → hold_link n k a b (held_tables n count f h) ≡ hold a b (held_tables n count f h)
  pub left : r ≡ false → Leaves n k count f h count f' h (hold_link n k a b (held_tables n count f h))

-- From byte `at` on the block tells links, where so many entries came before.
pub record Rest (n entries : ℕ) (block : List ℕ) (at : ℕ) : Type 0 where
  pub links : List Link
  pub are : links_at n entries block at ≡ gives links

-- The links of a block are told.
abbrev pub Tells : (n k count entries : ℕ) (block f h : List ℕ) (count' : ℕ) (f' h' : List ℕ) → Type 0
Tells n k count entries block f h count' f' h' =
    (links : List Link) → links_at n entries block 0 ≡ gives links → Leaves n k count f h count' f' h' (build_links n k (held_tables n count f h) links)

-- The tables of a pass that is underway, scratch 0.
pub record Tellable (n k count : ℕ) (f h : List ℕ) : Type 0 where
  pub few_fragments : n ≤ fragments_most
  pub some_room : 0 < k
  pub few_room : k ≤ room_most
  pub long : words * n ≤ length f
  pub held_long : k * n ≤ length h
  pub underway : Underway n k (held_tables n count f h)
  pub as_many : length (held_tables n count f h).held ≡ count
  pub rising : Rising count h
  pub blank : T (all_zero (take ((words - stored) * n) (drop (stored * n) f)))

-- The tables t, scratch 0, and every word past the tables and the held links.
pub record Settles (n k count : ℕ) (f h : List ℕ) (count' : ℕ) (f' h' : List ℕ) (t : Tables) : Type 0 where
  pub tables : held_tables n count' f' h' ≡ t
  pub blank : T (all_zero (take ((words - stored) * n) (drop (stored * n) f')))
  pub frag_length : length f' ≡ length f
  pub frag_past : drop (words * n) f' ≡ drop (words * n) f
  pub held_length : length h' ≡ length h
  pub held_past : drop count' h' ≡ drop count' h
  pub more : count ≤ count'
  pub room : count' ≤ k * n
  pub as_many : length t.held ≡ count'

abbrev pub Told : (n k count entries : ℕ) (block f h : List ℕ) (count' : ℕ) (f' h' : List ℕ) → Type 0
Told n k count entries block f h count' f' h' =
    (links : List Link) → links_at n entries block 0 ≡ gives links → Settles n k count f h count' f' h' (build_links n k (held_tables n count f h) links)

-- The pieces of the held links stand in scratch, over such tables.
pub record MayTell (n k count : ℕ) (g h : List ℕ) : Type 0 where
  pub found : List ℕ
  pub tellable : Tellable n k count found h
  pub gathers : Gathers n found h count g

-- The links of a block are told, whatever tables those were.
abbrev pub TellsAll : (n k count entries : ℕ) (block g h : List ℕ) (count' : ℕ) (f' h' : List ℕ) → Type 0
TellsAll n k count entries block g h count' f' h' =
    (f : List ℕ) → Tellable n k count f h → Gathers n f h count g → Told n k count entries block f h count' f' h'
