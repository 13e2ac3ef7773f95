-- The pieces of the held links in three scratch sections of the fragment table: when they stand there, and what the private functions ask and leave. Definitions only.
-- Assumes nothing.
use Rattle.std.specs.Prelude.{ℕ, suc, ◌+◌, ◌-◌, ◌*◌, ◌≤◌, ◌<◌, ◌≡◌, List, [], ◌∷◌, ◌++◌, length, get_or, set, take, drop, T, eqb}
use Rattle.base.specs.Pick.{pick}
use Rattle.base.specs.Link.{Link}
use Rattle.rules.specs.Building.{pieces, size_of, held_in}
use Rattle.rules.specs.Links.{Inside}
use Rattle.state.specs.Layout.{words, stored, held_links}
use Rattle.state.specs.Test.{all_zero}
use Rattle.state.specs.Call.{fragments_most}
use Rattle.pieces.specs.Gathered.{with_pieces}

-- p and q are fragments of the table.
pub record Members (n p q : ℕ) (f : List ℕ) : Type 0 where
  pub few_fragments : n ≤ fragments_most
  pub long : words * n ≤ length f
  pub first : p < n
  pub second : q < n

-- As many links as there is room for where n and k are greatest.
abbrev pub held_most : ℕ
held_most = 2097152

-- Section 4: 0, or one more than a smaller fragment. So a way along these pointers ends.
pub record Pointing (n : ℕ) (f : List ℕ) : Type 0 where
  pub few_fragments : n ≤ fragments_most
  pub long : words * n ≤ length f
  pub down : (v : ℕ) → v < n → get_or f (4 * n + v) 0 ≤ v

-- The pieces that the held links make stand in the table.
pub record Gathered (n : ℕ) (held : List Link) (f : List ℕ) : Type 0 where
  pub pointing : Pointing n f
  pub few : length held ≤ held_most
  pub inside : Inside n held
  -- section 4: 0 at the smallest member of a piece, elsewhere one more than a smaller member
  pub first : (v : ℕ) → v < n → get_or f (4 * n + v) 0 ≡ 0 → get_or (pieces n held) v 0 ≡ v
  pub next : (v u : ℕ) → v < n → get_or f (4 * n + v) 0 ≡ suc u → get_or (pieces n held) u 0 ≡ get_or (pieces n held) v 0
  -- section 5, at the smallest member: one less than the size
  pub size : (p : ℕ) → p < n → get_or (pieces n held) p 0 ≡ p → suc (get_or f (5 * n + p) 0) ≡ size_of n (pieces n held) p
  -- section 6, at the smallest member: how many links are held
  pub links : (p : ℕ) → p < n → get_or (pieces n held) p 0 ≡ p → get_or f (6 * n + p) 0 ≡ held_in (pieces n held) held p

-- Nothing but these three sections changed.
pub record Kept (n : ℕ) (f f' : List ℕ) : Type 0 where
  pub same_length : length f' ≡ length f
  pub before : take (stored * n) f' ≡ take (stored * n) f
  pub behind : drop (7 * n) f' ≡ drop (7 * n) f

-- The smallest member of v's piece, whatever links stand gathered.
abbrev pub LabelIs : (n : ℕ) (f : List ℕ) (v r : ℕ) → Type 0
LabelIs n f v r = (held : List Link) → Gathered n held f → r ≡ get_or (pieces n held) v 0

-- A find: the smallest member of v's piece; the pointers may be shorter afterwards, whatever links stand gathered stay gathered.
pub record Finds (n v : ℕ) (f : List ℕ) (r : ℕ) (f' : List ℕ) : Type 0 where
  pub label : LabelIs n f v r
  pub in_range : r < n
  pub pointing : Pointing n f'
  pub stays : (held : List Link) → Gathered n held f → Gathered n held f'
  pub kept : Kept n f f'

-- One more link fits.
pub record Joinable (n : ℕ) (f : List ℕ) (a b : ℕ) : Type 0 where
  pub held : List Link
  pub gathered : Gathered n held f
  pub room : length held < held_most
  pub one : a < n
  pub two : b < n

-- The link from a to b stands gathered too, whatever links did.
pub record Joins (n a b : ℕ) (f f' : List ℕ) : Type 0 where
  pub more : (held : List Link) → length held < held_most → Gathered n held f → Gathered n (held ++ ((a, b) ∷ [])) f'
  pub kept : Kept n f f'

-- The first `count` words of the held table are links that can be gathered in a table whose scratch is 0.
pub record Gatherable (n : ℕ) (f h : List ℕ) (count : ℕ) : Type 0 where
  pub few_fragments : n ≤ fragments_most
  pub long : words * n ≤ length f
  pub blank : T (all_zero (take ((words - stored) * n) (drop (stored * n) f)))
  pub few : count ≤ held_most
  pub there : count ≤ length h
  pub inside : Inside n (held_links count h)

pub record Gathers (n : ℕ) (f h : List ℕ) (count : ℕ) (f' : List ℕ) : Type 0 where
  pub gathered : Gathered n (held_links count h) f'
  pub kept : Kept n f f'

-- The pointers can be shortened where pieces stand gathered.
pub record Shortable (n : ℕ) (f : List ℕ) : Type 0 where
  pub held : List Link
  pub gathered : Gathered n held f

-- Whatever links stand gathered, their pieces are laid as they are told.
abbrev pub Shortens : (n : ℕ) (f f' : List ℕ) → Type 0
Shortens n f f' = (held : List Link) → Gathered n held f → f' ≡ with_pieces n held f

-- A pointer goes on to where the fragment points to which it leads; to that fragment where it is the smallest member.
unfoldable pub shorter : ℕ → ℕ → ℕ
shorter word up = pick (eqb up 0) word up

-- So for the fragment v, which has then neither size nor links.
unfoldable pub short_at : ℕ → ℕ → List ℕ → List ℕ
short_at n v f = set (set (set f (4 * n + v) (shorter (get_or f (4 * n + v) 0) (get_or f (4 * n + (get_or f (4 * n + v) 0 - 1)) 0))) (5 * n + v) 0) (6 * n + v) 0

pub record Leading (n v : ℕ) (f : List ℕ) : Type 0 where
  pub few_fragments : n ≤ fragments_most
  pub long : words * n ≤ length f
  pub in_range : v < n
  pub some : 0 < get_or f (4 * n + v) 0
  pub down : get_or f (4 * n + v) 0 ≤ v
