-- What the walk of a piece asks and promises, over the words of the two tables. Definitions only.
-- Assumes nothing.
use Rattle.std.specs.Prelude.{ℕ, suc, pred, ◌+◌, ◌-◌, ◌*◌, ◌≤◌, ◌<◌, ◌≡◌, Bool, ◌&&◌, not, List, ◌≢◌, length, get_or, set, T, ltb, eqb}
use Rattle.base.specs.Pick.{pick}
use Rattle.rules.specs.Search.{count}
use Rattle.rules.specs.Tables.{Tables, rank, placed}
use Rattle.rules.specs.Building.{pieces, member, next_of, walked}
use Rattle.rules.specs.Facts.{Standing}
use Rattle.state.specs.Layout.{words, forest_in}
use Rattle.state.specs.Call.{fragments_most}
use Rattle.closing.specs.Arranged.{links_in, start_of, least_of, smaller_at, Arranged, Frame}
use Rattle.pieces.specs.Gathered.{held_tables}

pub record Wide (n : ℕ) (f : List ℕ) : Type 0 where
  pub few : n ≤ fragments_most
  pub long : words * n ≤ length f

-- A fragment that is placed, by the word of its level.
abbrev pub Placed : ℕ → List ℕ → ℕ → Type 0
Placed n f x = 0 < get_or f (n + x) 0

-- The cursors of a walk at v. Section 14: one more than the greater neighbour it is at, 0 where it is through with these.
-- Section 15: the place among the smaller neighbours.
abbrev pub greater_of : ℕ → List ℕ → ℕ → ℕ
greater_of n f v = get_or f (14 * n + v) 0

abbrev pub smaller_of : ℕ → List ℕ → ℕ → ℕ
smaller_of n f v = get_or f (15 * n + v) 0

-- The smaller neighbours of v before the place s are placed.
pub record Smaller (n : ℕ) (f h : List ℕ) (v s : ℕ) : Type 0 where
  pub from : start_of n f v ≤ s
  pub to : s ≤ start_of n f (suc v)
  pub before : (i : ℕ) → start_of n f v ≤ i → i < s → Placed n f (smaller_at h i)

-- The greater neighbours of v before the cursor g are placed.
pub record Greater (n c : ℕ) (h₀ f : List ℕ) (v g : ℕ) : Type 0 where
  pub through : g ≡ 0 → (x : ℕ) → v < x → T (links_in c h₀ v x) → Placed n f x
  pub before : (b : ℕ) → g ≡ suc b → (v < b) × T (links_in c h₀ v b) × ((x : ℕ) → v < x → x < b → T (links_in c h₀ v x) → Placed n f x)

-- All neighbours of v before the two cursors are placed.
pub record Behind (n c : ℕ) (h₀ f h : List ℕ) (v g s : ℕ) : Type 0 where
  pub greater : Greater n c h₀ f v g
  pub smaller : Smaller n f h v s

-- Stores in the fragment table: cursors kept, a fragment entered, placed, a top hung, a fragment reached.
unfoldable pub cursors_at : (n v g s : ℕ) → List ℕ → List ℕ
cursors_at n v g s f = set (set f (14 * n + v) g) (15 * n + v) s

unfoldable pub entered_at : (n v : ℕ) → List ℕ → List ℕ
entered_at n v f = cursors_at n v (least_of n f v) (start_of n f v) f

unfoldable pub put_at : (n v p r : ℕ) → List ℕ → List ℕ
put_at n v p r f = set (set f v p) (n + v) r

unfoldable pub hung_at : (n top note : ℕ) → List ℕ → List ℕ
hung_at n top note f = pick (eqb note 0) (put_at n top top 1 f) (put_at n top (pred note) (suc (get_or f (n + pred note) 0)) f)

unfoldable pub reached_at : (n at x : ℕ) → List ℕ → List ℕ
reached_at n at x f = entered_at n x (put_at n x at (suc (get_or f (n + at) 0)) f)

-- The deeper of the one reached and the deepest so far.
unfoldable pub deeper : (n at x deepest : ℕ) → List ℕ → ℕ
deeper n at x deepest f = pick (ltb (get_or f (n + deepest) 0) (suc (get_or f (n + at) 0))) x deepest

pub record Hangable (n top note : ℕ) (f : List ℕ) : Type 0 where
  pub wide : Wide n f
  pub top_in : top < n
  pub note_in : note ≤ n
  pub levels : (v : ℕ) → v < n → rank (forest_in n f) v ≤ n

pub record Reachable (n at x deepest : ℕ) (f : List ℕ) : Type 0 where
  pub wide : Wide n f
  pub at_in : at < n
  pub new_in : x < n
  pub deepest_in : deepest < n
  pub level : rank (forest_in n f) at ≤ n

-- The place of v among the smaller neighbours of b.
pub record Found (n b v : ℕ) (f h : List ℕ) (i : ℕ) : Type 0 where
  pub from : start_of n f b ≤ i
  pub to : i < start_of n f (suc b)
  pub here : smaller_at h i ≡ v

pub record Findable (n b v : ℕ) (f h : List ℕ) : Type 0 where
  pub wide : Wide n f
  pub in_range : b < n
  pub there : start_of n f (suc b) ≤ length h
  pub rising : (i j : ℕ) → start_of n f b ≤ i → i < j → j < start_of n f (suc b) → smaller_at h i < smaller_at h j
  pub place : ℕ
  pub found : Found n b v f h place

-- The next unplaced neighbour of v is sought, where some links stand arranged.
pub record Seekable (n v : ℕ) (f h : List ℕ) : Type 0 where
  pub in_range : v < n
  pub count : ℕ
  pub told : List ℕ
  pub arranged : Arranged n count told f h
  pub behind : Behind n count told f h v (greater_of n f v) (smaller_of n f v)

-- The next place among the smaller neighbours.
pub record SeeksSmaller (n v s : ℕ) (f h : List ℕ) : Type 0 where
  pub loose : s < start_of n f (suc v) → get_or f (n + smaller_at h s) 0 ≡ 0
  pub behind : Smaller n f h v s

-- The next cursor among the greater neighbours, whatever links stand arranged.
pub record SeeksGreater (n v g : ℕ) (f h : List ℕ) : Type 0 where
  pub within : g ≤ n
  pub loose : g ≢ 0 → get_or f (n + (g - 1)) 0 ≡ 0
  pub behind : (c : ℕ) (h₀ : List ℕ) → Arranged n c h₀ f h → Greater n c h₀ f v (greater_of n f v) → Greater n c h₀ f v g

-- The neighbour sought, and the new cursors.
pub record Sought (n c : ℕ) (h₀ f h : List ℕ) (v g s r : ℕ) : Type 0 where
  pub next : r ≡ next_of n (held_tables n c f h₀) v
  pub behind : Behind n c h₀ f h v g s

pub record Seeks (n v r : ℕ) (f h f' : List ℕ) : Type 0 where
  pub greater : ℕ
  pub smaller : ℕ
  pub stores : f' ≡ cursors_at n v greater smaller f
  pub sought : (c : ℕ) (h₀ : List ℕ) → Arranged n c h₀ f h → Behind n c h₀ f h v (greater_of n f v) (smaller_of n f v) → Sought n c h₀ f h v greater smaller r

-- A member of the top's piece that is not reached yet, and how many there are.
unfoldable pub waits : (n : ℕ) → Tables → (top v : ℕ) → Bool
waits n t top v = member (pieces n t.held) (get_or (pieces n t.held) top 0) v && not (placed t v)

unfoldable pub unreached : (n : ℕ) → Tables → (top : ℕ) → ℕ
unreached n t top = count (waits n t top) n

-- The walk along the links that h₀ told, which stand arranged in h. At most so many as are missing are not reached yet.
pub record Walkable (n c top missing : ℕ) (f h₀ h : List ℕ) : Type 0 where
  pub arranged : Arranged n c h₀ f h
  pub standing : Standing n (held_tables n c f h₀)
  pub top_in : top < n
  pub top_placed : T (placed (held_tables n c f h₀) top)
  pub left : unreached n (held_tables n c f h₀) top ≤ missing

-- Some links can be walked along.
pub record MayWalk (n c top missing : ℕ) (f h : List ℕ) : Type 0 where
  pub told : List ℕ
  pub walkable : Walkable n c top missing f told h

pub record WalkLeaves (n c top deepest : ℕ) (f h₀ f' : List ℕ) : Type 0 where
  pub tables : held_tables n c f' h₀ ≡ (walked n top (held_tables n c f h₀)).tables
  pub deep : deepest ≡ (walked n top (held_tables n c f h₀)).deepest
  pub deep_in : deepest < n
  pub deep_placed : T (placed (held_tables n c f' h₀) deepest)
  pub standing : Standing n (held_tables n c f' h₀)
  -- only the forest and the cursors in sections 14 and 15 change
  pub frame : Frame n 2 14 f f'

-- Whatever links can be walked along.
abbrev pub Walks : (n c top missing deepest : ℕ) (f h f' : List ℕ) → Type 0
Walks n c top missing deepest f h f' = (h₀ : List ℕ) → Walkable n c top missing f h₀ h → WalkLeaves n c top deepest f h₀ f'
