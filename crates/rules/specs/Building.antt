-- The building rules B1 to B6, in document 01's order. Definitions only.
-- Assumes nothing.
use Rattle.std.specs.Prelude.{ℕ, zero, suc, pred, ◌+◌, ◌-◌, ◌*◌, ◌/◌, min, max, Bool, ◌&&◌, not, List, [], ◌∷◌, ◌++◌, map, get_or, ltb, eqb}
use Rattle.base.specs.Pick.{pick}
use Rattle.base.specs.Link.{Link}
use Rattle.rules.specs.Links.{linked, tally}
use Rattle.rules.specs.Search.{count, some, every, first, table}
use Rattle.rules.specs.Tables.{Tables, parent_of, rank, note_of, mark_of, placed, place, put_note, put_mark, put_held, cleared}

-- B1. 'In a pass, each unplaced fragment starts as a piece of one with no held links.'
-- The smallest member of each fragment's piece, where no link is held yet.
unfoldable pub alone : ℕ → List ℕ
alone n = table (λ v. v) n

-- The two pieces of a link's ends become one.
unfoldable pub merged : Link → List ℕ → List ℕ
merged (a, b) l = map (λ x. pick (eqb x (max (get_or l a 0) (get_or l b 0))) (min (get_or l a 0) (get_or l b 0)) x) l

-- The pieces that the held links make: for each of n fragments the smallest member of its piece.
unfoldable pub pieces_from : List ℕ → List Link → List ℕ
pieces_from l [] = l
pieces_from l (e ∷ held) = pieces_from (merged e l) held

unfoldable pub pieces : ℕ → List Link → List ℕ
pieces n held = pieces_from (alone n) held

-- v is a member of the piece with smallest member p.
unfoldable pub member : List ℕ → ℕ → ℕ → Bool
member l p v = eqb (get_or l v 0) p

-- The size of a piece.
unfoldable pub size_of : ℕ → List ℕ → ℕ → ℕ
size_of n l p = count (member l p) n

-- How many held links a piece has.
unfoldable pub held_in : List ℕ → List Link → ℕ → ℕ
held_in l held p = tally (λ e. member l p e.0) held

-- B2. Of two notes the better: 'if p's level is greater than that of the one noted, or equal with a smaller number, or none is noted'.
-- A note is one more than the fragment noted, 0 for none.
unfoldable pub better : Tables → ℕ → ℕ → ℕ
better t old new =
    pick (eqb new 0) old
    (pick (eqb old 0) new
    (pick (ltb (rank t (pred old)) (rank t (pred new))) new
    (pick (eqb (rank t (pred old)) (rank t (pred new)) && ltb new old) new old)))

-- 'A link from unplaced u to placed p: u notes p'
unfoldable pub note_link : ℕ → ℕ → Tables → Tables
note_link u p t = put_note u (better t (note_of t u) (suc p)) t

-- B3. 'Held links stand in order of arrival.'
unfoldable pub hold : ℕ → ℕ → Tables → Tables
hold a b t = put_held (t.held ++ ((min a b, max a b) ∷ [])) t

-- 'Otherwise, with size s and h held links in the piece, it is held if h < k·s - 1, else the piece is marked lost.'
unfoldable pub fill : ℕ → ℕ → ℕ → ℕ → List ℕ → Tables → Tables
fill n k a b l t =
    pick (ltb (held_in l t.held (get_or l a 0)) (k * size_of n l (get_or l a 0) - 1))
    (hold a b t)
    (put_mark (get_or l a 0) t)

-- 'A link between two unplaced fragments: if held already, nothing. If it joins two pieces, it is held and the pieces become one'
unfoldable pub hold_link : ℕ → ℕ → ℕ → ℕ → Tables → Tables
hold_link n k a b t =
    pick (linked t.held a b) t
    (pick (eqb (get_or (pieces n t.held) a 0) (get_or (pieces n t.held) b 0))
    (fill n k a b (pieces n t.held) t)
    (hold a b t))

-- B2 and B3, by which ends of the link are placed. 'A link between two placed fragments does nothing.'
unfoldable pub build_link : ℕ → ℕ → Tables → Link → Tables
build_link n k t (a, b) =
    pick (placed t a)
    (pick (placed t b) t (note_link b a t))
    (pick (placed t b) (note_link a b t) (hold_link n k a b t))

unfoldable pub build_links : ℕ → ℕ → Tables → List Link → Tables
build_links n k t [] = t
build_links n k t (e ∷ g) = build_links n k (build_link n k t e) g

-- B4. 'Of the fragments noted by the piece's members, take the one of greatest level, then smallest number': as a note, 0 where none is
-- noted, among the members below a bound.
unfoldable pub noted : Tables → List ℕ → ℕ → ℕ → ℕ
noted t l p zero = 0
noted t l p (suc v) = pick (member l p v) (better t (noted t l p v) (note_of t v)) (noted t l p v)

-- 'the piece's top is the smallest member that noted it'; 'If none is noted the smallest member is the top'
unfoldable pub top_of : ℕ → Tables → List ℕ → ℕ → ℕ
top_of n t l p = pick (eqb (noted t l p n) 0) p (first (λ v. member l p v && eqb (note_of t v) (noted t l p n)) n)

-- The top 'hangs under it', or is 'a root: its own parent, level 0'.
unfoldable pub hang : ℕ → ℕ → Tables → Tables
hang top note t =
    pick (eqb note 0)
    (place top top 1 t)
    (place top (pred note) (suc (rank t (pred note))) t)

-- B5. A walk: the tables with what it reached placed, where it stands, and the deepest reached so far, 'the first reached among equals'.
pub record Walk : Type 0 where
  pub tables : Tables
  pub at : ℕ
  pub deepest : ℕ

-- 'along held links, neighbours by rising number': the smallest neighbour not reached yet; n where there is none.
unfoldable pub next_of : ℕ → Tables → ℕ → ℕ
next_of n t v = first (λ w. linked t.held v w && not (placed t w)) n

-- 'A child's level is its parent's plus one.'
unfoldable pub reach_next : ℕ → Walk → Walk
reach_next x w = record {
  tables = place x w.at (suc (rank w.tables w.at)) w.tables;
  at = x;
  deepest = pick (ltb (rank w.tables w.deepest) (suc (rank w.tables w.at))) x w.deepest;
}

unfoldable pub go_back : ℕ → Walk → Walk
go_back top w = record {
  tables = w.tables;
  at = pick (eqb w.at top) top (parent_of w.tables w.at);
  deepest = w.deepest;
}

-- One step of the walk: on to the next neighbour, else back to where it came from; at the top it rests.
unfoldable pub walk_step : ℕ → ℕ → Walk → Walk
walk_step n top w =
    pick (ltb (next_of n w.tables w.at) n)
    (reach_next (next_of n w.tables w.at) w)
    (go_back top w)

unfoldable pub walk_steps : ℕ → ℕ → ℕ → Walk → Walk
walk_steps n top zero w = w
walk_steps n top (suc k) w = walk_steps n top k (walk_step n top w)

-- 'The piece is walked depth-first from its top': each fragment is reached once and left once, so 2·n steps end every walk.
unfoldable pub walked : ℕ → ℕ → Tables → Walk
walked n top t = walk_steps n top (2 * n) (record { tables = t; at = top; deepest = top })

-- 'only the path from the top to the deepest member': v and the k fragments above it are placed as they were walked.
unfoldable pub place_path : Tables → ℕ → ℕ → Tables → Tables
place_path w zero v t = place v (parent_of w v) (rank w v) t
place_path w (suc k) v t = place_path w k (parent_of w v) (place v (parent_of w v) (rank w v) t)

-- A lost mark on some member.
unfoldable pub lost : ℕ → Tables → List ℕ → ℕ → Bool
lost n t l p = some (λ v. member l p v && ltb 0 (mark_of t v)) n

-- 'Not lost: the whole walk is placed. Lost: only the path from the top to the deepest member'
unfoldable pub place_walk : Bool → ℕ → Walk → Tables → Tables
place_walk isLost top w t =
    pick isLost
    (place_path w.tables (rank w.tables w.deepest - rank w.tables top) w.deepest t)
    w.tables

unfoldable pub place_piece : ℕ → List ℕ → ℕ → Tables → Tables
place_piece n l p t =
    place_walk (lost n t l p) (top_of n t l p)
    (walked n (top_of n t l p) (hang (top_of n t l p) (noted t l p n) t)) t

-- 'At close, pieces are taken by smallest member.'
unfoldable pub place_from : ℕ → List ℕ → ℕ → Tables → Tables
place_from n l p t = pick (not (placed t p) && member l p p) (place_piece n l p t) t

unfoldable pub place_pieces : ℕ → List ℕ → ℕ → Tables → Tables
place_pieces n l zero t = t
place_pieces n l (suc p) t = place_from n l p (place_pieces n l p t)

-- B6. 'Notes and held links are then cleared.'
unfoldable pub close_building : ℕ → Tables → Tables
close_building n t = cleared n (place_pieces n (pieces n t.held) n t)

-- 'Done when all are placed.'
unfoldable pub done : ℕ → Tables → Bool
done n t = every (placed t) n

-- A whole pass that tells a list, and passes one after another.
unfoldable pub pass : ℕ → ℕ → Tables → List Link → Tables
pass n k t g = close_building n (build_links n k t g)

unfoldable pub passes : ℕ → ℕ → Tables → List (List Link) → Tables
passes n k t [] = t
passes n k t (g ∷ gs) = passes n k (pass n k t g) gs

-- 'The ceiling is n/k rounded up.' Of how many passes there are with room k.
abbrev pub ceiling : ℕ → ℕ → ℕ
ceiling n k = (n + k - 1) / k

-- A lower one that these rules keep as well: n/(k + 1), rounded up.
abbrev pub lower_ceiling : ℕ → ℕ → ℕ
lower_ceiling n k = (n + k) / (k + 1)
