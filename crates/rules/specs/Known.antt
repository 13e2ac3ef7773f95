-- The known instances P1 to P10 of document 01, and Q1 to Q6, which pin what no other instance pins of B2 to B5; proved of the rules as one table, by
-- computation.
-- Assumes nothing.
use Rattle.std.specs.Prelude.{ℕ, zero, suc, ◌≡◌, refl, ◌&&◌, List, [], ◌∷◌, ◌++◌, map, length, ltb}
use Rattle.base.specs.Pick.{pick}
use Rattle.base.specs.Link.{Link}
use Rattle.rules.specs.Links.{between, linked, tally}
use Rattle.rules.specs.Forest.{up, depth}
use Rattle.rules.specs.Search.{count, sum, some, every, first, least, table, listed}
use Rattle.rules.specs.Tables.{Tables, parent_of, rank, note_of, mark_of, placed, par, lev, fresh, place, put_note, put_mark, put_held, put_crossed, cleared}
use Rattle.rules.specs.Building.{alone, merged, pieces_from, pieces, member, size_of, held_in, better, note_link, hold, fill, hold_link, build_link, build_links, noted, top_of, hang, next_of, reach_next, go_back, walk_step, walk_steps, walked, place_path, lost, place_walk, place_piece, place_from, place_pieces, close_building, done, pass, passes}
use Rattle.rules.specs.Adopting.{rooted_in, adoptable, adopted}
use Rattle.rules.specs.Reading.{above, hear, read_link, read_links, seen, accepted, lowest, reach, child_of, sole_below, sole, cut, root_of, piece}
use Rattle.rules.specs.Numbers.{below, below_if, beside, passed, turn_at, turn, end, at_turn}

-- Build with room k from a list told in every pass, and read it; build from the lists of the passes, one by one, and read another; or adopt
-- parents and read a list.
pub data Instance : Type 0 where
  build : (n k : ℕ) (links : List Link) → Instance
  differ : (n k : ℕ) (lists : List (List Link)) (links : List Link) → Instance
  adopt : (parents : List ℕ) (links : List Link) → Instance

-- The count of passes, the parents, the sole links and the cut fragments; or the refusal's number.
pub data Result : Type 0 where
  reports : (passes : ℕ) (parents : List ℕ) (soles : List Link) (cuts : List ℕ) → Result
  refused : (number : ℕ) → Result

-- Sole links, by smaller, then larger end, of the fragments below m.
unfoldable pub soles_to : ℕ → Tables → ℕ → List Link
soles_to n t zero = []
soles_to n t (suc a) = soles_to n t a ++ map (λ b. (a, b)) (listed (λ b. ltb a b && sole n t a b) n)

unfoldable pub reported : ℕ → ℕ → Tables → Result
reported n passes t =
    pick (accepted n t) (reports passes t.parent (soles_to n t n) (listed (cut n t) n)) (refused 9)

-- Passes that tell the list until all are placed, as many as the bound allows, then the reading pass.
unfoldable pub run : ℕ → ℕ → List Link → ℕ → ℕ → Tables → Result
run n k g zero p t = reported n p (read_links (cleared n t) g)
run n k g (suc bound) p t =
    let next = run n k g bound (suc p) (pass n k t g) in
    pick (done n t) (reported n p (read_links (cleared n t) g)) next

unfoldable pub result_of : Instance → Result
result_of (build n k g) = run n k g n 0 (fresh n)
result_of (differ n k gs g) =
    let t = passes n k (fresh n) gs in
    pick (done n t) (reported n (length gs) (read_links (cleared n t) g)) (refused 6)
result_of (adopt ps g) =
    let n = length ps in
    pick (adoptable n ps) (reported n 0 (read_links (adopted n ps) g)) (refused 10)

-- One row of the table in document 01.
pub record Row : Type 0 where
  pub instance : Instance
  pub result : Result

unfoldable pub row : Instance → Result → Row
row i r = record { instance = i; result = r }

unfoldable pub square : List Link
square = (0, 1) ∷ (0, 2) ∷ (0, 3) ∷ (1, 2) ∷ []

unfoldable pub triangle : List Link
triangle = (0, 2) ∷ (1, 2) ∷ (0, 1) ∷ []

unfoldable pub instances : List Row
instances =
    -- P1, P2
    row (build 4 1 square) (reports 2 (0 ∷ 0 ∷ 1 ∷ 0 ∷ []) ((0, 3) ∷ []) (0 ∷ []))
    ∷ row (build 4 2 square) (reports 1 (0 ∷ 0 ∷ 1 ∷ 0 ∷ []) ((0, 3) ∷ []) (0 ∷ []))
    -- P3, P4
    ∷ row (build 3 1 triangle) (reports 1 (0 ∷ 2 ∷ 0 ∷ []) [] [])
    ∷ row (build 3 2 triangle) (reports 1 (0 ∷ 0 ∷ 1 ∷ []) [] [])
    -- P5
    ∷ row (build 1 1 []) (reports 1 (0 ∷ []) [] [])
    -- P6
    ∷ row (build 3 1 ((0, 1) ∷ (0, 1) ∷ (1, 2) ∷ [])) (reports 1 (0 ∷ 0 ∷ 1 ∷ []) ((0, 1) ∷ (1, 2) ∷ []) (1 ∷ []))
    -- P7; of the cut fragments document 01 says nothing there, and in a ring there are none
    ∷ row (build 4 1 ((0, 1) ∷ (0, 2) ∷ (1, 3) ∷ (2, 3) ∷ [])) (reports 2 (0 ∷ 0 ∷ 3 ∷ 1 ∷ []) [] [])
    -- P8, P9, P10
    ∷ row (adopt (0 ∷ 0 ∷ 0 ∷ []) triangle) (refused 9)
    ∷ row (adopt (0 ∷ 0 ∷ []) []) (refused 9)
    ∷ row (adopt (1 ∷ 0 ∷ []) []) (refused 10)
    -- Q1, B4: the top is the smallest member that noted the fragment, 2 and not 3
    ∷ row (build 4 1 ((0, 2) ∷ (0, 3) ∷ (0, 1) ∷ (3, 2) ∷ [])) (reports 2 (0 ∷ 0 ∷ 0 ∷ 2 ∷ []) ((0, 1) ∷ []) (0 ∷ []))
    -- Q2, B5: the deepest member is the first reached among equals, 1 and not 2
    ∷ row (build 3 1 ((1, 0) ∷ (0, 2) ∷ (2, 1) ∷ [])) (reports 2 (0 ∷ 0 ∷ 1 ∷ []) [] [])
    -- Q3, B3: a piece of five holds nine links, all there are
    ∷ row (build 5 2 ((0, 3) ∷ (0, 4) ∷ (4, 2) ∷ (4, 3) ∷ (1, 4) ∷ (1, 2) ∷ (0, 2) ∷ (1, 3) ∷ (1, 0) ∷ [])) (reports 1 (0 ∷ 0 ∷ 1 ∷ 4 ∷ 2 ∷ []) [] [])
    -- Q4, B2 and B4: of two noted fragments of equal level the smaller number, 0 and not 2
    ∷ row (differ 4 1 (((1, 0) ∷ (0, 3) ∷ (3, 1) ∷ (0, 3) ∷ []) ∷ ((3, 2) ∷ (3, 0) ∷ []) ∷ []) ((0, 1) ∷ (0, 3) ∷ [])) (reports 2 (0 ∷ 0 ∷ 2 ∷ 0 ∷ []) ((0, 1) ∷ (0, 3) ∷ []) (0 ∷ []))
    -- Q5, B2: of two noted fragments the deeper, 1, though 0 is told last
    ∷ row (build 3 1 ((0, 1) ∷ (0, 2) ∷ (1, 2) ∷ (0, 2) ∷ [])) (reports 2 (0 ∷ 0 ∷ 1 ∷ []) [] [])
    -- Q6, B3: a link held already fills no room
    ∷ row (build 3 1 ((0, 1) ∷ (0, 1) ∷ (0, 2) ∷ [])) (reports 1 (0 ∷ 0 ∷ 0 ∷ []) ((0, 1) ∷ (0, 2) ∷ []) (0 ∷ []))
    ∷ []

pub known : map (λ r. result_of r.instance) instances ≡ map (λ r. r.result) instances
unfolding pick between linked tally up depth count some every first least table listed parent_of rank note_of mark_of placed par lev fresh place put_note put_mark put_held put_crossed cleared alone merged pieces_from pieces member size_of held_in better note_link hold fill hold_link build_link build_links noted top_of hang next_of reach_next go_back walk_step walk_steps walked place_path lost place_walk place_piece place_from place_pieces close_building done pass passes rooted_in adoptable adopted above hear read_link read_links seen accepted lowest reach child_of sole_below sole cut root_of piece soles_to reported run result_of row square triangle instances
known = refl

-- The numbers of a forest with the roots 1 and 3: 1 before 6; 3 before 0, which is before 2 and 5, and before 4.
unfoldable pub grove : Tables
grove = adopted 7 (3 ∷ 1 ∷ 0 ∷ 3 ∷ 3 ∷ 0 ∷ 1 ∷ [])

pub known_numbers : (table (turn 7 grove) 7 ≡ 3 ∷ 0 ∷ 4 ∷ 2 ∷ 6 ∷ 5 ∷ 1 ∷ []) × (table (end 7 grove) 7 ≡ 6 ∷ 2 ∷ 5 ∷ 7 ∷ 7 ∷ 6 ∷ 2 ∷ []) × (table (at_turn 7 grove) 7 ≡ 1 ∷ 6 ∷ 3 ∷ 0 ∷ 2 ∷ 5 ∷ 4 ∷ [])
unfolding pick up depth count first sum table parent_of rank placed par lev adopted above child_of below below_if beside passed turn_at turn end at_turn grove
known_numbers = (refl, refl, refl)
