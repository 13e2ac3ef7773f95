-- What follows from the rules of document 01: the theorems that demands 2 and 3 rest on, to be read alone. Behind each stands the instance of
-- P1 to P10 that meets its premises.
-- Assumes nothing.
use Rattle.std.specs.Prelude.{ℕ, suc, ◌+◌, ◌*◌, ◌≤◌, ◌<◌, ◌≡◌, not, ◌&&◌, List, [], ◌∷◌, ◌++◌, ◌↔◌, length, get_or, T, eqb}
use Rattle.base.specs.Link.{Link}
use Rattle.rules.specs.Links.{Links, Undirected, linked, Among, SameSet, JoinedBy, Tells, Each, Inside}
use Rattle.rules.specs.Removal.{Sole, Cut, PieceIn, Piece}
use Rattle.rules.specs.Forest.{up, depth, DepthFirst}
use Rattle.rules.specs.Search.{count, least}
use Rattle.rules.specs.Tables.{Tables, mark_of, placed, par, lev, fresh, cleared}
use Rattle.rules.specs.Building.{pieces, member, walked, build_links, done, pass, passes, ceiling, lower_ceiling}
use Rattle.rules.specs.Adopting.{parent_in, adoptable, adopted}
use Rattle.rules.specs.Reading.{above, read_links, accepted, lowest, sole, cut, piece}
use Rattle.rules.specs.Numbers.{beside, turn, end, at_turn}
use Rattle.rules.specs.Facts.{Standing, Unnoted, Rested, Loose, Holding, Underway, Ready, Walked, Partial, NotesOf, SameReports}
use Rattle.rules.specs.Method.{Method, after, Owes, first_method}
use Rattle.rules.proofs.Laws.Walk.{walk}
use Rattle.rules.proofs.Laws.Step.{list_kept}
use Rattle.rules.proofs.Laws.Quota.{held_most_lem}
use Rattle.rules.proofs.Laws.Pieces.{pieces_joined, label_least}
use Rattle.rules.proofs.Laws.Reading.{read_notes, note_exact}
use Rattle.rules.proofs.Laws.Passes.{fresh_partial, pass_keeps, pass_grows, pass_finishes, result}
use Rattle.rules.proofs.Laws.Ceiling.{unfinished_places, within_ceiling, within_lower}
use Rattle.rules.proofs.Laws.Reports.{forest_piece, accepts, noted_sole, noted_cut, noted_piece, noted_reports, reading_exact, sole_exact, cut_exact, piece_exact, equal_reports}
use Rattle.rules.proofs.Laws.Method.{forest_accepted, forests_agree, method_stands, method_accepted, methods_agree, tell_passes_lem, first_owes, finished_piece}
use Rattle.rules.proofs.Laws.Up.{level_arrives, level_fewest}
use Rattle.rules.proofs.Laws.Tables.{standing_levels}
use Rattle.rules.proofs.Laws.Adopting.{level_depth, adopted_exact}
use Rattle.rules.proofs.Laws.Numbers.{above_range, turn_in_lem, at_turn_lem, turn_at_lem, beside_turn}

-- 1. Every pass keeps the invariant: what stands is part of a depth-first forest of the set, and each unplaced part hangs on one way to the root
-- (record Partial). It is kept by a pass that tells the set in any order and with any repeats,
pub every_pass_keeps : (n k : ℕ) (E : Links) (t : Tables) (g : List Link) → 1 ≤ k → Among n E → Tells E g → Partial n E t → Rested n t → Partial n E (pass n k t g) × Rested n (pass n k t g)
every_pass_keeps n k E t g pos among tells P R = pass_keeps pos among P R g tells

-- it holds at the start, of every set,
pub start_keeps : (n : ℕ) (E : Links) → Partial n E (fresh n)
start_keeps = fresh_partial

-- every pass places at least one fragment more, whatever it was told,
pub every_pass_grows : (n k : ℕ) (t : Tables) (g : List Link) → 1 ≤ k → Standing n t → Rested n t → Among n (linked g) → (v : ℕ) → v < n → Loose t v → count (placed t) n < count (placed (pass n k t g)) n
every_pass_grows n k t g pos S R among = pass_grows pos S R g among

-- and a pass that loses nothing places everything. (P1's first pass loses something, its second and P2's only one nothing.)
pub nothing_lost_finishes : (n k : ℕ) (t : Tables) (g : List Link) → 1 ≤ k → Standing n t → Rested n t → Among n (linked g) → ((v : ℕ) → v < n → mark_of (build_links n k t g) v ≡ 0) → T (done n (pass n k t g))
nothing_lost_finishes n k t g pos S R among = pass_finishes pos S R g among

-- 2. The walk is depth-first: every held link of a piece joins a walked fragment and one above it (Walked.spans), and the walk reaches the whole
-- piece (Walked.reached). (P2: Laws.Met.met-walk.)
pub walk_depth_first : (n top : ℕ) (t : Tables) → Ready n top t → Walked n top t (walked n top t).tables (walked n top t).deepest
walk_depth_first = walk

-- 3. The result: where every pass told the same set, what stands when nothing is unplaced is a depth-first forest of it. (P1: Laws.Met.met-result.)
pub finished_forest : (n k : ℕ) (E : Links) (gs : List (List Link)) → 1 ≤ k → Among n E → Each (Tells E) gs → T (done n (passes n k (fresh n) gs)) → DepthFirst n (par (passes n k (fresh n) gs)) E
finished_forest n k E gs pos among = result pos among gs

-- Its pieces are those of the set, before any reading: the smallest fragment joined with v.
pub finished_pieces : (n k : ℕ) (E : Links) (gs : List (List Link)) → 1 ≤ k → Among n E → Each (Tells E) gs → T (done n (passes n k (fresh n) gs)) → (v : ℕ) → v < n → PieceIn E v (piece n (passes n k (fresh n) gs) v)
finished_pieces n k E gs pos among = finished_piece n k pos E among gs

-- So they are in every depth-first forest of a set of links, whatever it notes.
pub forest_pieces : (n : ℕ) (t : Tables) (E : Links) → Standing n t → Undirected E → Among n E → DepthFirst n (par t) E → (v : ℕ) → v < n → PieceIn E v (piece n t v)
forest_pieces n t E = forest_piece

-- The level is the number of steps to the root: so many lead there, no fewer do, and counting along the parents gives it.
pub level_steps : (n : ℕ) (t : Tables) → Standing n t → (v : ℕ) → v < n → (par t (up (par t) (lev t v) v) ≡ up (par t) (lev t v) v) × ((k : ℕ) → par t (up (par t) k v) ≡ up (par t) k v → lev t v ≤ k)
level_steps n t S v h = (level_arrives (standing_levels S) v h, λ k. level_fewest (standing_levels S) v k h)

pub level_counted : (n : ℕ) (t : Tables) → Standing n t → (v : ℕ) → v < n → lev t v ≡ depth (par t) n v
level_counted n t S = level_depth (standing_levels S)

-- 4. The ceiling: an unfinished pass places more than k fragments, whatever list it was told; (P1's first pass: Laws.Met.met-unfinished.)
pub unfinished_pass_places : (n k : ℕ) (t : Tables) (g : List Link) → 1 ≤ k → Standing n t → Rested n t → Among n (linked g) → (T (done n (pass n k t g)) → ⊥) → count (placed t) n + suc k ≤ count (placed (pass n k t g)) n
unfinished_pass_places n k t g pos S R among = unfinished_places pos S R g among

-- hence no more passes than the ceiling, nor than the lower one: passes gs that left something unplaced, and one more. (P1: Laws.Met.met-ceiling, met-most.)
pub passes_within : (n k : ℕ) (gs : List (List Link)) (g : List Link) → 1 ≤ k → Each (λ h. Among n (linked h)) gs → (T (done n (passes n k (fresh n) gs)) → ⊥) → (length (gs ++ (g ∷ [])) ≤ ceiling n k) × (length (gs ++ (g ∷ [])) ≤ lower_ceiling n k)
passes_within n k gs g pos among left = (within_ceiling n k pos gs among left g, within_lower n k pos gs among left g)

-- 5. Reading: where no note stood, the notes that a list leaves are those that the reading rules say of it (record NotesOf),
pub reading_notes : (n : ℕ) (t : Tables) (g : List Link) → Standing n t → Unnoted n t → Among n (linked g) → NotesOf n g (read_links t g)
reading_notes n t g S Z = read_notes S Z g

-- and with such notes exactly the lists are accepted of which the table is a depth-first forest.
pub notes_accept : (n : ℕ) (t : Tables) (g : List Link) → NotesOf n g t → T (accepted n t) ↔ DepthFirst n (par t) (linked g)
notes_accept n t g = accepts

-- So the reading rules accept exactly the lists of which the table is a depth-first forest, for every table that stands.
-- (P1's parents: Laws.MetReading; P8 and P9 are refused.)
pub reading_accepts : (n : ℕ) (t : Tables) (g : List Link) → Standing n t → Among n (linked g) → T (accepted n (read_links (cleared n t) g)) ↔ DepthFirst n (par t) (linked g)
reading_accepts n t g S among = reading_exact S g among

-- A table of parents is adopted, and its reading accepted, exactly where it is a depth-first forest of the list read. (Yes: Laws.MetReading.met-adopted.
-- No, by reading: P8, P9; by adopting: P10.)
pub adopting_accepts : (n : ℕ) (ps : List ℕ) (g : List Link) → n ≤ length ps → Among n (linked g) → (T (adoptable n ps) × T (accepted n (read_links (adopted n ps) g))) ↔ DepthFirst n (parent_in ps) (linked g)
adopting_accepts = adopted_exact

-- What the reading rules note is what they say: 'the least of its own level and the levels of fragments linked to it, its parent left out'.
pub note_least : (n : ℕ) (t : Tables) (g : List Link) → Standing n t → Among n (linked g) → (v : ℕ) → v < n → lowest (read_links (cleared n t) g) v ≡ least (λ w. linked g v w && not (eqb w (par t v))) (lev t) (lev t v) n
note_least n t g S among = note_exact S g among

-- 6. Removal: in a depth-first forest of a list, with its notes, sole, cut and piece are those by removal on the list, both ways.
module _ (n : ℕ) (t : Tables) (g : List Link) (notes : NotesOf n g t) (forest : DepthFirst n (par t) (linked g)) where
  pub sole_by_notes : (a b : ℕ) → a < n → b < n → T (sole n t a b) ↔ Sole g a b
  sole_by_notes = noted_sole notes forest

  pub cut_by_notes : (v : ℕ) → v < n → T (cut n t v) ↔ Cut g v
  cut_by_notes = noted_cut notes forest

  pub piece_by_notes : (v : ℕ) → v < n → Piece g v (piece n t v)
  piece_by_notes = noted_piece notes forest

-- So they are where reading accepts, on the list read. (P1: Laws.MetReading.met-sole, met-cut.)
module _ (n : ℕ) (t : Tables) (g : List Link) (S : Standing n t) (among : Among n (linked g)) (read : T (accepted n (read_links (cleared n t) g))) where
  pub sole_by_removal : (a b : ℕ) → a < n → b < n → T (sole n (read_links (cleared n t) g) a b) ↔ Sole g a b
  sole_by_removal = sole_exact S g among read

  pub cut_by_removal : (v : ℕ) → v < n → T (cut n (read_links (cleared n t) g) v) ↔ Cut g v
  cut_by_removal = cut_exact S g among read

  pub piece_by_removal : (v : ℕ) → v < n → Piece g v (piece n (read_links (cleared n t) g) v)
  piece_by_removal = piece_exact S g among read

-- 7. Equal reports: two depth-first forests of one set, with the notes of lists that tell it, answer piece, sole and cut alike;
pub reports_by_notes : (n : ℕ) (s t : Tables) (g h : List Link) → NotesOf n g s → NotesOf n h t → DepthFirst n (par s) (linked g) → DepthFirst n (par t) (linked h) → SameSet g h → SameReports n s t
reports_by_notes n s t g h = noted_reports

-- so do two tables that accept lists telling the same set. (Two forests of P1's links: Laws.MetReading.met-equal.) That an accepted reading is true
-- of the list it read, whatever the passes told, is 6: it asks nothing of the passes.
pub reports_equal : (n : ℕ) (s t : Tables) (g h : List Link) → Standing n s → Standing n t → Among n (linked g) → SameSet g h → T (accepted n (read_links (cleared n s) g)) → T (accepted n (read_links (cleared n t) h)) → SameReports n (read_links (cleared n s) g) (read_links (cleared n t) h)
reports_equal n s t g h S Z among same = equal_reports S Z g h among same

-- 8. Held links. The pieces are what the held links make: two fragments are in one piece exactly when held links join them, and a piece is known by its smallest member.
pub pieces_by_held : (n : ℕ) (held : List Link) → Inside n held → (u v : ℕ) → u < n → v < n → (get_or (pieces n held) u 0 ≡ get_or (pieces n held) v 0) ↔ JoinedBy (linked held) u v
pieces_by_held = pieces_joined

pub pieces_smallest : (n : ℕ) (held : List Link) → Inside n held → (u v : ℕ) → v < n → JoinedBy (linked held) v u → get_or (pieces n held) v 0 ≤ u
pieces_smallest = label_least

-- None is held twice and a piece of s holds at most k·s - 1, at every moment of a pass (record Underway, with Holding in it, is kept by every link told),
pub held_links_kept : (n k : ℕ) (t : Tables) (g : List Link) → Among n (linked g) → Underway n k t → Underway n k (build_links n k t g)
held_links_kept n k t g among U = list_kept g among U

-- so at most k·n less the number of pieces, counted among the unplaced fragments.
pub held_links_most : (n k : ℕ) (t : Tables) → Holding n k t → length t.held + count (λ v. not (placed t v) && member (pieces n t.held) v v) n ≤ k * count (λ v. not (placed t v)) n
held_links_most = held_most_lem

-- 9. What follows building rests on 'a depth-first forest of the set', by whatever method it was built: a pass that tells the set is accepted (and
-- then 6 holds of it), and any two such forests report alike.
module _ (n : ℕ) (E : Links) (among : Among n E) where
  pub forest_accepts : (t : Tables) (g : List Link) → Standing n t → DepthFirst n (par t) E → Tells E g → T (accepted n (read_links (cleared n t) g))
  forest_accepts t g S D = forest_accepted among S D g

  pub forests_equal : (s t : Tables) (g h : List Link) → Standing n s → Standing n t → DepthFirst n (par s) E → DepthFirst n (par t) E → Tells E g → Tells E h → SameReports n (read_links (cleared n s) g) (read_links (cleared n t) h)
  forests_equal s t g h S Z C D = forests_agree among S Z C D g h

-- So of every method that keeps what a method owes (record Owes in Method.antt), where every pass told the set and nothing is unplaced: what it
-- built stands, a pass that tells the set is accepted, and two such methods, or one with two rooms, report alike. (P1: Laws.Met.met-done.)
module _ {S : Type 0} (n : ℕ) (M : Method S) (Sound : S → Type 0) (owes : Owes n M Sound) (E : Links) (among : Among n E) (gs : List (List Link)) (tells : Each (Tells E) gs) (d : T (done n (M.forest (after M gs)))) where
  pub method_reads : Standing n (M.forest (after M gs)) × ((g : List Link) → Tells E g → T (accepted n (read_links (cleared n (M.forest (after M gs))) g)))
  method_reads = (method_stands owes E among gs tells, method_accepted owes E among gs tells d)

  pub methods_equal : {Z : Type 0} (N : Method Z) (Whole : Z → Type 0) → Owes n N Whole → (hs : List (List Link)) → Each (Tells E) hs → T (done n (N.forest (after N hs))) → (g h : List Link) → Tells E g → Tells E h → SameReports n (read_links (cleared n (M.forest (after M gs))) g) (read_links (cleared n (N.forest (after N hs))) h)
  methods_equal N Whole other hs tell c = methods_agree owes other E among gs hs tells tell d c

-- B1 to B6 are such a method: what they keep at every moment is Underway.
pub first_method_lem : (n k : ℕ) → 1 ≤ k → Owes n (first_method n k) (Underway n k)
first_method_lem = first_owes

pub first_method_passes : (n k : ℕ) (gs : List (List Link)) → after (first_method n k) gs ≡ passes n k (fresh n) gs
unfolding first_method
first_method_passes n k gs = tell_passes_lem n k (fresh n) gs

-- The numbers of a forest that stands are those of a depth-first order: a is above b exactly where b's turn is in a's range, each turn is one
-- fragment's, and of two children of one fragment, or two roots, the smaller with all below it comes first. (Known.known-numbers.)
module _ (n : ℕ) (t : Tables) (S : Standing n t) where
  pub above_by_turns : (a b : ℕ) → a < n → b < n → T (above t a b) ↔ ((turn n t a ≤ turn n t b) × (turn n t b < end n t a))
  above_by_turns = above_range n t (standing_levels S)

  pub turns_once : ((v : ℕ) → v < n → (turn n t v < n) × (at_turn n t (turn n t v) ≡ v)) × ((i : ℕ) → i < n → (at_turn n t i < n) × (turn n t (at_turn n t i) ≡ i))
  turns_once = (λ v h. (turn_in_lem n t (standing_levels S) v h, at_turn_lem n t (standing_levels S) v h), turn_at_lem n t (standing_levels S))

  pub turns_rise : (c d : ℕ) → c < n → d < n → T (beside t d c) → c < d → end n t c ≤ turn n t d
  turns_rise = beside_turn n t (standing_levels S)
