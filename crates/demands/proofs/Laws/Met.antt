-- Known instances that meet the premises of the demands' theorems, so that these are not empty.
-- Assumes nothing.
use Rattle.std.specs.Prelude.{ℕ, ◌+◌, ◌*◌, ◌/◌, ◌≤◌, ◌≡◌, refl, Bool, true, false, ◌||◌, List, [], ◌∷◌, ◌++◌, T, replicate, Ok}
use Rattle.std.proofs.Common.{sym, ap, ◌∙◌, append-nil, arith}
use Rattle.base.specs.Pick.{pick}
use Rattle.base.specs.Answer.{gives, refuses}
use Rattle.base.specs.Link.{Link}
use Rattle.numbers.specs.Number.{onto, read_groups, at_most, read_up_to, read_number, groups_of, written_number, put, write_up_to, write_number}
use Rattle.lists.specs.List.{and_then, placed as placed_at, joins, counts, read_ends, read_link as readLinkAt, before, links_in, links_at, block_links, written_links}
use Rattle.lists.specs.Laws.Link.{never_both}
use Rattle.rules.specs.Links.{between, linked, tally, SameSet, Tells, Each}
use Rattle.rules.specs.Removal.{PieceIn, Sole}
use Rattle.rules.specs.Forest.{up, depth, DepthFirst}
use Rattle.rules.specs.Search.{count, sum, some, every, first, least, table, listed}
use Rattle.rules.specs.Tables.{parent_of, rank, note_of, mark_of, placed, par, lev, fresh, place, put_note, put_mark, put_held, put_crossed, cleared}
use Rattle.rules.specs.Building.{alone, merged, pieces_from, pieces, member, size_of, held_in, better, note_link, hold, fill, hold_link, build_link, build_links, noted, top_of, hang, next_of, reach_next, go_back, walk_step, walk_steps, walked, place_path, lost, place_walk, place_piece, place_from, place_pieces, close_building, done}
use Rattle.rules.specs.Adopting.{parent_in, rooted_in, adoptable, adopted}
use Rattle.rules.specs.Reading.{above, hear, read_link, read_links, seen, accepted, lowest, reach, child_of, sole_below, sole, cut, root_of, piece}
use Rattle.rules.specs.Known.{square, triangle}
use Rattle.rules.specs.Numbers.{below, below_if, beside, passed, turn_at, turn, end, at_turn}
use Rattle.state.specs.Layout.{words, stored_in, section, link_in, word_of, tables_in, numbers_of, behind, frag_of, held_of}
use Rattle.state.specs.Test.{asked, all_zero, stage_fits, stands_at, forest_fits, ends_fit, none_twice, quota_fits, held_fits, note_fits, clear_at, low_fits, notes_fit, rest_zero, counts_fit, read_fits, mark_fits, rest_agrees, numbered_at, numbers_fit, fits, sound}
use Rattle.state.specs.Call.{bounds_refusal, head_refusal, headed, moved, leaves}
use Rattle.state.specs.Start.{started, start_call}
use Rattle.state.specs.Adopt.{adopted_state, adopt_refusal, adopt_call}
use Rattle.state.specs.Take.{tell, taken, take_in, take_call}
use Rattle.state.specs.Close.{open_call, end_building, end_reading, close_in, close_call}
use Rattle.state.specs.Ask.{ask_one, ask_two, parent_call, piece_call, cut_call, sole_call}
use Rattle.state.specs.declared.State.{State}
use Rattle.state.specs.declared.Stage.TheVariants.{Built, Reading, Read}
use Rattle.demands.specs.Run.{start, adopt, Call, take, close, open_reading, Moment, after_take, after_close, after_open, TakeAt, OpenAt, CloseAt, PieceAt, SoleAt, begun_by, opening, Run, calls, closes_in, accepted_closes, tables_at}
use Rattle.demands.specs.Step.{take_at, close_at, open_at, piece_at, sole_at, step, after}
use Rattle.demands.specs.Course.{none, more, PassTells, build_calls, read_calls}
use Rattle.demands.proofs.Laws.Courses.{run_of}
use Rattle.demands.specs.Claims.{InRead, Leading, NotesLost, Alike, Finished}
use Rattle.demands.specs.Promises.{StartAnswer, AdoptAnswer, ends_read}
use Rattle.demands.proofs.Laws.Answered.{begun_ready, begun_number, begun_exists, taken_number, closed_number, closed_read, close_exists, false_state, nine_false}
use Rattle.demands.proofs.Demands.{demand_1_take, demand_1_open, demand_1_close, demand_1_start, demand_1_adopt, demand_1_false, demand_2_adopts, demand_2_forest, demand_2_pieces, demand_2_adopted, demand_2_adopted_at, demand_3_accepts, demand_3_truly, demand_3_alike, demand_3_course, demand_2_numbers, pass_count}

-- Tables with words of another use in them.
abbrev lent : ℕ → List ℕ
lent m = replicate m 5

unfoldable pub started_at : ℕ → ℕ → Moment
started_at n k =
    let b = begun_by (start n k) (lent (words * n)) (lent (k * n)) in
    opening (started n k) b.frag b.held

unfoldable pub adopted_at : ℕ → List ℕ → Moment
adopted_at n ps =
    let b = begun_by (adopt n 1 ps) (lent (words * n)) (lent n) in
    opening (adopted_state n 1) b.frag b.held

-- P1: two passes in one block each, and a reading pass. P2: the links in another order, in two blocks. P8: a triangle read against 0 0 0.
abbrev tells : List Link → Call
tells g = take (written_links g)

abbrev twice : List Call
twice = tells square ∷ close ∷ tells square ∷ close ∷ []

abbrev turned : List Link
turned = (0, 2) ∷ (0, 1) ∷ (0, 3) ∷ (1, 2) ∷ []

abbrev p1_built : Moment
p1_built = after (started_at 4 1) twice

abbrev p1_reading : Moment
p1_reading = after (started_at 4 1) (twice ++ (open_reading ∷ tells square ∷ []))

abbrev p1_read : Moment
p1_read = after (started_at 4 1) (twice ++ (open_reading ∷ tells square ∷ close ∷ []))

abbrev p2_read : Moment
p2_read = after (started_at 4 2) (tells square ∷ close ∷ open_reading ∷ tells ((0, 2) ∷ (0, 1) ∷ []) ∷ tells ((0, 3) ∷ (1, 2) ∷ []) ∷ close ∷ [])

abbrev p8_reading : Moment
p8_reading = after (adopted_at 3 (0 ∷ 0 ∷ 0 ∷ [])) (open_reading ∷ tells triangle ∷ [])

-- What is computed of them.
record Computed : Type 0 where
  start_4_1 : (begun_by (start 4 1) (lent 64) (lent 4)).answer ≡ gives (started 4 1)
  start_4_2 : (begun_by (start 4 2) (lent 64) (lent 8)).answer ≡ gives (started 4 2)
  adopt_3 : (begun_by (adopt 3 1 (0 ∷ 0 ∷ 0 ∷ [])) (lent 48) (lent 3)).answer ≡ gives (adopted_state 3 1)
  built : p1_built.state.stage ≡ Built
  built_passes : p1_built.state.passes ≡ 2
  built_told : p1_built.told ≡ square ∷ square ∷ []
  built_piece : piece_at p1_built 2 ≡ gives 0
  reading : p1_reading.state.stage ≡ Reading
  reading_told : p1_reading.told ≡ square ∷ square ∷ []
  reading_telling : p1_reading.telling ≡ square
  reads : p1_read.state.stage ≡ Read
  read_telling : p1_read.telling ≡ square
  read_sole : sole_at p1_read 0 3 ≡ gives true
  other_reads : p2_read.state.stage ≡ Read
  other_telling : p2_read.telling ≡ turned
  far_taken : (take_at (started_at 4 1) (0 ∷ 4 ∷ [])).answer ≡ refuses 4 0
  early_open : (open_at (started_at 4 1)).answer ≡ refuses 6 0
  late_close : (close_at p1_built).answer ≡ refuses 6 0
  none_started : (start_call 0 1 (lent 1) []).answer ≡ refuses 1 0
  cycle_adopted : (adopt_call 2 1 (1 ∷ 0 ∷ []) (lent 32) (lent 2)).answer ≡ refuses 10 0
  cycle_bounds : bounds_refusal 2 1 32 2 ≡ 0
  square_block : block_links 4 0 (written_links square) ≡ gives square
  triangle_block : block_links 3 0 (written_links triangle) ≡ gives triangle
  triangle_bounds : bounds_refusal 3 1 48 3 ≡ 0
  number_written : (write_number 128 (lent 2) 0).answer ≡ gives 2
  false_reading : p8_reading.state.stage ≡ Reading
  false_telling : p8_reading.telling ≡ triangle
  false_close : (close_at p8_reading).answer ≡ refuses 9 0

computed : Computed
unfolding pick between linked tally up depth count some every first least table listed parent_of rank note_of mark_of placed par lev fresh place put_note put_mark put_held put_crossed cleared alone merged pieces_from pieces member size_of held_in better note_link hold fill hold_link build_link build_links noted top_of hang next_of reach_next go_back walk_step walk_steps walked place_path lost place_walk place_piece place_from place_pieces close_building done rooted_in adoptable adopted above hear read_link read_links seen accepted lowest reach child_of sole_below sole cut root_of piece square triangle onto read_groups at_most read_up_to read_number groups_of written_number and_then placed_at joins counts read_ends readLinkAt before links_in links_at block_links written_links sum below below_if beside passed turn_at turn end at_turn stored_in numbers_of behind section link_in word_of tables_in frag_of held_of asked all_zero stage_fits stands_at forest_fits ends_fit none_twice quota_fits held_fits note_fits clear_at low_fits notes_fit rest_zero counts_fit read_fits mark_fits rest_agrees numbered_at numbers_fit fits sound bounds_refusal head_refusal headed moved leaves start_call adopt_refusal adopt_call tell taken take_in take_call open_call end_building end_reading close_in close_call ask_one ask_two parent_call piece_call cut_call sole_call after_take after_close after_open step opening after started_at adopted_at put write_up_to write_number
computed = record {
  start_4_1 = refl;
  start_4_2 = refl;
  adopt_3 = refl;
  built = refl;
  built_passes = refl;
  built_told = refl;
  built_piece = refl;
  reading = refl;
  reading_told = refl;
  reading_telling = refl;
  reads = refl;
  read_telling = refl;
  read_sole = refl;
  other_reads = refl;
  other_telling = refl;
  far_taken = refl;
  false_reading = refl;
  false_telling = refl;
  false_close = refl;
  square_block = refl;
  triangle_block = refl;
  triangle_bounds = refl;
  number_written = refl;
  early_open = refl;
  late_close = refl;
  none_started = refl;
  cycle_adopted = refl;
  cycle_bounds = refl;
}

-- The runs.
pub from_4_1 : (cs : List Call) → (r : Run (start 4 1) (after (started_at 4 1) cs)) × (calls r ≡ cs)
unfolding started_at
from_4_1 = run_of (start 4 1) (lent 64) (lent 4) (started 4 1) computed.start_4_1

from_4_2 : (cs : List Call) → (r : Run (start 4 2) (after (started_at 4 2) cs)) × (calls r ≡ cs)
unfolding started_at
from_4_2 = run_of (start 4 2) (lent 64) (lent 8) (started 4 2) computed.start_4_2

from_adopted : (cs : List Call) → (r : Run (adopt 3 1 (0 ∷ 0 ∷ 0 ∷ [])) (after (adopted_at 3 (0 ∷ 0 ∷ 0 ∷ [])) cs)) × (calls r ≡ cs)
unfolding adopted_at
from_adopted = run_of (adopt 3 1 (0 ∷ 0 ∷ 0 ∷ [])) (lent 48) (lent 3) (adopted_state 3 1) computed.adopt_3

-- A refused call: document 01's 0-4 where n is 4; and refusal 9.
pub met_refused : (a : TakeAt (started_at 4 1) (0 ∷ 4 ∷ [])) → (a.frag ≡ (started_at 4 1).frag) × (a.held ≡ (started_at 4 1).held)
met_refused a = demand_1_take _ _ _ (0 ∷ 4 ∷ []) a _ (taken_number a 4 0 computed.far_taken)

pub met_open : (a : OpenAt (started_at 4 1)) → (a.frag ≡ (started_at 4 1).frag) × (a.held ≡ (started_at 4 1).held)
met_open a = demand_1_open _ _ _ a _ (taken_number a 6 0 computed.early_open)

pub met_close : (a : CloseAt p1_built) → (a.frag ≡ p1_built.frag) × (a.held ≡ p1_built.held)
met_close a = let (_, p, q) = demand_1_close _ _ _ a _ (closed_number a 6 0 (omega arith) computed.late_close) in (p, q)

pub met_start : (a : StartAnswer 0 1 (lent 1) []) → (a.frag ≡ lent 1) × (a.held ≡ [])
met_start a = demand_1_start 0 1 (lent 1) [] a _ (begun_number a 1 0 computed.none_started)

pub met_adopt : (a : AdoptAnswer 2 1 (1 ∷ 0 ∷ []) (lent 32) (lent 2)) → (a.frag ≡ lent 32) × (a.held ≡ lent 2)
met_adopt a = demand_1_adopt 2 1 (1 ∷ 0 ∷ []) (lent 32) (lent 2) a _ (begun_number a 10 0 computed.cycle_adopted)

pub met_lost : (a : CloseAt p8_reading) → (s : State) × NotesLost p8_reading.state p8_reading.frag p8_reading.held s a.frag a.held
met_lost a = let (s, e) = false_state a.answer (nine_false _ _ _ a computed.false_close) in (s, demand_1_false _ _ _ a s e)

-- P1: the finished table, a piece of it, the reading pass, a sole link.
same_told : (gs : List (List Link)) → gs ≡ square ∷ square ∷ [] → Each (Tells (linked square)) gs
same_told gs e = rw e (λ u v. refl, (λ u v. refl, tt))

pub met_forest : DepthFirst 4 (par (tables_at p1_built)) (linked square)
met_forest = demand_2_forest (from_4_1 twice).0 (rw computed.built (λ x. x)) (linked square) (same_told _ computed.built_told)

pub met_piece : PieceIn (linked square) 2 0
met_piece =
    let a : PieceAt p1_built 2 = record { answer = Ok 0; frag = p1_built.frag; promise = (sym computed.built_piece, refl) } in
    demand_2_pieces (from_4_1 twice).0 (rw computed.built (λ x. x)) (linked square) (same_told _ computed.built_told) 2 (omega arith) a

pub met_accepts : (a : CloseAt p1_reading) → T (ends_read a.answer)
met_accepts = demand_3_accepts (from_4_1 (twice ++ (open_reading ∷ tells square ∷ []))).0 (rw computed.reading tt) (linked square) (same_told _ computed.reading_told) (rw computed.reading_telling (λ u v. refl))

pub met_sole : Sole square 0 3
met_sole =
    let a : SoleAt p1_read 0 3 = record { answer = (Ok true); promise = sym computed.read_sole } in
    rw computed.read_telling at
    ((demand_3_truly (from_4_1 (twice ++ (open_reading ∷ tells square ∷ close ∷ []))).0 (rw computed.reads tt)).sole_true 0 3 (omega arith) (omega arith) (omega arith) a)

-- P1 and P2, with another room, another order and other blocks, answer alike.
swap : (a b c : Bool) → (a || (b || c)) ≡ (b || (a || c))
swap true true c = refl
swap true false c = refl
swap false true c = refl
swap false false c = refl

turned_same : SameSet square turned
unfolding square linked
turned_same u v = swap (between (0, 1) u v) (between (0, 2) u v) _

pub met_alike : Alike p1_read p2_read
met_alike =
    demand_3_alike (from_4_1 (twice ++ (open_reading ∷ tells square ∷ close ∷ []))).0 (from_4_2 _).0 refl
    (rw (computed.read_telling, computed.other_telling) turned_same) (rw computed.reads tt) (rw computed.other_reads tt)

-- P10: the parents 1 0 lead to no root.
pub met_cycle : Leading 2 (1 ∷ 0 ∷ []) → ⊥
met_cycle x =
    let a = begun_exists (adopt_call 2 1 (1 ∷ 0 ∷ []) (lent 32) (lent 2)) in
    never_both (begun_ready a _ (demand_2_adopts 2 1 (1 ∷ 0 ∷ []) (lent 32) (lent 2) computed.cycle_bounds (omega arith) a x)).0 computed.cycle_adopted

-- P8: the adopted forest is none of the triangle.
pub met_none : DepthFirst 3 (parent_in (0 ∷ 0 ∷ 0 ∷ [])) (linked triangle) → ⊥
met_none d =
    let a = close_exists p8_reading.state p8_reading.frag p8_reading.held in
    let t = (demand_2_adopted_at (from_adopted (open_reading ∷ tells triangle ∷ [])).0 (rw computed.false_reading tt) a).1 (rw computed.false_telling d) in
    never_both ((closed_read a).1 t) computed.false_close

pub met_adopted : (a : AdoptAnswer 3 1 (0 ∷ 0 ∷ 0 ∷ []) (lent 48) (lent 3))
    → (a.answer ≡ Ok (adopted_state 3 1)) × ((m : Moment) (r : Run (adopt 3 1 (0 ∷ 0 ∷ 0 ∷ [])) m) → calls r ≡ read_calls (written_links triangle ∷ []) → InRead m) → ⊥
met_adopted a x =
    met_none
    (rw append-nil at
    ((demand_2_adopted 3 1 (0 ∷ 0 ∷ 0 ∷ []) (lent 48) (lent 3) computed.triangle_bounds (omega arith) a (written_links triangle ∷ []) (triangle ++ []) (more computed.triangle_block none)).0 x))

-- P1's two closes are all that n/(k + 1), rounded up, allows, and end its Building.
pub met_count : accepted_closes (from_4_1 twice).0 ≡ (4 + 1) / (1 + 1)
met_count = sym (pass_count (from_4_1 twice).0) ∙ computed.built_passes

pub met_ends : (4 + 1) / (1 + 1) ≤ closes_in (calls (from_4_1 twice).0)
unfolding closes_in
met_ends = omega (arith, ap closes_in (from_4_1 twice).1)

-- P1's links, in four passes and a reading pass of one block each: the whole course. (The last two passes are refused with 6.)
tells_square : PassTells 4 (linked square) (written_links square ∷ [])
tells_square = (square ++ [], more computed.square_block none, rw append-nil (λ u v. refl))

abbrev one_block : List (List ℕ)
one_block = written_links square ∷ []

pub met_course : Finished 4 1 (linked square) (after (started_at 4 1) (build_calls (one_block ∷ one_block ∷ one_block ∷ one_block ∷ []) ++ read_calls one_block))
met_course =
    let (r, e) = from_4_1 (build_calls (one_block ∷ one_block ∷ one_block ∷ one_block ∷ []) ++ read_calls one_block) in
    demand_3_course r (linked square) (one_block ∷ one_block ∷ one_block ∷ one_block ∷ []) one_block e
    (tells_square, (tells_square, (tells_square, (tells_square, tt)))) tells_square (omega arith)

-- 128 is 80 01.
pub met_number : read_number (write_number 128 (lent 2) 0).buffer 0 ≡ gives (record { value = 128; next = 2 })
met_number = demand_2_numbers 128 (lent 2) 0 2 computed.number_written
