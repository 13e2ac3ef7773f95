-- The known instances, P1 to P10 of document 01 and Q1 to Q6, run as calls.
-- Assumes nothing.
use Rattle.std.specs.Prelude.{ℕ, zero, suc, ◌*◌, ◌≡◌, refl, Bool, false, ◌&&◌, List, [], ◌∷◌, ◌++◌, map, length, replicate, ltb}
use Rattle.base.specs.Pick.{pick}
use Rattle.base.specs.Answer.{Answer, gives, refuses}
use Rattle.base.specs.Link.{Link}
use Rattle.numbers.specs.Number.{onto, read_groups, at_most, read_up_to, read_number, groups_of, written_number}
use Rattle.lists.specs.List.{and_then, placed as placed_at, joins, counts, read_ends, read_link as readLinkAt, before, links_in, links_at, block_links, written_links}
use Rattle.rules.specs.Links.{between, linked, tally}
use Rattle.rules.specs.Forest.{up, depth}
use Rattle.rules.specs.Search.{count, sum, some, every, first, least, table, listed}
use Rattle.rules.specs.Tables.{parent_of, rank, note_of, mark_of, placed, par, lev, fresh, place, put_note, put_mark, put_held, put_crossed, cleared}
use Rattle.rules.specs.Building.{alone, merged, pieces_from, pieces, member, size_of, held_in, better, note_link, hold, fill, hold_link, build_link, build_links, noted, top_of, hang, next_of, reach_next, go_back, walk_step, walk_steps, walked, place_path, lost, place_walk, place_piece, place_from, place_pieces, close_building, done, pass, passes}
use Rattle.rules.specs.Adopting.{rooted_in, adoptable, adopted}
use Rattle.rules.specs.Reading.{above, hear, read_link, read_links, seen, accepted, lowest, reach, child_of, sole_below, sole, cut, root_of, piece}
use Rattle.rules.specs.Known.{Instance, build, differ, adopt, Result, reports, refused, row, square, triangle, instances}
use Rattle.rules.specs.Numbers.{below, below_if, beside, passed, turn_at, turn, end, at_turn}
use Rattle.state.specs.Layout.{words, stored_in, section, link_in, word_of, tables_in, numbers_of, behind, frag_of, held_of}
use Rattle.state.specs.Test.{asked, all_zero, stage_fits, stands_at, forest_fits, ends_fit, none_twice, quota_fits, held_fits, note_fits, clear_at, low_fits, notes_fit, rest_zero, counts_fit, read_fits, mark_fits, rest_agrees, numbered_at, numbers_fit, fits, sound}
use Rattle.state.specs.Call.{Begun, bounds_refusal, head_refusal, headed, moved, leaves}
use Rattle.state.specs.Start.{start_call}
use Rattle.state.specs.Adopt.{adopt_refusal, adopt_call}
use Rattle.state.specs.Take.{tell, taken, take_in, take_call}
use Rattle.state.specs.Close.{Ending, open_call, end_building, end_reading, close_in, close_call}
use Rattle.state.specs.Ask.{ask_one, ask_two, parent_call, cut_call, sole_call}
use Rattle.state.specs.declared.State.{State}
use Rattle.demands.specs.Run.{start, adopt as adopts, take, close, open_reading, Moment, after_take, after_close, after_open, begun_by, opening}
use Rattle.demands.specs.Step.{parent_at, cut_at, sole_at, close_at, step}

-- A question that is refused gives no number, and is no yes.
abbrev number_in : Answer ℕ → List ℕ
number_in (gives x) = x ∷ []
number_in (refuses number place) = []

abbrev yes_in : Answer Bool → Bool
yes_in (gives b) = b
yes_in (refuses number place) = false

unfoldable pub parents_to : Moment → ℕ → List ℕ
parents_to m zero = []
parents_to m (suc v) = parents_to m v ++ number_in (parent_at m v)

-- Sole links, by smaller, then larger end.
unfoldable pub soles_to : Moment → ℕ → ℕ → List Link
soles_to m n zero = []
soles_to m n (suc a) = soles_to m n a ++ map (λ b. (a, b)) (listed (λ b. ltb a b && yes_in (sole_at m a b)) n)

-- What is asked of n fragments after the close of a reading pass.
unfoldable pub reported_by : ℕ → Moment → Answer Ending → Result
reported_by n m (gives _) = reports m.state.passes (parents_to m n) (soles_to m n n) (listed (λ v. yes_in (cut_at m v)) n)
reported_by n m (refuses number place) = refused number

-- A pass that takes one block, and passes one after another.
unfoldable pub pass_by : List ℕ → Moment → Moment
pass_by block m = step (step m (take block)) close

unfoldable pub passes_by : List (List ℕ) → Moment → Moment
passes_by [] m = m
passes_by (block ∷ blocks) m = passes_by blocks (pass_by block m)

-- The reading pass, and the questions.
unfoldable pub read_by : ℕ → List ℕ → Moment → Result
read_by n block m =
    let r = step (step m open_reading) (take block) in
    reported_by n (step r close) (close_at r).answer

unfoldable pub begun_then : Begun → Answer State → (Moment → Result) → Result
begun_then b (gives s) next = next (opening s b.frag b.held)
begun_then b (refuses number place) next = refused number

-- Tables with words of another use in them.
abbrev lent : ℕ → List ℕ
lent m = replicate m 5

-- Each pass is told in one block, by n passes: those that come after the last find the stage Built and are refused.
unfoldable pub called_result : Instance → Result
called_result (build n k g) =
    let b = begun_by (start n k) (lent (words * n)) (lent (k * n)) in
    begun_then b b.answer (λ m. read_by n (written_links g) (passes_by (replicate n (written_links g)) m))
called_result (differ n k gs g) =
    let b = begun_by (start n k) (lent (words * n)) (lent (k * n)) in
    begun_then b b.answer (λ m. read_by n (written_links g) (passes_by (map written_links gs) m))
called_result (adopt ps g) =
    let b = begun_by (adopts (length ps) 1 ps) (lent (words * length ps)) (lent (length ps)) in
    begun_then b b.answer (read_by (length ps) (written_links g))

-- The rules' whole table, as one.
pub known_calls : map (λ r. called_result r.instance) instances ≡ map (λ r. r.result) instances
unfolding pick between linked tally up depth count some every first least table listed parent_of rank note_of mark_of placed par lev fresh place put_note put_mark put_held put_crossed cleared alone merged pieces_from pieces member size_of held_in better note_link hold fill hold_link build_link build_links noted top_of hang next_of reach_next go_back walk_step walk_steps walked place_path lost place_walk place_piece place_from place_pieces close_building done pass passes rooted_in adoptable adopted above hear read_link read_links seen accepted lowest reach child_of sole_below sole cut root_of piece row square triangle instances onto read_groups at_most read_up_to read_number groups_of written_number and_then placed_at joins counts read_ends readLinkAt before links_in links_at block_links written_links sum below below_if beside passed turn_at turn end at_turn stored_in numbers_of behind section link_in word_of tables_in frag_of held_of asked all_zero stage_fits stands_at forest_fits ends_fit none_twice quota_fits held_fits note_fits clear_at low_fits notes_fit rest_zero counts_fit read_fits mark_fits rest_agrees numbered_at numbers_fit fits sound bounds_refusal head_refusal headed moved leaves start_call adopt_refusal adopt_call tell taken take_in take_call open_call end_building end_reading close_in close_call ask_one ask_two parent_call cut_call sole_call after_take after_close after_open step opening parents_to soles_to reported_by pass_by passes_by read_by begun_then called_result
known_calls = refl
