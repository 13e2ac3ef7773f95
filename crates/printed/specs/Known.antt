-- What is printed of some files, as one table: document 01's own, and one for each way to be refused that it names for the program.
-- Assumes nothing.
use Rattle.std.specs.Prelude.{ℕ, List, [], ◌∷◌, ◌≡◌, refl}
use Rattle.base.specs.Pick.{pick}
use Rattle.numbers.specs.Number.{onto, read_groups, at_most, read_up_to, read_number}
use Rattle.lists.specs.List.{and_then, placed as placed_at, joins, counts, read_ends, read_link as readLinkAt, before, links_in, links_at, block_links}
use Rattle.rules.specs.Links.{between, linked, tally}
use Rattle.rules.specs.Forest.{up, depth}
use Rattle.rules.specs.Search.{count, some, every, first, least, table, listed}
use Rattle.rules.specs.Tables.{parent_of, rank, note_of, mark_of, placed, par, lev, fresh, place, put_note, put_mark, put_held, put_crossed, cleared}
use Rattle.rules.specs.Building.{alone, merged, pieces_from, pieces, member, size_of, held_in, better, note_link, hold, fill, hold_link, build_link, build_links, noted, top_of, hang, next_of, reach_next, go_back, walk_step, walk_steps, walked, place_path, lost, place_walk, place_piece, place_from, place_pieces, close_building, done, pass, passes}
use Rattle.rules.specs.Reading.{above, hear, read_link, read_links, seen, accepted, lowest, reach, child_of, sole_below, sole, cut, root_of, piece}
use Rattle.state.specs.Call.{bounds_refusal}
use Rattle.parts.specs.Parts.{in_block, place_in}
use Rattle.text.specs.Lines.{digits_in, decimal, item, first_line, cut_word, fragment_line, sole_line}
use Rattle.lines.specs.Report.{lines_to, fragment_at, sole_at, soles_from, report_lines}
use Rattle.printed.specs.Printed.{Course, room_for, reported, refused_at, enters, closes_building, closes_reading, closes, closes_or, tells, headed_by, over_pass, course_from, course}

-- 'On the bytes 04 00 01 00 02 00 03 01 02 it prints exactly'
abbrev square : List ℕ
square = 4 ∷ 0 ∷ 1 ∷ 0 ∷ 2 ∷ 0 ∷ 3 ∷ 1 ∷ 2 ∷ []

abbrev square_lines : List ℕ
square_lines = 102 ∷ 114 ∷ 97 ∷ 103 ∷ 109 ∷ 101 ∷ 110 ∷ 116 ∷ 115 ∷ 32 ∷ 52 ∷ 32 ∷ 108 ∷ 105 ∷ 110 ∷ 107 ∷ 115 ∷ 32 ∷ 52 ∷ 32 ∷ 112 ∷ 97 ∷ 115 ∷ 115 ∷ 101 ∷ 115 ∷ 32 ∷ 49 ∷ 10 ∷ 48 ∷ 32 ∷ 112 ∷ 97 ∷ 114 ∷ 101 ∷ 110 ∷ 116 ∷ 32 ∷ 48 ∷ 32 ∷ 112 ∷ 105 ∷ 101 ∷ 99 ∷ 101 ∷ 32 ∷ 48 ∷ 32 ∷ 99 ∷ 117 ∷ 116 ∷ 32 ∷ 121 ∷ 101 ∷ 115 ∷ 10 ∷ 49 ∷ 32 ∷ 112 ∷ 97 ∷ 114 ∷ 101 ∷ 110 ∷ 116 ∷ 32 ∷ 48 ∷ 32 ∷ 112 ∷ 105 ∷ 101 ∷ 99 ∷ 101 ∷ 32 ∷ 48 ∷ 32 ∷ 99 ∷ 117 ∷ 116 ∷ 32 ∷ 110 ∷ 111 ∷ 10 ∷ 50 ∷ 32 ∷ 112 ∷ 97 ∷ 114 ∷ 101 ∷ 110 ∷ 116 ∷ 32 ∷ 49 ∷ 32 ∷ 112 ∷ 105 ∷ 101 ∷ 99 ∷ 101 ∷ 32 ∷ 48 ∷ 32 ∷ 99 ∷ 117 ∷ 116 ∷ 32 ∷ 110 ∷ 111 ∷ 10 ∷ 51 ∷ 32 ∷ 112 ∷ 97 ∷ 114 ∷ 101 ∷ 110 ∷ 116 ∷ 32 ∷ 48 ∷ 32 ∷ 112 ∷ 105 ∷ 101 ∷ 99 ∷ 101 ∷ 32 ∷ 48 ∷ 32 ∷ 99 ∷ 117 ∷ 116 ∷ 32 ∷ 110 ∷ 111 ∷ 10 ∷ 115 ∷ 111 ∷ 108 ∷ 101 ∷ 32 ∷ 48 ∷ 32 ∷ 51 ∷ 10 ∷ []

-- 'with k = 4 and room for n up to 512': one pass to build, one to read.
abbrev of : List (List ℕ) → Course
of files = course (room_for 4 512) files

pub record Known : Type 0 where
  pub reports_square : of (square ∷ square ∷ []) ≡ reported square_lines
  -- '(more gives 3)': 513 fragments
  pub too_many : of ((129 ∷ 4 ∷ []) ∷ []) ≡ refused_at 3 0
  -- no byte at all, a number that is not in shortest form, and no fragments
  pub empty_file : of ([] ∷ []) ≡ refused_at 8 0
  pub long_head : of ((128 ∷ 0 ∷ []) ∷ []) ≡ refused_at 7 0
  pub none : of ((0 ∷ []) ∷ []) ≡ refused_at 1 0
  -- 'P being a byte of the file': the second link, from the file's start
  pub bad_link_lem : of ((4 ∷ 0 ∷ 1 ∷ 2 ∷ 2 ∷ []) ∷ []) ≡ refused_at 5 3
  -- in the pass that reads: another n, and a list that does not have the forest
  pub other_size : of (square ∷ (3 ∷ 0 ∷ 1 ∷ []) ∷ []) ≡ refused_at 9 0
  pub other_links : of (square ∷ (4 ∷ 0 ∷ 1 ∷ []) ∷ []) ≡ refused_at 9 0

pub known : Known
unfolding pick onto read_groups at_most read_up_to read_number and_then placed_at joins counts read_ends readLinkAt before links_in links_at block_links between linked tally up depth count some every first least table listed parent_of rank note_of mark_of placed par lev fresh place put_note put_mark put_held put_crossed cleared alone merged pieces_from pieces member size_of held_in better note_link hold fill hold_link build_link build_links noted top_of hang next_of reach_next go_back walk_step walk_steps walked place_path lost place_walk place_piece place_from place_pieces close_building done pass passes above hear read_link read_links seen accepted lowest reach child_of sole_below sole cut root_of piece bounds_refusal in_block place_in digits_in decimal item first_line cut_word fragment_line sole_line lines_to fragment_at sole_at soles_from report_lines enters closes_building closes_reading closes closes_or tells headed_by over_pass course_from course
known = record {
  reports_square = refl;
  too_many = refl;
  empty_file = refl;
  long_head = refl;
  none = refl;
  bad_link_lem = refl;
  other_size = refl;
  other_links = refl;
}
