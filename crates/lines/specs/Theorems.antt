-- How much room the text of a report needs.
-- Assumes nothing.
use Rattle.std.specs.Prelude.{ℕ, ◌+◌, ◌*◌, ◌≤◌, ◌<◌, length}
use Rattle.std.proofs.Common.{arith, length-append}
use Rattle.lists.specs.List.{fragments_most, entries_most}
use Rattle.rules.specs.Tables.{Tables, parent_of}
use Rattle.rules.specs.Reading.{piece, cut}
use Rattle.rules.proofs.Laws.Reports.{piece_of_tree}
use Rattle.lines.specs.Report.{fragment_at, report_lines}
use Rattle.lines.specs.Laws.Length.{soles_few, fragment_line_few, first_line_few, lines_few}

fragment_few : (n : ℕ) (t : Tables) → n ≤ fragments_most → ((v : ℕ) → v < n → parent_of t v < n) → (v : ℕ) → v < n → length (fragment_at n t v) ≤ 39
unfolding fragment_at
fragment_few n t few parents v h =
    let (i, e, s) = piece_of_tree n t v h in
    fragment_line_few v (parent_of t v) (piece n t v) (cut n t v) (omega arith) (omega (arith, parents v h)) (omega (arith, i))

-- The first line has at most 44 bytes, one of a fragment 39, one of a sole link 17; and there are at most n sole links.
pub report_fits : (n entries passes : ℕ) (t : Tables) → n ≤ fragments_most → entries ≤ entries_most → passes ≤ fragments_most + 1 → ((v : ℕ) → v < n → parent_of t v < n)
    → length (report_lines n entries passes t) ≤ 64 + 56 * n
unfolding report_lines
report_fits n entries passes t few le lp parents =
    simp length-append (omega (arith, first_line_few n entries passes (omega arith) (omega arith) (omega arith), lines_few (fragment_at n t) 39 n (fragment_few n t few parents), soles_few n t (omega arith)))
