-- Which lines the report has: document 01, 'The program `report`'. Definitions only.
-- Assumes nothing.
use Rattle.std.specs.Prelude.{ℕ, zero, suc, ◌&&◌, not, List, [], ◌++◌, ltb, eqb}
use Rattle.base.specs.Pick.{pick}
use Rattle.base.specs.Answer.{refuses}
use Rattle.numbers.specs.Number.{Wrote}
use Rattle.rules.specs.Tables.{Tables, parent_of}
use Rattle.rules.specs.Reading.{piece, cut, sole}
use Rattle.state.specs.Layout.{tables_in}
use Rattle.state.specs.Test.{is_read}
use Rattle.state.specs.Call.{head_refusal}
use Rattle.text.specs.Lines.{first_line, fragment_line, sole_line, store}
use Rattle.state.specs.declared.State.{State}

-- The lines of the numbers below k, by rising number.
unfoldable pub lines_to : (ℕ → List ℕ) → ℕ → List ℕ
lines_to line zero = []
lines_to line (suc k) = lines_to line k ++ line k

-- 'one line for each fragment, by rising number'
unfoldable pub fragment_at : ℕ → Tables → ℕ → List ℕ
fragment_at n t v = fragment_line v (parent_of t v) (piece n t v) (cut n t v)

-- 'then one for each sole link': 'sole links rise by smaller, then larger end'
unfoldable pub sole_at : ℕ → Tables → ℕ → ℕ → List ℕ
sole_at n t a b = pick (ltb a b && sole n t a b) (sole_line a b) []

unfoldable pub soles_from : ℕ → Tables → ℕ → List ℕ
soles_from n t a = lines_to (sole_at n t a) n

-- 'Links counts the entries of the reading pass'
unfoldable pub report_lines : (n entries passes : ℕ) → Tables → List ℕ
report_lines n entries passes t =
    first_line n entries passes
    ++ (lines_to (fragment_at n t) n
    ++ lines_to (soles_from n t) n)

-- The report of a state in Read: the refusals at the head of a question that is asked in Read, then 3.
unfoldable pub report_call : State → List ℕ → List ℕ → List ℕ → Wrote
report_call s f h out =
    pick (not (eqb (head_refusal is_read s f h) 0)) (record { answer = refuses (head_refusal is_read s f h) 0; buffer = out })
    (store out (report_lines s.n s.entries s.passes (tables_in s f h)))
