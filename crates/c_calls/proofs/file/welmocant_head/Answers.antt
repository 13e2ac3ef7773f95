-- `c_calls::file::welmocant_head` meets its contract.
-- Assumes nothing.
use mathlib.Core.Path.{sym, ◌∙◌}
use Rattle.c_calls.specs.Laws.File.{head_no_size, head_read, head_refused}
use Rattle.c_calls.proofs.file.welmocant_head.Goals as goal

pub returns-then-bad_size : goal.returns-then-bad_size
returns-then-bad_size c = head_no_size _ c.read_number.result c.read_number.ensures _ _ c.in-Ok.is (sym c.if-bad_size.true ∙ c.bad_size.ensures)

pub returns-else-bad_size : goal.returns-else-bad_size
returns-else-bad_size c = head_read _ c.read_number.result c.read_number.ensures _ _ c.in-Ok.is (sym c.if-bad_size.false ∙ c.bad_size.ensures)

pub returns-in-Err : goal.returns-in-Err
returns-in-Err c = rw c.number.ensures (head_refused _ c.read_number.result c.read_number.ensures _ c.in-Err.is)
