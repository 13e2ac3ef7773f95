-- `text::lines::sole_line` meets its contract.
-- Assumes nothing.
use Rattle.text.specs.Lines.{sole_line}
use Rattle.text.specs.Laws.Put.{line_less, line_then, line_put, within_line, within_none}
use native.Mathlib.Omega.{arith}
use Rattle.text.proofs.lines.sole_line.Goals as goal

pub returns-then-at-gt-AMPLE : goal.returns-then-at-gt-AMPLE
returns-then-at-gt-AMPLE c = within_none _ _ _ _ (omega arith)

pub returns : goal.returns
unfolding sole_line
returns c =
    within_line (omega arith) (line_less (omega arith) (line_then c.item-x.ensures (line_then c.item-y.ensures (line_put {a = 1} (omega arith) c.byte.ensures))))
