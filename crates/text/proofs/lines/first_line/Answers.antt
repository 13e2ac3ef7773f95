-- `text::lines::first_line` meets its contract.
-- Assumes nothing.
use Rattle.text.specs.Lines.{first_line}
use Rattle.text.specs.Laws.Put.{line_less, line_then, line_put}
use native.Mathlib.Omega.{arith}
use Rattle.text.proofs.lines.first_line.Goals as goal

pub returns : goal.returns
unfolding first_line
returns c =
    line_less (omega arith) (line_then c.item-a.ensures (line_then c.item-b.ensures (line_then c.item-c.ensures (line_put {a = 1} (omega arith) c.byte.ensures))))
