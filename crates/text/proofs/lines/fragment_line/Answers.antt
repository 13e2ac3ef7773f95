-- `text::lines::fragment_line` meets its contract.
-- Assumes nothing.
use Rattle.text.specs.Lines.{fragment_line}
use Rattle.text.specs.Laws.Put.{line_less, line_then, within_line, within_none}
use native.Mathlib.Omega.{arith}
use Rattle.text.proofs.lines.fragment_line.Goals as goal

pub returns-then-at-gt-AMPLE : goal.returns-then-at-gt-AMPLE
returns-then-at-gt-AMPLE c = within_none _ _ _ _ (omega arith)

pub returns : goal.returns
unfolding fragment_line
returns c =
    within_line (omega arith) (line_less (omega arith) (line_then c.item-a.ensures (line_then c.item-b.ensures (line_then c.item-c.ensures c.cut_word.ensures))))
