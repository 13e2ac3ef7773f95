-- `text::lines::number` meets its contract.
use Rattle.text.proofs.lines.+number.Given as goal

abbrev pub decreases-number : goal.decreases-number
decreases-number l = l.x
