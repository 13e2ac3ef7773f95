-- `numbering::turns::turn_one` meets its contract.
-- Assumes nothing.
use Rattle.numbering.specs.Laws.Turns.{turned_root, turned_child}
use Rattle.numbering.proofs.turns.turn_one.Goals as goal

pub returns-then-p-v : goal.returns-then-p-v
returns-then-p-v c = turned_root _ _ _ _ c.parent_of-p.ensures c.if-p-v.true

pub returns : goal.returns
returns c = turned_child _ _ _ _ c.parent_of-p.ensures c.if-p-v.false
