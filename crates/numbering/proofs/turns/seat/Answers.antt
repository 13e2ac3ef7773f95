-- `numbering::turns::seat` meets its contract.
-- Assumes nothing.
use Rattle.numbering.specs.Laws.Sizes.{parent_in}
use Rattle.numbering.specs.Laws.Passed.{seat_of_root, seat_of_child}
use Rattle.numbering.proofs.turns.seat.Goals as goal

pub returns-then-p-v : goal.returns-then-p-v
returns-then-p-v c = seat_of_root _ _ _ _ c.requires.1 c.parent_of-p.ensures c.if-p-v.true

pub returns : goal.returns
returns c = let p = c.requires in let e = c.parent_of-p.ensures in seat_of_child _ _ _ _ p.1 e c.if-p-v.false (parent_in p.0 _ _ p.1 e)
