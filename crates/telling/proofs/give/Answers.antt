-- `telling::give` meets its contract.
-- Assumes nothing.
use native.Mathlib.Omega.{arith}
use Rattle.telling.specs.Steps.{give_tight, give_short, give_part}
use Rattle.telling.proofs.give.Goals as goal

pub returns-then-room-lt-LINK : goal.returns-then-room-lt-LINK
returns-then-room-lt-LINK c = give_tight _ _ _ _ _ _ _ _ (omega arith) c.refuse.ensures

pub returns-then-room-count : goal.returns-then-room-count
returns-then-room-count c = give_short _ _ _ _ _ _ _ _ (omega arith) (omega arith) c.refuse-then-room-count.ensures

pub returns-then-room-count-2 : goal.returns-then-room-count-2
returns-then-room-count-2 c = give_short c.args.t _ _ _ _ c.args.count _ _ (omega arith) (omega arith) c.refuse-then-room-count-2.ensures

pub returns : goal.returns
returns c = give_part c.args.t _ _ _ _ c.args.count _ _ (omega arith) (omega arith) c.part.ensures
