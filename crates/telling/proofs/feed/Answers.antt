-- `telling::feed` meets its contract.
-- Assumes nothing.
use Rattle.telling.specs.Steps.{fed_last, fed_more, fed_bad}
use Rattle.telling.proofs.feed.Goals as goal

pub returns-then-last : goal.returns-then-last
returns-then-last c = fed_last _ _ _ _ _ _ _ _ _ ((rw c.in-Ok.is at c.feed.ensures)) _ c.if-last.true c.end_pass.ensures

pub returns-else-last : goal.returns-else-last
returns-else-last c = fed_more _ _ _ _ _ _ _ _ _ ((rw c.in-Ok.is at c.feed.ensures)) c.if-last.false

pub returns-in-Err : goal.returns-in-Err
returns-in-Err c = fed_bad _ _ _ _ _ _ _ _ _ _ ((rw c.in-Err.is at c.feed.ensures)) c.refuse.ensures
