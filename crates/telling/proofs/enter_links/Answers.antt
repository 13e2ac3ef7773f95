-- `telling::enter_links` meets its contract.
-- Assumes nothing.
use Rattle.telling.specs.Steps.{entered_on, entered_bad}
use Rattle.telling.proofs.enter_links.Goals as goal

pub returns-in-Ok : goal.returns-in-Ok
returns-in-Ok c = entered_on _ _ _ _ _ _ _ _ _ _ ((rw c.in-Ok.is at c.enter.ensures)) c.feed.ensures

pub returns-in-Err : goal.returns-in-Err
returns-in-Err c = entered_bad _ _ _ _ _ _ _ _ _ _ _ ((rw c.in-Err.is at c.enter.ensures)) c.refuse.ensures
