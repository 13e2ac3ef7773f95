-- `telling::open_again` meets its contract.
-- Assumes nothing.
use Rattle.telling.specs.Steps.{opened_on, opened_bad}
use Rattle.telling.proofs.open_again.Goals as goal

pub returns-in-Ok : goal.returns-in-Ok
returns-in-Ok c = opened_on _ _ _ _ _ _ ((rw c.in-Ok.is at c.open_reading.ensures)) c.again.ensures

pub returns-in-Err : goal.returns-in-Err
returns-in-Err c = opened_bad _ _ _ _ _ _ _ _ ((rw c.in-Err.is at c.open_reading.ensures)) c.refuse.ensures
