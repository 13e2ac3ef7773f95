-- `telling::report` meets its contract.
-- Assumes nothing.
use Rattle.telling.specs.Steps.{reported, unreported}
use Rattle.telling.proofs.report.Goals as goal

pub returns-in-Ok : goal.returns-in-Ok
returns-in-Ok c = let e = c.report.ensures in rw e.1 (reported _ _ _ _ _ _ ((rw c.in-Ok.is at e.0)))

pub returns-in-Err : goal.returns-in-Err
returns-in-Err c =
    let e = c.report.ensures in
    let r = (rw c.number.ensures at c.refuse.ensures) in
    rw e.1 (unreported _ _ _ _ _ _ _ _ ((rw c.in-Err.is at e.0)) r)
