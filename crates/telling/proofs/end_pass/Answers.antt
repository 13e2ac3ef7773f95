-- `telling::end_pass` meets its contract.
-- Assumes nothing.
use Rattle.telling.specs.Steps.{ended_more, ended_whole, ended_read, ended_bad}
use Rattle.telling.proofs.end_pass.Goals as goal

pub returns-in-Ok-More : goal.returns-in-Ok-More
returns-in-Ok-More c = ended_more _ _ _ _ _ _ ((rw (c.in-Ok-More.is, c.in-Ok-More.field-0-is) at c.close.ensures)) c.again.ensures

pub returns-in-Ok-Done : goal.returns-in-Ok-Done
returns-in-Ok-Done c = ended_whole _ _ _ _ _ _ ((rw (c.in-Ok-Done.is, c.in-Ok-Done.field-0-is) at c.close.ensures)) c.open_again.ensures

pub returns-in-Ok-Read : goal.returns-in-Ok-Read
returns-in-Ok-Read c = ended_read _ _ _ _ _ _ ((rw (c.in-Ok-Read.is, c.in-Ok-Read.field-0-is) at c.close.ensures)) c.report.ensures

pub returns-in-Ok-False : goal.returns-in-Ok-False
returns-in-Ok-False c = ended_bad _ _ _ _ _ _ _ _ ((rw (c.in-Ok-False.is, c.in-Ok-False.field-0-is) at c.close.ensures)) c.refuse.ensures

pub returns-in-Err : goal.returns-in-Err
returns-in-Err c = ended_bad _ _ _ _ _ _ _ _ ((rw c.in-Err.is at c.close.ensures)) c.refuse-in-Err.ensures
