-- `report::hear_file` meets its contract.
-- Assumes nothing.
use Rattle.std.proofs.Common.{rules}
use borrow.Rule.Slice.PartMut.{take_put}
use Rattle.report.proofs.Laws.{heard_fits, read_gives}
use Rattle.report.proofs.hear_file.Goals as goal

pub returns-clause-hears : goal.returns-clause-hears
returns-clause-hears g c = search (rules, take_put, heard_fits)

pub returns-clause-gives : goal.returns-clause-gives
returns-clause-gives g c = search (rules, read_gives)
