-- `reaches::sink::fall_one` meets its contract.
-- Assumes nothing.
use Rattle.reaches.specs.Laws.Passes.{fallen_is}
use Rattle.reaches.proofs.sink.fall_one.Goals as goal

pub returns : goal.returns
returns c = fallen_is _ _ _ _ c.parent_of-p.ensures
