-- `reaches::sink::sink_one` meets its contract.
-- Assumes nothing.
use Rattle.reaches.specs.Laws.Passes.{sunk_is}
use Rattle.reaches.proofs.sink.sink_one.Goals as goal

pub returns : goal.returns
returns c = sunk_is _ _ _ _ _ _ c.parent_of-p.ensures c.min.ensures
