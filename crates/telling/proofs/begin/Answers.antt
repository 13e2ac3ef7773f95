-- `telling::begin` meets its contract.
-- Assumes nothing.
use Rattle.telling.specs.Steps.{begin_state}
use Rattle.telling.proofs.begin.Goals as goal

pub returns : goal.returns
returns c = begin_state _ _ c.begun.ensures
