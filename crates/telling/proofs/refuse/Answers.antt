-- `telling::refuse` meets its contract.
-- Assumes nothing.
use Rattle.telling.specs.Steps.{refuse_said}
use Rattle.telling.proofs.refuse.Goals as goal

pub returns : goal.returns
returns c = refuse_said _ _ c.refusal_line.result _ c.size_of-size.ensures _ _ c.refusal_line.ensures
