-- `reading::closing::fail` meets its contract: notes and marks cleared, and the state moved on.
-- Assumes nothing.
use mathlib.Core.Path.{ap}
use Rattle.state.specs.declared.Closed.TheVariants.{False}
use Rattle.reading.proofs.closing.fail.Goals as goal

pub returns : goal.returns
returns c = (ap False c.moved.ensures, c.clear.ensures)
