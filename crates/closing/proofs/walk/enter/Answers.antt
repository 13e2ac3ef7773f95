-- `closing::walk::enter` meets its contract: the first greater neighbour and the first place.
-- Assumes nothing.
use Rattle.closing.specs.Walk.{entered_at}
use Rattle.closing.proofs.walk.enter.Goals as goal

pub returns : goal.returns
unfolding entered_at
returns c = c.keep_cursors.ensures
