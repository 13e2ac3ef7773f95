-- `pieces::pieces::unite` meets its contract: both words of p grow by those of q, and q points to p.
-- Assumes nothing.
use mathlib.Core.Path.{refl}
use Rattle.pieces.specs.Joined.{united}
use Rattle.pieces.proofs.pieces.unite.Goals as goal

pub returns : goal.returns
unfolding united
returns c = rw c.grow-2.ensures (rw c.grow.ensures refl)
