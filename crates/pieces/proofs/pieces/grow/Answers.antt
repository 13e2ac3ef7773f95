-- `pieces::pieces::grow` meets its contract: one word is stored.
-- Assumes nothing.
use mathlib.Core.Path.{refl}
use Rattle.pieces.proofs.pieces.grow.Goals as goal

pub returns : goal.returns
returns c = rw c.sum.ensures refl
