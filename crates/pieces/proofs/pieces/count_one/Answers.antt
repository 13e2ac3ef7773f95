-- `pieces::pieces::count_one` meets its contract: one word is stored.
-- Assumes nothing.
use mathlib.Core.Path.{refl}
use Rattle.pieces.specs.Joined.{counted}
use Rattle.pieces.proofs.pieces.count_one.Goals as goal

pub returns : goal.returns
unfolding counted
returns c = rw c.sum.ensures refl
