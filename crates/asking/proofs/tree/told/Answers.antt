-- `asking::tree::told` meets its contract: far, or the smallest of the tree.
-- Assumes nothing.
use mathlib.Core.Path.{◌∙◌}
use native.Mathlib.Omega.{arith}
use Rattle.numbers.proofs.Unique.{refused_is}
use Rattle.asking.specs.Laws.Piece.{told_far, told_near}
use Rattle.asking.proofs.tree.told.Goals as goal

pub returns-then-n-v : goal.returns-then-n-v
returns-then-n-v c = let a = c.args in refused_is _ _ _ c.from.ensures ∙ told_far a.n a.v _ (omega arith)

pub returns : goal.returns
returns c = let a = c.args in told_near a.n a.v _ (omega arith) _ c.smallest.ensures
