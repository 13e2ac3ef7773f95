-- `asking::ranges::is_child` meets its contract.
-- Assumes nothing.
use mathlib.Core.Path.{◌∙◌}
use native.Mathlib.Omega.{arith}
use borrow.Author.Tests.{ne_eqb}
use Rattle.asking.specs.Laws.Sole.{child_not, child_other}
use Rattle.asking.proofs.ranges.is_child.Goals as goal

pub returns-else-parent_of-v : goal.returns-else-parent_of-v
returns-else-parent_of-v c = ne_eqb _ _ c.if-parent_of-v.false ∙ child_not _ _ _ _ _ c.parent_of.ensures c.if-parent_of-v.false

pub returns-then-parent_of-v : goal.returns-then-parent_of-v
returns-then-parent_of-v c = child_other _ _ _ _ _ c.parent_of.ensures (omega arith)
