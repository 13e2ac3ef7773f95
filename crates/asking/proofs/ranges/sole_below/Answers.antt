-- `asking::ranges::sole_below` meets its contract.
-- Assumes nothing.
use mathlib.Core.Path.{sym, ◌∙◌}
use Rattle.asking.specs.Laws.Sole.{sole_not, sole_reach}
use Rattle.asking.proofs.ranges.sole_below.Goals as goal

pub returns-else-is_child : goal.returns-else-is_child
returns-else-is_child c = c.if-is_child.false ∙ sole_not _ _ _ _ (sym c.is_child.ensures ∙ c.if-is_child.false)

pub returns-then-is_child : goal.returns-then-is_child
returns-then-is_child c = sole_reach _ _ _ _ (sym c.is_child.ensures ∙ c.if-is_child.true) _ _ c.reach.ensures c.level_of.ensures
