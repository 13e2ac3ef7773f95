-- `asking::ranges::is_sole` meets its contract.
-- Assumes nothing.
use mathlib.Core.Path.{sym, ◌∙◌}
use Rattle.asking.specs.Laws.Sole.{sole_first, sole_second}
use Rattle.asking.proofs.ranges.is_sole.Goals as goal

pub returns-then-sole_below : goal.returns-then-sole_below
returns-then-sole_below c = c.if-sole_below.true ∙ sole_first _ _ _ _ (sym c.sole_below.ensures ∙ c.if-sole_below.true)

pub returns-else-sole_below : goal.returns-else-sole_below
returns-else-sole_below c = sole_second _ _ _ _ (sym c.sole_below.ensures ∙ c.if-sole_below.false) _ c.sole_below-else-sole_below.ensures
