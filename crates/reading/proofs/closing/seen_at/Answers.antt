-- `reading::closing::seen_at` meets its contract: a root, or a mark.
-- Assumes nothing.
use mathlib.Core.Path.{◌∙◌}
use Rattle.std.proofs.Common.{eq-eqb}
use Rattle.reading.specs.Laws.Pass.{seen_root, seen_child}
use Rattle.reading.proofs.closing.seen_at.Goals as goal

pub returns-then-parent_of-v : goal.returns-then-parent_of-v
returns-then-parent_of-v c = eq-eqb _ _ c.if-parent_of-v.true ∙ seen_root _ _ _ c.parent_of.ensures c.if-parent_of-v.true

pub returns-else-parent_of-v : goal.returns-else-parent_of-v
returns-else-parent_of-v c = seen_child _ _ _ c.parent_of.ensures c.if-parent_of-v.false _ c.mark_at.ensures.says
