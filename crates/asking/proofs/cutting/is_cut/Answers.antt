-- `asking::cutting::is_cut` meets its contract: a root by how many children it has, any other by a child that is shut.
-- Assumes nothing.
use mathlib.Core.Path.{sym, ◌∙◌}
use Rattle.asking.specs.Laws.Ranges.{cut_root, cut_other}
use Rattle.asking.proofs.cutting.is_cut.Goals as goal

pub returns-then-parent_of-v : goal.returns-then-parent_of-v
returns-then-parent_of-v c = c.has_two.ensures ∙ cut_root _ _ _ (sym c.parent_of.ensures ∙ c.if-parent_of-v.true)

pub returns : goal.returns
returns c = c.has_shut.ensures ∙ cut_other _ _ _ (λ e. c.if-parent_of-v.false (c.parent_of.ensures ∙ e))
