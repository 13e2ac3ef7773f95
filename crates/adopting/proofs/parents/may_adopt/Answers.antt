-- `adopting::parents::may_adopt` meets its contract: a parent that is no fragment, or the verdict on all ways.
-- Assumes nothing.
use mathlib.Core.Path.{sym, ◌∙◌}
use Rattle.adopting.specs.Laws.Adopt.{one_outside, inside_known}
use Rattle.adopting.proofs.parents.may_adopt.Goals as goal

pub returns-else-inside : goal.returns-else-inside
returns-else-inside c = c.if-inside.false ∙ one_outside _ _ (sym c.inside.ensures ∙ c.if-inside.false)

pub all_lead-requires : goal.all_lead-requires
all_lead-requires c = inside_known _ _ c.requires (sym c.inside.ensures ∙ c.if-inside.true)
