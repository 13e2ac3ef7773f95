-- `numbering::number::number` meets its contract.
-- Assumes nothing.
use mathlib.Core.Path.{◌∙◌}
use Rattle.numbering.specs.Laws.Numbered.{growable_1, sized_2, turnable_3, turned_4, numbered_made}
use Rattle.numbering.proofs.number.number.Goals as goal

pub sizes-requires : goal.sizes-requires
sizes-requires c = growable_1 c.requires c.order.ensures

pub count_passed-requires : goal.count_passed-requires
count_passed-requires c = sized_2 c.requires c.order.ensures c.sizes.ensures

pub turns-requires : goal.turns-requires
turns-requires c = turnable_3 c.requires c.order.ensures c.sizes.ensures c.count_passed.ensures

pub ends-requires : goal.ends-requires
ends-requires c = turned_4 c.requires c.order.ensures c.sizes.ensures c.count_passed.ensures c.turns.ensures

pub returns : goal.returns
returns c = c.clear.ensures ∙ numbered_made c.requires c.order.ensures c.sizes.ensures c.count_passed.ensures c.turns.ensures c.ends.ensures
