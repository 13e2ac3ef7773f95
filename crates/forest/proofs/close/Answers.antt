-- `forest::close` meets its contract: in each stage it is the call of the crate below.
-- Assumes nothing.
use mathlib.Core.Path.{sym, ◌∙◌}
use Rattle.forest.specs.Stages.{close_building_lem, close_reading}
use borrow.Author.Rules.{rules}
use Rattle.forest.proofs.close.Goals as goal

pub is_building-requires : goal.is_building-requires
is_building-requires c = search rules

pub close-requires : goal.close-requires
close-requires c = search rules

pub close-requires-else-is_building : goal.close-requires-else-is_building
close-requires-else-is_building c = search rules

pub returns-then-is_building : goal.returns-then-is_building
returns-then-is_building c =
    let a = c.args in
    c.close.ensures ∙ close_building_lem a.s a.frag.now a.held.now (sym c.is_building.ensures ∙ c.if-is_building.true)

pub returns-else-is_building : goal.returns-else-is_building
returns-else-is_building c =
    let a = c.args in
    c.close-else-is_building.ensures ∙ close_reading a.s a.frag.now a.held.now (sym c.is_building.ensures ∙ c.if-is_building.false)
