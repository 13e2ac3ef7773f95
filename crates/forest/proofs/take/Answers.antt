-- `forest::take` meets its contract: in each stage it is the call of the crate below.
-- Assumes nothing.
use mathlib.Core.Path.{sym, ◌∙◌}
use Rattle.forest.specs.Stages.{take_building, take_reading}
use borrow.Author.Rules.{rules}
use Rattle.forest.proofs.take.Goals as goal

pub is_building-requires : goal.is_building-requires
is_building-requires c = search rules

pub take-requires : goal.take-requires
take-requires c = search rules

pub take-requires-else-is_building : goal.take-requires-else-is_building
take-requires-else-is_building c = search rules

pub returns-then-is_building : goal.returns-then-is_building
returns-then-is_building c =
    let a = c.args in
    c.take.ensures ∙ take_building a.s a.frag.now a.held.now a.block.now (sym c.is_building.ensures ∙ c.if-is_building.true)

pub returns-else-is_building : goal.returns-else-is_building
returns-else-is_building c =
    let a = c.args in
    c.take-else-is_building.ensures ∙ take_reading a.s a.frag.now a.held.now a.block.now (sym c.is_building.ensures ∙ c.if-is_building.false)
