-- `testing::test::stage_holds` meets its contract: one law for each answer.
-- Assumes nothing.
use Rattle.testing.specs.Laws.Fragment.{stage_done, stage_held, stage_entries, stage_crossed}
use Rattle.testing.proofs.test.stage_holds.Goals as goal

pub returns-then-not-asked : goal.returns-then-not-asked
returns-then-not-asked c = stage_done _ _ _ c.is_building-building.ensures _ c.asked.ensures (c.if-not-asked.true)

pub returns-then-not-asked-2 : goal.returns-then-not-asked-2
returns-then-not-asked-2 c = stage_held _ _ _ c.is_building-building.ensures _ c.asked.ensures (c.if-not-asked.false) _ c.asked-2.ensures (c.if-not-asked-2.true)

pub returns-then-not-asked-3 : goal.returns-then-not-asked-3
returns-then-not-asked-3 c =
    stage_entries _ _ _ c.is_building-building.ensures _ c.asked.ensures (c.if-not-asked.false) _ c.asked-2.ensures (c.if-not-asked-2.false) _ c.is_built.ensures _ c.asked-3.ensures (c.if-not-asked-3.true)

pub returns : goal.returns
returns c =
    stage_crossed _ _ _ c.is_building-building.ensures _ c.asked.ensures (c.if-not-asked.false) _ c.asked-2.ensures (c.if-not-asked-2.false) _ c.is_built.ensures _ c.asked-3.ensures (c.if-not-asked-3.false) _ c.is_reading.ensures _ c.asked-4.ensures
