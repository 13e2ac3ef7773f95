-- `testing::test::fragment` meets its contract: one law for each answer.
-- Assumes nothing.
use mathlib.Core.Path.{sym, ◌∙◌}
use native.Mathlib.Omega.{arith}
use Rattle.testing.specs.Laws.Fragment.{fits_never, fits_loose, fits_fallen, fits_placed}
use Rattle.testing.proofs.test.fragment.Goals as goal

pub returns-else-is_building : goal.returns-else-is_building
returns-else-is_building c = c.if-is_building.false ∙ fits_never _ _ _ _ _ c.rank_at.ensures.says (omega arith) _ c.is_building.ensures (c.if-is_building.false)

pub returns-then-is_building : goal.returns-then-is_building
returns-then-is_building c = fits_loose _ _ _ _ _ c.rank_at.ensures.says (omega arith) _ c.is_building.ensures (c.if-is_building.true) _ c.waits.ensures

pub returns-else-stands : goal.returns-else-stands
returns-else-stands c = c.if-stands.false ∙ fits_fallen _ _ _ _ _ c.rank_at.ensures.says (omega arith) (sym (c.if-stands.false) ∙ c.stands.ensures)

pub returns-then-stands : goal.returns-then-stands
returns-then-stands c = fits_placed _ _ _ _ _ c.rank_at.ensures.says (omega arith) (sym (c.if-stands.true) ∙ c.stands.ensures) _ c.noted.ensures
