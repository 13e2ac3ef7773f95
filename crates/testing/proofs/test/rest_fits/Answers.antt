-- `testing::test::rest_fits` meets its contract: one law for each answer.
-- Assumes nothing.
use mathlib.Core.Path.{sym, ◌∙◌}
use Rattle.testing.specs.Laws.Turns.{rest_plain, rest_worked, rest_numbered}
use Rattle.testing.proofs.test.rest_fits.Goals as goal

pub returns-then-not-reads : goal.returns-then-not-reads
returns-then-not-reads c = rest_plain _ _ _ (sym c.reads.ensures ∙ c.if-not-reads.true) _ c.zeros.ensures

pub returns-else-zeros : goal.returns-else-zeros
returns-else-zeros c = c.if-zeros.false ∙ rest_worked _ _ _ (sym c.reads.ensures ∙ c.if-not-reads.false) (sym c.if-zeros.false ∙ c.zeros-2.ensures)

pub returns-then-zeros : goal.returns-then-zeros
returns-then-zeros c = rest_numbered _ _ _ (sym c.reads.ensures ∙ c.if-not-reads.false) (sym c.if-zeros.true ∙ c.zeros-2.ensures) _ c.numbers_fit.ensures
