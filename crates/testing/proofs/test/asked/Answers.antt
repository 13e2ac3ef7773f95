-- `testing::test::asked` meets its contract: by the test.
-- Assumes nothing.
use mathlib.Core.Bool.{not}
use mathlib.Core.Path.{ap}
use Rattle.testing.specs.Laws.Fragment.{asked_off, asked_on}
use Rattle.testing.proofs.test.asked.Goals as goal

pub returns-then-not-test : goal.returns-then-not-test
returns-then-not-test c = asked_off _ _ (ap not c.if-not-test.true)

pub returns-else-not-test : goal.returns-else-not-test
returns-else-not-test c = asked_on _ _ (ap not c.if-not-test.false)
