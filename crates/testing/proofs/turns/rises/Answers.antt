-- `testing::turns::rises` meets its contract.
-- Assumes nothing.
use mathlib.Core.Path.{◌∙◌}
use native.Mathlib.Omega.{arith}
use Rattle.std.proofs.lemmas.Bool.Decides.{nat_tests}
use Rattle.testing.specs.Laws.Turns.{rises_not, rises_so}
use Rattle.testing.proofs.turns.rises.Goals as goal

pub returns-else-v-whose_at : goal.returns-else-v-whose_at
returns-else-v-whose_at c = grind (arith, nat_tests) ∙ rises_not _ _ _ _ _ _ _ c.whose_at.ensures.says (omega arith)

pub returns-then-v-whose_at : goal.returns-then-v-whose_at
returns-then-v-whose_at c = rises_so _ _ _ _ _ _ _ c.whose_at.ensures.says (omega arith) _ c.is_under.ensures
