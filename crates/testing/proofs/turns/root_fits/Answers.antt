-- `testing::turns::root_fits` meets its contract.
-- Assumes nothing.
use mathlib.Core.Path.{◌∙◌}
use native.Mathlib.Omega.{arith}
use Rattle.std.proofs.lemmas.Bool.Decides.{nat_tests}
use Rattle.testing.specs.Laws.Turns.{root_last, root_next}
use Rattle.testing.proofs.turns.root_fits.Goals as goal

pub returns-then-end-t : goal.returns-then-end-t
returns-then-end-t c = grind (arith, nat_tests) ∙ root_last _ _ _ _ _ c.end_at-end.ensures.says (omega arith)

pub returns-else-end-t : goal.returns-else-end-t
returns-else-end-t c = root_next _ _ _ _ _ c.end_at-end.ensures.says (omega arith) _ c.whose_at.ensures.says _ c.rises.ensures
