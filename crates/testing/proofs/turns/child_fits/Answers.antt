-- `testing::turns::child_fits` meets its contract: one law for each answer.
-- Assumes nothing.
use mathlib.Core.Path.{◌∙◌}
use native.Mathlib.Omega.{arith}
use Rattle.std.proofs.lemmas.Bool.Decides.{nat_tests}
use Rattle.testing.specs.Laws.Turns.{child_early, child_last, child_next}
use Rattle.testing.proofs.turns.child_fits.Goals as goal

pub returns-then-turn_at : goal.returns-then-turn_at
returns-then-turn_at c = child_early _ _ _ _ _ _ _ c.turn_at.ensures.says c.turn_at-2.ensures.says (omega arith)

pub returns-then-end-end_at : goal.returns-then-end-end_at
returns-then-end-end_at c =
    grind (arith, nat_tests) ∙ child_last _ _ _ _ _ _ _ c.turn_at.ensures.says c.turn_at-2.ensures.says (omega arith) _ c.end_at-end.ensures.says _ c.end_at.ensures.says (omega arith)

pub returns-else-end-end_at : goal.returns-else-end-end_at
returns-else-end-end_at c =
    child_next _ _ _ _ _ _ _ c.turn_at.ensures.says c.turn_at-2.ensures.says (omega arith) _ c.end_at-end.ensures.says _ c.end_at.ensures.says (omega arith) _ c.rises.ensures
