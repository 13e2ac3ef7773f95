-- `testing::turns::is_under` meets its contract: one law for each answer.
-- Assumes nothing.
use mathlib.Core.Path.{◌∙◌}
use native.Mathlib.Omega.{arith}
use borrow.Author.Tests.{le-ltb}
use Rattle.testing.specs.Laws.Turns.{under_late, under_none, under_so}
use Rattle.testing.proofs.turns.is_under.Goals as goal

pub returns-then-t-i : goal.returns-then-t-i
returns-then-t-i c = under_late _ _ _ _ _ (omega arith)

pub returns-else-w-t : goal.returns-else-w-t
returns-else-w-t c = le-ltb _ _ (omega arith) ∙ under_none _ _ _ _ _ (omega arith) _ c.whose_at-w.ensures.says (omega arith)

pub returns-then-w-t : goal.returns-then-w-t
returns-then-w-t c = under_so _ _ _ _ _ (omega arith) _ c.whose_at-w.ensures.says (omega arith) _ c.parent_at.ensures.says
