-- `testing::test::stands` meets its contract: one law for each answer.
-- Assumes nothing.
use mathlib.Core.Bool.{not}
use mathlib.Core.Path.{ap, ◌∙◌}
use native.Mathlib.Omega.{arith}
use borrow.Author.Tests.{eq-eqb}
use Rattle.state.proofs.Laws.Tests.{stands_root, stands_far, stands_loose, stands_under}
use Rattle.testing.proofs.test.stands.Goals as goal

pub returns-then-p-v : goal.returns-then-p-v
returns-then-p-v c = stands_root _ _ _ _ _ c.parent_at-p.ensures.says c.rank_at-rank.ensures.says (omega arith)

pub returns-then-n-p : goal.returns-then-n-p
returns-then-n-p c = stands_far _ _ _ _ _ c.parent_at-p.ensures.says c.rank_at-rank.ensures.says (omega arith) (omega arith)

pub returns-else-above-ne0 : goal.returns-else-above-ne0
returns-else-above-ne0 c = ap not (eq-eqb _ _ (omega arith)) ∙ stands_loose _ _ _ _ _ c.parent_at-p.ensures.says c.rank_at-rank.ensures.says (omega arith) (omega arith) _ c.rank_at-above.ensures.says (omega arith)

pub returns-then-above-ne0 : goal.returns-then-above-ne0
returns-then-above-ne0 c = stands_under _ _ _ _ _ c.parent_at-p.ensures.says c.rank_at-rank.ensures.says (omega arith) (omega arith) _ c.rank_at-above.ensures.says (omega arith)
