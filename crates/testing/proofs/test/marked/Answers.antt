-- `testing::test::marked` meets its contract: each answer is a lemma of the clause.
-- Assumes nothing.
use native.Mathlib.Omega.{arith}
use Rattle.testing.specs.Laws.Fragment.{mark_root, mark_none, mark_some}
use Rattle.testing.proofs.test.marked.Goals as goal

pub returns-then-parent_at-v : goal.returns-then-parent_at-v
returns-then-parent_at-v c = mark_root _ _ _ _ _ c.parent_at.ensures.says c.mark_at-mark.ensures.says (omega arith)

pub returns-then-mark-eq0 : goal.returns-then-mark-eq0
returns-then-mark-eq0 c = mark_none _ _ _ _ _ c.parent_at.ensures.says c.mark_at-mark.ensures.says (λ e. omega arith) (omega arith)

pub returns : goal.returns
returns c = mark_some _ _ _ _ _ c.parent_at.ensures.says c.mark_at-mark.ensures.says (λ e. omega arith) (λ e. omega arith)
