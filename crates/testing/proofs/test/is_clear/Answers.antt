-- `testing::test::is_clear` meets its contract: one law for each answer.
-- Assumes nothing.
use mathlib.Core.Path.{◌∙◌}
use native.Mathlib.Omega.{arith}
use borrow.Author.Tests.{ne_eqb}
use Rattle.state.proofs.Laws.Tests.{clear_not, clear_so}
use Rattle.testing.proofs.test.is_clear.Goals as goal

pub returns-else-note_at-eq0 : goal.returns-else-note_at-eq0
returns-else-note_at-eq0 c = ne_eqb _ _ (omega arith) ∙ clear_not _ _ _ c.note_at.ensures.says (omega arith)

pub returns-then-note_at-eq0 : goal.returns-then-note_at-eq0
returns-then-note_at-eq0 c = clear_so _ _ _ c.note_at.ensures.says _ c.mark_at.ensures.says (omega arith)
