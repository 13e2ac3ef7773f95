-- `testing::test::waits` meets its contract: one law for each answer.
-- Assumes nothing.
use mathlib.Core.Path.{◌∙◌}
use native.Mathlib.Omega.{arith}
use borrow.Author.Tests.{eq-eqb, lt-leb}
use Rattle.testing.specs.Laws.Fragment.{waits_child, waits_marked, waits_silent, waits_far, waits_noted}
use Rattle.testing.proofs.test.waits.Goals as goal

pub returns-then-parent_at-ne0 : goal.returns-then-parent_at-ne0
returns-then-parent_at-ne0 c = waits_child _ _ _ _ c.parent_at.ensures.says (omega arith)

pub returns-then-mark_at-gt1 : goal.returns-then-mark_at-gt1
returns-then-mark_at-gt1 c = waits_marked _ _ _ _ c.parent_at.ensures.says (omega arith) _ c.mark_at.ensures.says (omega arith)

pub returns-then-note-eq0 : goal.returns-then-note-eq0
returns-then-note-eq0 c = eq-eqb _ _ (omega arith) ∙ waits_silent _ _ _ _ c.parent_at.ensures.says (omega arith) _ c.mark_at.ensures.says (omega arith) _ c.note_at-note.ensures.says (omega arith)

pub returns-else-note-n : goal.returns-else-note-n
returns-else-note-n c =
    lt-leb _ _ (omega arith) ∙ waits_far _ _ _ _ c.parent_at.ensures.says (omega arith) _ c.mark_at.ensures.says (omega arith) _ c.note_at-note.ensures.says (omega arith) (omega arith)

pub returns-then-note-n : goal.returns-then-note-n
returns-then-note-n c =
    waits_noted _ _ _ _ c.parent_at.ensures.says (omega arith) _ c.mark_at.ensures.says (omega arith) _ c.note_at-note.ensures.says (omega arith) (omega arith) _ _ (omega arith) c.rank_at.ensures.says
