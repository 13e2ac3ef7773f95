-- `testing::test::noted` meets its contract: one law for each answer.
-- Assumes nothing.
use mathlib.Core.Path.{◌∙◌}
use native.Mathlib.Omega.{arith}
use borrow.Author.Tests.{lt-leb}
use Rattle.testing.specs.Laws.Fragment.{noted_clear, noted_high, noted_low}
use Rattle.testing.proofs.test.noted.Goals as goal

pub returns-then-not-reads : goal.returns-then-not-reads
returns-then-not-reads c = noted_clear _ _ _ _ c.reads.ensures (c.if-not-reads.true) _ c.is_clear.ensures

pub returns-else-note_at-level_of : goal.returns-else-note_at-level_of
returns-else-note_at-level_of c = lt-leb _ _ (omega arith) ∙ noted_high _ _ _ _ c.reads.ensures (c.if-not-reads.false) _ _ c.level_of.ensures c.note_at.ensures.says (omega arith)

pub returns-then-note_at-level_of : goal.returns-then-note_at-level_of
returns-then-note_at-level_of c =
    noted_low _ _ _ _ c.reads.ensures (c.if-not-reads.false) _ _ c.level_of.ensures c.note_at.ensures.says (omega arith) _ c.is_read.ensures _ c.marked.ensures
