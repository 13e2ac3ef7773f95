-- `testing::turns::words_fit` meets its contract: one law for each answer.
-- Assumes nothing.
use mathlib.Core.Path.{sym, ◌∙◌}
use native.Mathlib.Omega.{arith}
use Rattle.testing.specs.Laws.Turns.{words_late, words_root, words_child}
use Rattle.testing.proofs.turns.words_fit.Goals as goal

pub returns-then-not-comes : goal.returns-then-not-comes
returns-then-not-comes c = words_late _ _ _ _ (sym (c.if-not-comes.true) ∙ c.comes.ensures)

pub returns-then-p-v : goal.returns-then-p-v
returns-then-p-v c = words_root _ _ _ _ (sym (c.if-not-comes.false) ∙ c.comes.ensures) _ c.parent_at-p.ensures.says _ (omega arith) c.root_fits.ensures

pub returns : goal.returns
returns c = words_child _ _ _ _ (sym (c.if-not-comes.false) ∙ c.comes.ensures) _ c.parent_at-p.ensures.says _ (omega arith) c.child_fits.ensures
