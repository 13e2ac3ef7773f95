-- `closing::closing::is_due` meets its contract: by the words of the level and the label.
-- Assumes nothing.
use Rattle.closing.specs.Laws.Placing.{due_label, due_not}
use borrow.Author.Tests.{ne_eqb}
use mathlib.Core.Path.{◌∙◌}
use native.Mathlib.Omega.{arith}
use Rattle.closing.proofs.closing.is_due.Goals as goal

pub returns-else-frag-n-eq0 : goal.returns-else-frag-n-eq0
returns-else-frag-n-eq0 c = ne_eqb _ _ c.if-frag-n-eq0.false ∙ due_not _ _ _ (omega arith) c.if-frag-n-eq0.false

pub returns-then-frag-n-eq0 : goal.returns-then-frag-n-eq0
returns-then-frag-n-eq0 c = due_label _ _ _ (omega arith) c.if-frag-n-eq0.true
