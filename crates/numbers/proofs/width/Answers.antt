-- `numbers::width` meets its contract.
-- Assumes nothing.
use mathlib.Core.Path.{sym, ap, ◌∙◌}
use native.Mathlib.Omega.{arith}
use lib.ListN.{length}
use Rattle.numbers.proofs.Laws.Writing.{written_all, width_is, width_none}
use Rattle.numbers.proofs.width.Goals as goal

pub returns-then-value-gt-VALUE_MOST : goal.returns-then-value-gt-VALUE_MOST
returns-then-value-gt-VALUE_MOST c = sym (width_none _ (omega arith))

pub returns : goal.returns
returns c = c.groups_in.ensures ∙ sym (width_is _ (omega arith) ∙ ap length (written_all _ (omega arith)))
