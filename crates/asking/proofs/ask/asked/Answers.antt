-- `asking::ask::asked` meets its contract: refused by the head, far, or neither.
-- Assumes nothing.
use mathlib.Core.Path.{sym, ap, ◌∙◌}
use native.Mathlib.Omega.{arith}
use Rattle.std.proofs.lemmas.Result.{err_from_is_err_and}
use Rattle.numbers.specs.Answers.{due}
use Rattle.numbers.proofs.Unique.{number_some}
use Rattle.asking.specs.Laws.Asked.{due_head, due_far, due_none}
use Rattle.asking.proofs.ask.asked.Goals as goal

pub returns-in_err-head : goal.returns-in_err-head
returns-in_err-head c =
    let p = err_from_is_err_and c.from_residual.result c.from_residual.ensures.1 in
    rw (p.1, p.2) (due_head _ _ _ _ _ _ (sym (ap due c.in_err-head.was) ∙ c.head.ensures) (number_some _))

pub returns-then-s-v : goal.returns-then-s-v
returns-then-s-v c = due_far _ _ _ _ _ (sym c.head.ensures ∙ ap due c.in_ok-head.was) (omega arith)

pub returns : goal.returns
returns c = due_none _ _ _ _ _ (sym c.head.ensures ∙ ap due c.in_ok-head.was) (omega arith)
