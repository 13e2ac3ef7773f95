-- `reading::opening::open_reading` meets its contract: refused at its head, or the forest numbered, notes and marks cleared.
-- Assumes nothing.
use mathlib.Core.Path.{sym, ap, ◌∙◌}
use native.Mathlib.Omega.{arith}
use Rattle.std.proofs.lemmas.Result.{err_from_is_err_and}
use Rattle.numbers.specs.Answers.{due}
use Rattle.numbers.proofs.Unique.{number_some}
use Rattle.reading.specs.Laws.Pass.{open_refused, open_passed, open_done}
use Rattle.reading.proofs.opening.open_reading.Goals as goal

pub returns-in_err-head : goal.returns-in_err-head
returns-in_err-head c =
    let p = err_from_is_err_and c.from_residual.result c.from_residual.ensures.1 in
    rw (p.1, p.2.0, p.2.1) (open_refused _ _ _ _ c.may_open.ensures _ (sym (ap due c.in_err-head.was) ∙ c.head.ensures.0) _ c.head.ensures.1 (number_some _))

pub overflow_mul-s : goal.overflow_mul-s
overflow_mul-s c =
    let p = open_passed _ _ _ _ c.may_open.ensures _ c.head.ensures.0 _ c.head.ensures.1 (ap due c.in_ok-head.was) in omega (arith, p.bounds.fragments)

pub overflow_mul-s-2 : goal.overflow_mul-s-2
overflow_mul-s-2 c =
    let p = open_passed _ _ _ _ c.may_open.ensures _ c.head.ensures.0 _ c.head.ensures.1 (ap due c.in_ok-head.was) in omega (arith, p.bounds.fragments)

pub returns : goal.returns
returns c = open_done _ _ _ _ c.may_open.ensures _ c.head.ensures.0 _ c.head.ensures.1 (ap due c.in_ok-head.was) _ c.clear.ensures _ c.moved.ensures
