-- `lines::report` meets its contract.
-- Assumes nothing.
use native.Mathlib.Omega.{arith}
use mathlib.Core.Path.{refl, sym, ap, ◌∙◌}
use Rattle.std.proofs.lemmas.Result.{err_from_is_err_and}
use Rattle.numbers.specs.Answers.{due}
use Rattle.numbers.proofs.Unique.{number_some}
use Rattle.reaches.specs.Laws.Laid.{spread_refused}
use Rattle.lines.specs.Laws.Written.{report_refused, answered_fit, answered_report, answered_back}
use Rattle.lines.proofs.report.Goals as goal

pub returns-in_err-spread : goal.returns-in_err-spread
returns-in_err-spread c =
    let p = err_from_is_err_and c.from_residual.result c.from_residual.ensures.1 in
    let e = c.spread.ensures in
    let z = sym (ap due c.in_err-spread.was) ∙ e.0 in
    rw (p.1, p.2) (report_refused _ _ _ _ _ z (number_some _) _ refl, e.1 ∙ sym (spread_refused _ _ _ _ z (number_some _)))

pub written-end-requires : goal.written-end-requires
written-end-requires c = let e = c.spread.ensures in answered_fit _ _ _ _ e.0 (ap due c.in_ok-spread.was) _ e.1

pub overflow_mul-s : goal.overflow_mul-s
overflow_mul-s c = let e = c.spread.ensures in omega (arith, (answered_fit _ _ _ _ e.0 (ap due c.in_ok-spread.was) _ e.1).answers.whole.few)

pub overflow_mul-s-2 : goal.overflow_mul-s-2
overflow_mul-s-2 c = let e = c.spread.ensures in omega (arith, (answered_fit _ _ _ _ e.0 (ap due c.in_ok-spread.was) _ e.1).answers.whole.few)

pub returns : goal.returns
returns c =
    let e = c.spread.ensures in let w = c.written-end.ensures in (answered_report _ _ _ _ e.0 (ap due c.in_ok-spread.was) _ e.1 _ _ w.0, c.clear.ensures ∙ answered_back _ _ _ _ e.0 (ap due c.in_ok-spread.was) _ e.1 _ w.1)
