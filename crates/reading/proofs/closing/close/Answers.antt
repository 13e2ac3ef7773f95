-- `reading::closing::close` meets its contract: refused at its head, true of the forest, or false.
-- Assumes nothing.
use mathlib.Core.Path.{refl, sym, ap, ◌∙◌}
use Rattle.std.proofs.lemmas.Result.{err_from_is_err_and}
use Rattle.numbers.specs.Answers.{due}
use Rattle.numbers.proofs.Unique.{number_some}
use Rattle.state.specs.Test.{is_reading}
use Rattle.testing.specs.Laws.Head.{head_is, head_passed}
use Rattle.reading.specs.Laws.Pass.{same_accepted, close_refused, close_read, close_false}
use Rattle.reading.proofs.closing.close.Goals as goal

pub returns-in_err-head : goal.returns-in_err-head
returns-in_err-head c =
    let p = err_from_is_err_and c.from_residual.result c.from_residual.ensures.1 in
    rw (p.1, p.2.0, p.2.1) (close_refused _ _ _ _ (head_is is_reading refl _ _ _ _ _ c.is_reading.ensures (sym (ap due c.in_err-head.was) ∙ c.head.ensures)) (number_some _))

pub fail-requires : goal.fail-requires
fail-requires c = let p = head_passed is_reading refl _ _ _ _ _ c.is_reading.ensures c.head.ensures (ap due c.in_ok-head.was) in p.bounds.fragments

pub returns-then-not-holds : goal.returns-then-not-holds
returns-then-not-holds c =
    close_false _ _ _ _ (head_is is_reading refl _ _ _ _ _ c.is_reading.ensures c.head.ensures) (ap due c.in_ok-head.was) (head_passed is_reading refl _ _ _ _ _ c.is_reading.ensures c.head.ensures (ap due c.in_ok-head.was))
    (same_accepted c.args.s _ _ ∙ sym c.holds.ensures ∙ c.if-not-holds.true) _ c.fail.ensures.1 _ c.fail.ensures.0

pub returns : goal.returns
returns c =
    close_read _ _ _ _ (head_is is_reading refl _ _ _ _ _ c.is_reading.ensures c.head.ensures) (ap due c.in_ok-head.was) (head_passed is_reading refl _ _ _ _ _ c.is_reading.ensures c.head.ensures (ap due c.in_ok-head.was))
    (same_accepted c.args.s _ _ ∙ sym c.holds.ensures ∙ c.if-not-holds.false) _ c.moved.ensures
