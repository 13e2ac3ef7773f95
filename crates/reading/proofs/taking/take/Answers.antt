-- `reading::taking::take` meets its contract: refused at its head or by its block, or every link read.
-- Assumes nothing.
use Prim.Native.Nat.{◌+◌}
use mathlib.Core.Path.{refl, sym, ap, ◌∙◌}
use native.Mathlib.Omega.{arith}
use Rattle.std.proofs.lemmas.Result.{err_from_is_err_and}
use Rattle.numbers.specs.Answers.{due}
use Rattle.numbers.proofs.Unique.{number_some}
use Rattle.lists.specs.Answers.{told_count}
use Rattle.state.specs.Test.{is_reading}
use Rattle.testing.specs.Laws.Head.{head_is, head_passed}
use Rattle.testing.specs.Laws.Whole.{passed_numbered}
use Rattle.reading.specs.Laws.Pass.{reading_numbered}
use Rattle.reading.specs.Laws.Take.{scanned, scanned_few, take_refused, take_bad, take_on}
use Rattle.reading.proofs.taking.take.Goals as goal

pub returns-in_err-head : goal.returns-in_err-head
returns-in_err-head c =
    let p = err_from_is_err_and c.from_residual.result c.from_residual.ensures.1 in
    rw (p.1, p.2.0, p.2.1) (take_refused _ _ _ _ _ (head_is is_reading refl _ _ _ _ _ c.is_reading.ensures (sym (ap due c.in_err-head.was) ∙ c.head.ensures)) (number_some _))

pub overflow_cast-entries : goal.overflow_cast-entries
overflow_cast-entries c = let p = head_passed is_reading refl _ _ _ _ _ c.is_reading.ensures c.head.ensures (ap due c.in_ok-head.was) in omega (arith, p.found.agrees.entries_few)

pub overflow_cast-s : goal.overflow_cast-s
overflow_cast-s c = let p = head_passed is_reading refl _ _ _ _ _ c.is_reading.ensures c.head.ensures (ap due c.in_ok-head.was) in omega (arith, p.bounds.fragments)

pub tell-crossed-requires : goal.tell-crossed-requires
tell-crossed-requires c =
    let k = c.is_reading.ensures in
    let e = c.head.ensures in
    (passed_numbered (head_passed is_reading refl _ _ _ _ _ k e (ap due c.in_ok-head.was)) (reading_numbered _ _ _ _ (head_is is_reading refl _ _ _ _ _ k e) (ap due c.in_ok-head.was)), (scanned _ _ _ _ (sym (ap told_count c.in_ok-count.was) ∙ c.scan.ensures)).given)

pub overflow_add-total : goal.overflow_add-total
overflow_add-total c =
    let p = head_passed is_reading refl _ _ _ _ _ c.is_reading.ensures c.head.ensures (ap due c.in_ok-head.was) in omega (arith, scanned_few (scanned _ _ _ _ (sym (ap told_count c.in_ok-count.was) ∙ c.scan.ensures)), c.wide.ensures.says, p.found.agrees.entries_few)

pub returns : goal.returns
returns c =
    let s = c.args.s in
    take_on s _ _ _ _ (head_is is_reading refl _ _ _ _ _ c.is_reading.ensures c.head.ensures) (ap due c.in_ok-head.was) (head_passed is_reading refl _ _ _ _ _ c.is_reading.ensures c.head.ensures (ap due c.in_ok-head.was)) _ _ _ _ (scanned _ _ _ _ (sym (ap told_count c.in_ok-count.was) ∙ c.scan.ensures))
    c.tell-crossed.ensures (ap (λ k. s.entries + k) c.wide.ensures.says) _ c.moved.ensures

pub returns-in_err-count : goal.returns-in_err-count
returns-in_err-count c =
    let p = err_from_is_err_and c.from_residual-in_err-count.result c.from_residual-in_err-count.ensures.1 in
    rw (p.1, p.2) (take_bad c.args.s _ _ _ _ (head_is is_reading refl _ _ _ _ _ c.is_reading.ensures c.head.ensures) (ap due c.in_ok-head.was) (head_passed is_reading refl _ _ _ _ _ c.is_reading.ensures c.head.ensures (ap due c.in_ok-head.was)) _ _ (sym (ap told_count c.in_err-count.was) ∙ c.scan.ensures))
