-- `numbering::number::head` meets its contract.
-- Assumes nothing.
use mathlib.Core.Path.{sym, ap, ◌∙◌}
use Rattle.std.proofs.lemmas.Result.{err_from_is_err_and}
use Rattle.numbers.specs.Answers.{due}
use Rattle.numbers.proofs.Unique.{number_some}
use Rattle.numbering.specs.Laws.Numbered.{number_refused, number_later, built_orderable, number_built}
use Rattle.numbering.proofs.number.head.Goals as goal

pub returns-in_err-head : goal.returns-in_err-head
returns-in_err-head c =
    let p = err_from_is_err_and c.from_residual.result c.from_residual.ensures.1 in
    let e = sym (ap due c.in_err-head.was) ∙ c.head.ensures in
    rw (p.1, p.2) (e, number_refused _ _ _ _ _ e (number_some _))

pub returns-then-not-is_built : goal.returns-then-not-is_built
returns-then-not-is_built c = let e = c.head.ensures in let z = ap due c.in_ok-head.was in (sym z ∙ e, number_later _ _ _ _ _ e z _ c.is_built.ensures (c.if-not-is_built.true))

pub number-requires : goal.number-requires
number-requires c = built_orderable _ _ _ _ _ c.head.ensures (ap due c.in_ok-head.was) _ c.is_built.ensures (c.if-not-is_built.false)

pub returns : goal.returns
returns c =
    let e = c.head.ensures in let z = ap due c.in_ok-head.was in (sym z ∙ e, number_built _ _ _ _ _ e z _ c.is_built.ensures (c.if-not-is_built.false) _ c.number.ensures)
