-- `reaches::laying::spread` meets its contract.
-- Assumes nothing.
use native.Mathlib.Omega.{arith}
use mathlib.Core.Path.{refl, sym, ap, ◌∙◌}
use Rattle.std.proofs.lemmas.Result.{err_from_is_err_and}
use Rattle.numbers.specs.Answers.{due}
use Rattle.numbers.proofs.Unique.{number_some}
use Rattle.state.specs.Test.{is_read}
use Rattle.testing.specs.Laws.Head.{head_is}
use Rattle.reaches.specs.Laws.Laid.{read_layable, spread_refused, spread_laid}
use Rattle.reaches.proofs.laying.spread.Goals as goal

pub returns-in_err-head : goal.returns-in_err-head
returns-in_err-head c =
    let p = err_from_is_err_and c.from_residual.result c.from_residual.ensures.1 in
    let e = head_is is_read refl _ _ _ _ _ c.is_read.ensures (sym (ap due c.in_err-head.was) ∙ c.head.ensures) in
    rw (p.1, p.2) (e, spread_refused _ _ _ _ e (number_some _))

pub lay-requires : goal.lay-requires
lay-requires c = read_layable _ _ _ (sym (head_is is_read refl _ _ _ _ _ c.is_read.ensures c.head.ensures) ∙ ap due c.in_ok-head.was)

pub returns : goal.returns
returns c =
    let e = head_is is_read refl _ _ _ _ _ c.is_read.ensures c.head.ensures in let z = ap due c.in_ok-head.was in (sym z ∙ e, spread_laid _ _ _ _ e z _ c.lay.ensures)
