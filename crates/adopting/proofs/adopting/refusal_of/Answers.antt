-- `adopting::adopting::refusal_of` meets its contract: each answer is a lemma of the ladder.
-- Assumes nothing.
use mathlib.Core.Path.{sym, ap, ◌∙◌}
use native.Mathlib.Omega.{arith}
use Rattle.std.proofs.lemmas.Result.{err_from_is_err_and}
use Rattle.numbers.specs.Answers.{due}
use Rattle.numbers.proofs.Unique.{number_some}
use Rattle.adopting.specs.Laws.Adopt.{adopt_bounds, adopt_short, adopt_cycle, adopt_fine}
use Rattle.adopting.proofs.adopting.refusal_of.Goals as goal

pub returns-in_err-bounds : goal.returns-in_err-bounds
returns-in_err-bounds c =
    let p = err_from_is_err_and c.from_residual.result c.from_residual.ensures.1 in
    rw (p.1, p.2) (adopt_bounds _ _ _ _ _ _ (sym (ap due c.in_err-bounds.was) ∙ c.bounds.ensures) (number_some _))

pub returns-then-parents-n : goal.returns-then-parents-n
returns-then-parents-n c = adopt_short _ _ _ _ _ (sym c.bounds.ensures ∙ ap due c.in_ok-bounds.was) (omega arith)

pub returns-then-not-may_adopt : goal.returns-then-not-may_adopt
returns-then-not-may_adopt c = adopt_cycle _ _ _ _ _ (sym c.bounds.ensures ∙ ap due c.in_ok-bounds.was) (omega arith) (sym c.may_adopt.ensures ∙ c.if-not-may_adopt.true)

pub returns : goal.returns
returns c = adopt_fine _ _ _ _ _ (sym c.bounds.ensures ∙ ap due c.in_ok-bounds.was) (omega arith) (sym c.may_adopt.ensures ∙ c.if-not-may_adopt.false)
