-- `asking::ask::level` meets its contract: refused, or one less than the word.
-- Assumes nothing.
use mathlib.Core.Bool.{not}
use mathlib.Core.Path.{refl, sym, ap, ◌∙◌}
use Rattle.std.proofs.lemmas.Result.{err_from_is_err_and}
use Rattle.numbers.specs.Answers.{due}
use Rattle.numbers.proofs.Unique.{number_some}
use Rattle.base.specs.Answer.{gives}
use Rattle.state.specs.Ask.{asks, level_call}
use Rattle.asking.specs.Laws.Asked.{ask_refused, ask_answer, same_lev}
use Rattle.asking.proofs.ask.level.Goals as goal

pub returns-in_err-asked : goal.returns-in_err-asked
unfolding level_call
returns-in_err-asked c =
    let p = err_from_is_err_and c.from_residual.result c.from_residual.ensures.1 in
    rw (p.1, p.2.0, p.2.1) (ask_refused asks refl _ _ _ _ (ap not c.is_building.ensures) _ _ _ (sym (ap due c.in_err-asked.was) ∙ c.asked.ensures) (number_some _))

pub returns : goal.returns
unfolding level_call
returns c =
    let a = c.args in
    ap gives (c.level_of.ensures ∙ same_lev a.s _ _ a.v) ∙ ask_answer asks refl _ _ _ _ (ap not c.is_building.ensures) _ _ _ c.asked.ensures (ap due c.in_ok-asked.was)
