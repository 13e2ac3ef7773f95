-- `asking::questions::cut` meets its contract: refused, or judged by its children.
-- Assumes nothing.
use mathlib.Core.Path.{refl, sym, ap, ◌∙◌}
use Rattle.std.proofs.lemmas.Result.{err_from_is_err_and}
use Rattle.numbers.specs.Answers.{due}
use Rattle.numbers.proofs.Unique.{number_some}
use Rattle.base.specs.Answer.{gives}
use Rattle.state.specs.Ask.{cut_call}
use Rattle.state.specs.Test.{is_read}
use Rattle.asking.specs.Laws.Asked.{head_numbered, ask_passed, ask_refused, ask_answer, same_cut}
use Rattle.asking.proofs.questions.cut.Goals as goal

pub returns-in_err-asked : goal.returns-in_err-asked
unfolding cut_call
returns-in_err-asked c =
    let p = err_from_is_err_and c.from_residual.result c.from_residual.ensures.1 in
    rw (p.1, p.2.0, p.2.1) (ask_refused is_read refl _ _ _ _ c.is_read.ensures _ _ _ (sym (ap due c.in_err-asked.was) ∙ c.asked.ensures) (number_some _))

pub is_cut-requires : goal.is_cut-requires
is_cut-requires c =
    let p = ask_passed _ _ _ _ _ (sym c.asked.ensures ∙ ap due c.in_ok-asked.was) in (head_numbered _ _ _ _ _ c.is_read.ensures refl p.0, p.1)

pub returns : goal.returns
unfolding cut_call
returns c =
    let a = c.args in
    ap gives (c.is_cut.ensures ∙ same_cut a.s _ _ a.v) ∙ ask_answer is_read refl _ _ _ _ c.is_read.ensures _ _ _ c.asked.ensures (ap due c.in_ok-asked.was)
