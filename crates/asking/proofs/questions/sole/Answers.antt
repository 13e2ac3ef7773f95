-- `asking::questions::sole` meets its contract: refused, the same, or judged by the child's reach.
-- Assumes nothing.
use mathlib.Core.Path.{refl, sym, ap, ◌∙◌}
use native.Mathlib.Omega.{arith}
use Rattle.std.proofs.lemmas.Result.{err_from_is_err_and}
use Rattle.numbers.specs.Answers.{due}
use Rattle.numbers.proofs.Unique.{number_some, refused_is}
use Rattle.base.specs.Answer.{gives}
use Rattle.state.specs.Ask.{sole_call}
use Rattle.state.specs.Test.{is_read}
use Rattle.asking.specs.Laws.Asked.{head_numbered, ask_passed, both_refused, both_same, both_answer, same_sole}
use Rattle.asking.proofs.questions.sole.Goals as goal

pub returns-in_err-asked : goal.returns-in_err-asked
unfolding sole_call
returns-in_err-asked c =
    let a = c.args in
    let p = err_from_is_err_and c.from_residual.result c.from_residual.ensures.1 in
    rw (p.1, p.2.0, p.2.1) (both_refused is_read refl _ _ _ _ c.is_read.ensures _ a.a a.b _ c.max.ensures _ (sym (ap due c.in_err-asked.was) ∙ c.asked.ensures) (number_some _))

pub returns-then-a-b : goal.returns-then-a-b
unfolding sole_call
returns-then-a-b c =
    let a = c.args in
    refused_is _ _ _ c.from.ensures ∙ both_same is_read refl _ _ _ _ c.is_read.ensures _ a.a a.b _ c.max.ensures _ c.asked.ensures (ap due c.in_ok-asked.was) c.if-a-b.true

pub is_sole-requires : goal.is_sole-requires
is_sole-requires c =
    let p = ask_passed _ _ _ _ _ (sym c.asked.ensures ∙ ap due c.in_ok-asked.was) in (head_numbered _ _ _ _ _ c.is_read.ensures refl p.0, omega arith, omega arith)

pub returns : goal.returns
unfolding sole_call
returns c =
    let a = c.args in
    ap gives (c.is_sole.ensures ∙ same_sole a.s _ _ a.a a.b) ∙ both_answer is_read refl _ _ _ _ c.is_read.ensures _ a.a a.b _ c.max.ensures _ c.asked.ensures (ap due c.in_ok-asked.was) c.if-a-b.false
