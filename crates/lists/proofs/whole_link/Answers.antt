-- `lists::whole_link` meets its contract: what the reading and the test of a link promise, put together.
-- Assumes nothing.
use mathlib.Core.Path.{sym, ap, ◌∙◌}
use Rattle.std.proofs.lemmas.Result.{err_from_is_err_and}
use Rattle.numbers.specs.Answers.{due}
use Rattle.numbers.proofs.Unique.{number_some}
use Rattle.lists.specs.List.{placed}
use Rattle.lists.specs.Answers.{told_ends}
use Rattle.lists.specs.Laws.Link.{ends_of, ends_not_of, link_is_not}
use Rattle.lists.specs.Laws.Scan.{link_bad, link_good}
use Rattle.lists.proofs.whole_link.Goals as goal

pub returns-in_err-a : goal.returns-in_err-a
unfolding placed
returns-in_err-a c =
    let p = err_from_is_err_and c.from_residual.result c.from_residual.ensures.1 in
    rw (p.1, p.2) (sym (link_is_not _ _ (ends_not_of _ _ _ _ (sym c.ends_at.ensures ∙ ap told_ends c.in_err-a.was))))

pub returns-in_err-bad_link : goal.returns-in_err-bad_link
unfolding placed
returns-in_err-bad_link c =
    let p = err_from_is_err_and c.from_residual-in_err-bad_link.result c.from_residual-in_err-bad_link.ensures.1 in
    rw (p.1, p.2) (sym (link_bad _ _ (ends_of _ _ _ (sym c.ends_at.ensures ∙ ap told_ends c.in_ok-a.was)) _ (sym (ap due c.in_err-bad_link.was) ∙ c.bad_link.ensures) (number_some _)))

pub returns : goal.returns
unfolding placed
returns c = sym (link_good _ _ (ends_of _ _ _ (sym c.ends_at.ensures ∙ ap told_ends c.in_ok-a.was)) (sym c.bad_link.ensures ∙ ap due c.in_ok-bad_link.was))
