-- `differing::refusals::head_but_quota` meets its contract: one law for each answer.
-- Assumes nothing.
use mathlib.Core.Path.{refl, sym, ap, ◌∙◌}
use Rattle.std.proofs.lemmas.Result.{err_from_is_err_and}
use Rattle.numbers.specs.Answers.{due}
use Rattle.numbers.proofs.Unique.{number_some}
use Rattle.testing.specs.Laws.Head.{head_known}
use Rattle.differing.specs.Laws.Links.{headed_lookable}
use Rattle.differing.specs.Laws.Head.{quota_due, quota_links, quota_none}
use Rattle.differing.proofs.refusals.head_but_quota.Goals as goal

pub returns-in_err-head : goal.returns-in_err-head
returns-in_err-head c =
    let p = err_from_is_err_and c.from_residual.result c.from_residual.ensures.1 in
    rw (p.1, p.2) (quota_due _ _ _ _ c.is_building.ensures _ (sym (ap due c.in_err-head.was) ∙ c.head.ensures) (number_some _), refl)

pub links_differ-requires : goal.links_differ-requires
links_differ-requires c = headed_lookable c.is_building.ensures (head_known _ _ _ _ (sym c.head.ensures ∙ ap due c.in_ok-head.was))

pub returns-then-not-links_differ : goal.returns-then-not-links_differ
returns-then-not-links_differ c =
    let h = c.head.ensures in
    let t = c.links_differ.ensures in
    (quota_links _ _ _ _ c.is_building.ensures _ h (ap due c.in_ok-head.was) (sym (c.if-not-links_differ.true) ∙ t.0), t.1)

pub returns : goal.returns
returns c =
    let h = c.head.ensures in
    let t = c.links_differ.ensures in
    (quota_none _ _ _ _ c.is_building.ensures _ h (ap due c.in_ok-head.was) (sym (c.if-not-links_differ.false) ∙ t.0), t.1)
