-- `testing::refusals::head` meets its contract: each answer is a lemma of the ladder.
-- Assumes nothing.
use mathlib.Core.Path.{sym, ap, ◌∙◌}
use Rattle.std.proofs.lemmas.Result.{err_from_is_err_and}
use Rattle.numbers.specs.Answers.{due}
use Rattle.numbers.proofs.Unique.{number_some}
use Rattle.state.proofs.Laws.Bounds.{bounds_known}
use Rattle.testing.specs.Laws.Head.{due_bounds, due_stage, due_tables, due_none}
use Rattle.testing.proofs.refusals.head.Goals as goal

pub returns-in_err-bounds : goal.returns-in_err-bounds
returns-in_err-bounds c =
    let p = err_from_is_err_and c.from_residual.result c.from_residual.ensures.1 in
    rw (p.1, p.2) (due_bounds _ _ _ _ _ (sym (ap due c.in_err-bounds.was) ∙ c.bounds.ensures) (number_some _))

pub returns-then-not-allowed : goal.returns-then-not-allowed
returns-then-not-allowed c = due_stage _ _ _ _ _ c.bounds.ensures (ap due c.in_ok-bounds.was) (c.if-not-allowed.true)

pub but_links-requires : goal.but_links-requires
but_links-requires c = bounds_known _ _ _ _ (sym c.bounds.ensures ∙ ap due c.in_ok-bounds.was)

pub returns-then-not-but_links : goal.returns-then-not-but_links
returns-then-not-but_links c = due_tables _ _ _ _ _ c.bounds.ensures (ap due c.in_ok-bounds.was) (c.if-not-allowed.false) (sym (c.if-not-but_links.true) ∙ c.but_links.ensures)

pub returns : goal.returns
returns c = due_none _ _ _ _ _ c.bounds.ensures (ap due c.in_ok-bounds.was) (c.if-not-allowed.false) (sym (c.if-not-but_links.false) ∙ c.but_links.ensures)
