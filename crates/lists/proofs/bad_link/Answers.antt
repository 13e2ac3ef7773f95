-- `lists::bad_link` meets its contract: each answer by its tests.
-- Assumes nothing.
use mathlib.Core.Path.{sym, ap, ◌∙◌}
use native.Mathlib.Omega.{arith}
use Rattle.std.proofs.lemmas.Result.{err_from_is_err_and}
use Rattle.numbers.specs.Answers.{due}
use Rattle.numbers.proofs.Unique.{number_some}
use Rattle.lists.specs.Laws.Scan.{link_ends, link_twelve, link_none}
use Rattle.lists.proofs.bad_link.Goals as goal

pub returns-in_err-bad_ends : goal.returns-in_err-bad_ends
returns-in_err-bad_ends c =
    let p = err_from_is_err_and c.from_residual.result c.from_residual.ensures.1 in
    rw (p.1, p.2) (link_ends _ _ _ _ _ (sym (ap due c.in_err-bad_ends.was) ∙ c.bad_ends.ensures) (number_some _))

pub returns-then-entries-ge-ENTRIES_MOST : goal.returns-then-entries-ge-ENTRIES_MOST
returns-then-entries-ge-ENTRIES_MOST c = link_twelve _ _ _ _ (sym c.bad_ends.ensures ∙ ap due c.in_ok-bad_ends.was) (omega arith)

pub returns : goal.returns
returns c = link_none _ _ _ _ (sym c.bad_ends.ensures ∙ ap due c.in_ok-bad_ends.was) (omega arith)
