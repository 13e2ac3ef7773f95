-- `lists::ends_at` meets its contract: what the two readings promise, put together.
-- Assumes nothing.
use mathlib.Core.Path.{sym, ap, ◌∙◌}
use Rattle.std.proofs.lemmas.Result.{err_from_is_err_and}
use Rattle.numbers.specs.Answers.{told}
use Rattle.lists.specs.Laws.Link.{ends_are, ends_are_not, no_first, no_second}
use Rattle.lists.proofs.ends_at.Goals as goal

pub returns-in_err-a : goal.returns-in_err-a
returns-in_err-a c =
    let p = err_from_is_err_and c.from_residual.result c.from_residual.ensures.1 in
    rw (p.1, p.2) (sym (ends_are_not (no_first (sym c.read_number.ensures ∙ ap told c.in_err-a.was))))

pub returns-in_err-b : goal.returns-in_err-b
returns-in_err-b c =
    let p = err_from_is_err_and c.from_residual-in_err-b.result c.from_residual-in_err-b.ensures.1 in
    rw (p.1, p.2) (sym (ends_are_not (no_second _ (sym c.read_number.ensures ∙ ap told c.in_ok-a.was) (sym c.read_number-2.ensures ∙ ap told c.in_err-b.was))))

pub returns : goal.returns
returns c =
    sym (ends_are (record { middle = _; first = (sym c.read_number.ensures ∙ ap told c.in_ok-a.was); second = (sym c.read_number-2.ensures ∙ ap told c.in_ok-b.was) }))
