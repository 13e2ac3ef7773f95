-- `lists::read_list` meets its contract: what the header and the scan promise, put together.
-- Assumes nothing.
use mathlib.Core.Path.{sym, ap, ◌∙◌}
use Rattle.std.proofs.lemmas.Result.{err_from_is_err_and}
use Rattle.numbers.specs.Answers.{told}
use Rattle.numbers.proofs.Unique.{refused_is}
use Rattle.lists.specs.Answers.{told_count}
use Rattle.lists.specs.Laws.File.{file_header, file_size, file_list, file_bad}
use Rattle.lists.proofs.read_list.Goals as goal

pub returns-then-bad_size : goal.returns-then-bad_size
returns-then-bad_size c =
    refused_is _ _ _ c.from.ensures ∙ file_size _ _ _ (sym c.read_number.ensures ∙ ap told c.in_ok-n.was) (sym c.bad_size.ensures ∙ c.if-bad_size.true)

pub returns-in_err-n : goal.returns-in_err-n
returns-in_err-n c =
    let p = err_from_is_err_and c.from_residual.result c.from_residual.ensures.1 in
    rw p.1 (refused_is _ _ _ p.2 ∙ file_header _ _ _ (sym c.read_number.ensures ∙ ap told c.in_err-n.was))

pub returns-in_err-count : goal.returns-in_err-count
returns-in_err-count c =
    let p = err_from_is_err_and c.from_residual-in_err-count.result c.from_residual-in_err-count.ensures.1 in
    rw (p.1, p.2) (file_bad _ _ _ (sym c.read_number.ensures ∙ ap told c.in_ok-n.was) (sym c.bad_size.ensures ∙ c.if-bad_size.false) _ _ (sym c.scan_from.ensures ∙ ap told_count c.in_err-count.was))

pub returns : goal.returns
returns c =
    file_list _ _ _ (sym c.read_number.ensures ∙ ap told c.in_ok-n.was) (sym c.bad_size.ensures ∙ c.if-bad_size.false) _ (sym c.scan_from.ensures ∙ ap told_count c.in_ok-count.was)
