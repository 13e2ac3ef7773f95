-- `parts::open` meets its contract.
-- Assumes nothing.
use Rattle.numbers.specs.Answers.{told}
use Rattle.std.proofs.Common.{sym, ap, ◌∙◌, arith, length-take-le}
use Rattle.std.proofs.lemmas.Result.{err_from_is_err_and}
use Rattle.parts.specs.Steps.{open_short, header_within, open_read, open_bad}
use Rattle.parts.proofs.open.Goals as goal

pub returns-then-buffer-len : goal.returns-then-buffer-len
returns-then-buffer-len c = rw (c.from.ensures.0, c.from.ensures.1) (open_short _ _ (omega arith))

pub slice_bounds-read_number-end-2 : goal.slice_bounds-read_number-end-2
slice_bounds-read_number-end-2 c = sym (length-take-le c.args.len _ (omega arith))

pub carry-requires : goal.carry-requires
carry-requires c = (header_within c.args.len _ (omega arith) _ (sym c.read_number.ensures ∙ ap told c.in_ok-n.was), omega arith)

pub overflow_sub-result : goal.overflow_sub-result
overflow_sub-result c = header_within c.args.len _ (omega arith) _ (sym c.read_number.ensures ∙ ap told c.in_ok-n.was)

pub returns : goal.returns
returns c = open_read c.args.len _ (omega arith) _ _ (sym c.read_number.ensures ∙ ap told c.in_ok-n.was) c.carry.ensures

pub returns-in_err-n : goal.returns-in_err-n
returns-in_err-n c =
    let p = err_from_is_err_and c.from_residual.result c.from_residual.ensures.1 in
    rw (p.1, p.2.0, p.2.1) (open_bad c.args.len _ (omega arith) _ _ (sym c.read_number.ensures ∙ ap told c.in_err-n.was))
