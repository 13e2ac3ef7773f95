-- `writing::write_list` meets its contract: what the size and the bytes put promise, put together.
-- Assumes nothing.
use mathlib.Core.Path.{refl, sym, ap, ◌∙◌}
use Rattle.std.proofs.lemmas.Result.{err_from_is_err_and}
use Rattle.numbers.specs.Answers.{told_end}
use Rattle.writing.specs.Laws.Steps.{write_short, write_room, write_done, write_refused}
use Rattle.writing.proofs.write_list.Goals as goal

pub returns-in_err-size : goal.returns-in_err-size
returns-in_err-size c =
    let p = err_from_is_err_and c.from_residual.result c.from_residual.ensures.1 in
    rw (p.1, p.2) (write_refused _ _ _ _ _ (sym c.list_size.ensures ∙ ap told_end c.in_err-size.was))

pub returns-then-buffer-size : goal.returns-then-buffer-size
returns-then-buffer-size c = write_short _ _ _ _ (sym c.list_size.ensures ∙ ap told_end c.in_ok-size.was) c.if-buffer-size.true _ refl

pub put_list-requires : goal.put_list-requires
put_list-requires c = write_room _ _ _ _ (sym c.list_size.ensures ∙ ap told_end c.in_ok-size.was) c.if-buffer-size.false

pub returns : goal.returns
returns c = write_done _ _ _ _ (sym c.list_size.ensures ∙ ap told_end c.in_ok-size.was) c.if-buffer-size.false _ c.put_list.ensures
