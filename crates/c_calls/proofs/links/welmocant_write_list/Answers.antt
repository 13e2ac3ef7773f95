-- `c_calls::links::welmocant_write_list` meets its contract.
-- Assumes nothing.
use Rattle.c_calls.specs.Laws.Lists.{write_end, write_refused}
use Rattle.c_calls.proofs.links.welmocant_write_list.Goals as goal

pub returns-in-Ok : goal.returns-in-Ok
returns-in-Ok c = write_end _ _ c.args.buffer.now _ _ c.write_list.ensures _ c.in-Ok.is

pub returns-in-Err : goal.returns-in-Err
returns-in-Err c = rw c.number.ensures (write_refused _ _ c.args.buffer.now _ _ c.write_list.ensures _ c.in-Err.is)
