-- `c_calls::pass::welmocant_close` meets its contract.
-- Assumes nothing.
use native.Mathlib.Omega.{arith}
use Rattle.c_calls.specs.Call.{c_close}
use Rattle.c_calls.specs.Laws.Steps.{on_short, close_long}
use Rattle.c_calls.proofs.pass.welmocant_close.Goals as goal

pub returns-then-state-lt-STATE : goal.returns-then-state-lt-STATE
unfolding c_close
returns-then-state-lt-STATE c = on_short _ _ _ _ (omega arith)

pub returns : goal.returns
returns c =
    let a = c.args in close_long a.state.now a.frag.now a.held.now _ c.unpack-given.ensures (omega arith) _ _ c.close-closed.result c.close-closed.ensures _ c.end_close.ensures
