-- `c_calls::pass::welmocant_open_reading` meets its contract.
-- Assumes nothing.
use native.Mathlib.Omega.{arith}
use Rattle.state.specs.declared.State.{State}
use Rattle.state.specs.Close.{open_call}
use Rattle.c_calls.specs.Call.{c_open}
use Rattle.c_calls.specs.Laws.Steps.{on_short, open_long}
use Rattle.c_calls.proofs.pass.welmocant_open_reading.Goals as goal

pub returns-then-state-lt-STATE : goal.returns-then-state-lt-STATE
unfolding c_open
returns-then-state-lt-STATE c = on_short _ _ _ _ (omega arith)

pub returns : goal.returns
unfolding c_open
returns c =
    let a = c.args in
    open_long a.state.now a.frag.now a.held.now (λ (s : State). open_call s a.frag.now a.held.now) _ _ c.unpack-given.ensures (omega arith) _ _ c.open_reading-taken.result c.open_reading-taken.ensures _ c.end_state.ensures.opened
