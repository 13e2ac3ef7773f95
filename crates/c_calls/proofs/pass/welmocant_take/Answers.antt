-- `c_calls::pass::welmocant_take` meets its contract.
-- Assumes nothing.
use native.Mathlib.Omega.{arith}
use Rattle.state.specs.declared.State.{State}
use Rattle.state.specs.Take.{take_call}
use Rattle.c_calls.specs.Call.{c_take}
use Rattle.c_calls.specs.Laws.Steps.{on_short, take_long}
use Rattle.c_calls.proofs.pass.welmocant_take.Goals as goal

pub returns-then-state-lt-STATE : goal.returns-then-state-lt-STATE
unfolding c_take
returns-then-state-lt-STATE c = on_short _ _ _ _ (omega arith)

pub returns : goal.returns
unfolding c_take
returns c =
    let a = c.args in
    take_long a.state.now a.frag.now a.held.now (λ (s : State). take_call s a.frag.now a.held.now a.block.now) _ _ c.unpack-given.ensures (omega arith) _ _ c.take-taken.result c.take-taken.ensures _ c.end_take.ensures
