-- `c_calls::begin::welmocant_start` meets its contract.
-- Assumes nothing.
use native.Mathlib.Omega.{arith}
use Prim.Native.Nat.{ℕ}
use Rattle.state.specs.Start.{start_call}
use Rattle.c_calls.specs.Call.{c_start}
use Rattle.c_calls.specs.Laws.Steps.{begins_short, begins_long}
use Rattle.c_calls.proofs.begin.welmocant_start.Goals as goal

pub returns-then-state-lt-STATE : goal.returns-then-state-lt-STATE
unfolding c_start
returns-then-state-lt-STATE c =
    let a = c.args in begins_short _ _ _ _ c.wide.ensures c.wide-then-state-lt-STATE.ensures a.state.now a.frag.now a.held.now _ _ (omega arith) c.short.ensures

pub returns : goal.returns
unfolding c_start
returns c =
    let a = c.args in
    begins_long _ _ _ _ c.wide-2.ensures c.wide-3.ensures a.state.now a.frag.now a.held.now (λ (n k : ℕ). start_call n k a.frag.now a.held.now) (omega arith) _ _ c.start-started.result c.start-started.ensures _ c.end_state.ensures.begun
