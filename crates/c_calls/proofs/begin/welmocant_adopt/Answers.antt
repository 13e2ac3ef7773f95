-- `c_calls::begin::welmocant_adopt` meets its contract.
-- Assumes nothing.
use native.Mathlib.Omega.{arith}
use Prim.Native.Nat.{ℕ}
use Rattle.state.specs.Adopt.{adopt_call}
use Rattle.c_calls.specs.Call.{c_adopt}
use Rattle.c_calls.specs.Laws.Steps.{begins_short, begins_long}
use Rattle.c_calls.proofs.begin.welmocant_adopt.Goals as goal

pub returns-then-state-lt-STATE : goal.returns-then-state-lt-STATE
unfolding c_adopt
returns-then-state-lt-STATE c =
    let a = c.args in begins_short _ _ _ _ c.wide.ensures c.wide-then-state-lt-STATE.ensures a.state.now a.frag.now a.held.now _ _ (omega arith) c.short.ensures

pub returns : goal.returns
unfolding c_adopt
returns c =
    let a = c.args in
    begins_long _ _ _ _ c.wide-2.ensures c.wide-3.ensures a.state.now a.frag.now a.held.now (λ (n k : ℕ). adopt_call n k a.parents.now a.frag.now a.held.now) (omega arith) _ _ c.adopt-started.result c.adopt-started.ensures _ c.end_state.ensures.begun
