-- `c_calls::questions::welmocant_parent` meets its contract.
-- Assumes nothing.
use native.Mathlib.Omega.{arith}
use Prim.Native.Nat.{ℕ}
use Rattle.state.specs.declared.State.{State}
use Rattle.state.specs.Ask.{parent_call}
use Rattle.c_calls.specs.Call.{c_parent, itself}
use Rattle.c_calls.specs.Laws.Steps.{asks_short, tells_long}
use Rattle.c_calls.proofs.questions.welmocant_parent.Goals as goal

pub returns-then-state-lt-STATE : goal.returns-then-state-lt-STATE
unfolding c_parent
returns-then-state-lt-STATE c = asks_short itself c.args.state.now _ (omega arith)

pub returns : goal.returns
unfolding c_parent
returns c =
    let a = c.args in
    tells_long a.state.now (omega arith) _ _ _ c.unpack-s.ensures _ _ _ _ c.wide.ensures c.wide.ensures (λ (s : State) (v : ℕ). parent_call s a.frag.now a.held.now v) c.parent-asked.result c.tell.ensures c.parent-asked.ensures
