-- `c_calls::questions::welmocant_cut` meets its contract.
-- Assumes nothing.
use native.Mathlib.Omega.{arith}
use Prim.Native.Nat.{ℕ}
use Rattle.state.specs.declared.State.{State}
use Rattle.state.specs.Ask.{cut_call}
use Rattle.c_words.specs.State.{mark_word}
use Rattle.c_calls.specs.Call.{c_cut}
use Rattle.c_calls.specs.Laws.Steps.{asks_short, judges_long}
use Rattle.c_calls.proofs.questions.welmocant_cut.Goals as goal

pub returns-then-state-lt-STATE : goal.returns-then-state-lt-STATE
unfolding c_cut
returns-then-state-lt-STATE c = asks_short mark_word c.args.state.now _ (omega arith)

pub returns : goal.returns
unfolding c_cut
returns c =
    let a = c.args in
    judges_long a.state.now (omega arith) _ _ _ c.unpack-s.ensures _ _ _ _ c.wide.ensures c.wide.ensures (λ (s : State) (u v : ℕ). cut_call s a.frag.now a.held.now v) c.cut-judged.result c.judge.ensures c.cut-judged.ensures
