-- `c_calls::questions::welmocant_piece` meets its contract.
-- Assumes nothing.
use native.Mathlib.Omega.{arith}
use Prim.Native.Nat.{ℕ}
use mathlib.Core.Path.{refl}
use Rattle.state.specs.declared.State.{State}
use Rattle.state.specs.Ask.{piece_call}
use Rattle.c_calls.specs.Call.{c_piece, itself}
use Rattle.c_calls.specs.Laws.Steps.{asks_short, tells_long}
use Rattle.c_calls.proofs.questions.welmocant_piece.Goals as goal

pub returns-then-state-lt-STATE : goal.returns-then-state-lt-STATE
unfolding c_piece
returns-then-state-lt-STATE c = (asks_short itself c.args.state.now _ (omega arith), refl)

pub returns : goal.returns
unfolding c_piece
returns c =
    let a = c.args in
    let k = c.piece-asked.ensures in
    let e = c.wide.ensures in
    (tells_long a.state.now (omega arith) _ _ _ c.unpack-s.ensures _ _ _ _ e e (λ (s : State) (v : ℕ). piece_call s a.frag.now a.held.now v) c.piece-asked.result c.tell.ensures k.0, k.1)
