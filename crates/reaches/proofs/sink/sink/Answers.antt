-- `reaches::sink::sink` meets its contract.
-- Assumes nothing.
use Prim.Native.Nat.{◌-◌}
use Rattle.reaches.specs.Laws.Passes.{sinking_none, sinking_next, sinking_fit, sinking_again, sinking_all}
use native.Mathlib.Omega.{arith}
use Rattle.reaches.proofs.sink.sink.Goals as goal

pub loop-turn-init : goal.loop-turn-init
loop-turn-init c = sinking_none _ _ _ c.requires

pub sink_one-requires : goal.sink_one-requires
sink_one-requires c =
    let l = c.loop-turn in let p = c.requires in (sinking_fit p l.invariant, omega (arith, c.wide-v.ensures.says, sinking_next p l.invariant (l.turn - 1) (omega arith)))

pub loop-turn-preserved : goal.loop-turn-preserved
loop-turn-preserved c = sinking_again c.requires c.loop-turn.invariant _ (omega arith) (omega arith) _ c.wide-v.ensures.says _ c.sink_one.ensures

pub returns : goal.returns
returns c = sinking_all c.requires (omega arith) c.loop-turn.invariant
