-- `reaches::sink::fall` meets its contract.
-- Assumes nothing.
use Rattle.reaches.specs.Laws.Passes.{falling_none, falling_next, falling_fit, falling_turn, falling_all}
use native.Mathlib.Omega.{arith}
use Rattle.reaches.proofs.sink.fall.Goals as goal

pub loop-i-init : goal.loop-i-init
loop-i-init c = falling_none _ _ c.requires

pub fall_one-requires : goal.fall_one-requires
fall_one-requires c =
    let l = c.loop-i in let p = c.requires in (falling_fit p l.invariant, omega (arith, c.wide-v.ensures.says, falling_next p l.invariant l.i (omega arith)))

pub loop-i-preserved : goal.loop-i-preserved
loop-i-preserved c = falling_turn c.requires c.loop-i.invariant (omega arith) _ c.wide-v.ensures.says _ c.fall_one.ensures

pub returns : goal.returns
returns c = falling_all (omega arith) c.loop-i.invariant
