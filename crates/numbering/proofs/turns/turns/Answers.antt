-- `numbering::turns::turns` meets its contract.
-- Assumes nothing.
use Rattle.numbering.specs.Laws.Turns.{turning_none, turning_next, turning_whole, turning_small, turning_turn, turning_all}
use native.Mathlib.Omega.{arith}
use Rattle.numbering.proofs.turns.turns.Goals as goal

pub loop-i-init : goal.loop-i-init
loop-i-init c = turning_none _ _ c.requires

pub turn_one-requires : goal.turn_one-requires
turn_one-requires c =
    let l = c.loop-i in let p = c.requires in (turning_whole p l.invariant, turning_small p l.invariant, omega (arith, c.wide-v.ensures.says, turning_next p l.invariant l.i (omega arith)))

pub loop-i-preserved : goal.loop-i-preserved
loop-i-preserved c = turning_turn c.requires c.loop-i.invariant (omega arith) _ c.wide-v.ensures.says _ c.turn_one.ensures

pub returns : goal.returns
returns c = turning_all (omega arith) c.loop-i.invariant
