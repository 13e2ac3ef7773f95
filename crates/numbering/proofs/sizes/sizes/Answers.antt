-- `numbering::sizes::sizes` meets its contract.
-- Assumes nothing.
use Prim.Native.Nat.{◌-◌}
use Rattle.numbering.specs.Laws.Sizes.{growing_none, growing_next, growing_whole, growing_small, growing_again, growing_all}
use native.Mathlib.Omega.{arith}
use Rattle.numbering.proofs.sizes.sizes.Goals as goal

pub loop-i-init : goal.loop-i-init
loop-i-init c = growing_none _ _ c.requires

pub grow_one-requires : goal.grow_one-requires
grow_one-requires c =
    let l = c.loop-i in let p = c.requires in (growing_whole p l.invariant, growing_small p l.invariant, omega (arith, c.wide-v.ensures.says, growing_next p l.invariant (l.i - 1) (omega arith)))

pub loop-i-preserved : goal.loop-i-preserved
loop-i-preserved c = growing_again c.requires c.loop-i.invariant _ (omega arith) (omega arith) _ c.wide-v.ensures.says _ c.grow_one.ensures

pub returns : goal.returns
returns c = growing_all c.requires (omega arith) c.loop-i.invariant
