-- `reaches::laying::own_all` meets its contract.
-- Assumes nothing.
use Rattle.reaches.specs.Laws.Passes.{own_none, own_turn, own_all}
use native.Mathlib.Omega.{arith}
use Rattle.reaches.proofs.laying.own_all.Goals as goal

pub loop-v-init : goal.loop-v-init
loop-v-init c = own_none _ _

pub loop-v-preserved : goal.loop-v-preserved
loop-v-preserved c = own_turn c.requires.whole c.loop-v.invariant (omega arith)

pub returns : goal.returns
returns c = own_all (omega arith) c.loop-v.invariant
