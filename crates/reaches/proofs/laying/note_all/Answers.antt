-- `reaches::laying::note_all` meets its contract.
-- Assumes nothing.
use Rattle.reaches.specs.Laws.Passes.{low_none, low_turn, low_all}
use native.Mathlib.Omega.{arith}
use Rattle.reaches.proofs.laying.note_all.Goals as goal

pub loop-v-init : goal.loop-v-init
loop-v-init c = low_none _ _

pub loop-v-preserved : goal.loop-v-preserved
loop-v-preserved c = low_turn c.requires.whole c.loop-v.invariant (omega arith) _ c.low_of.ensures

pub returns : goal.returns
returns c = low_all (omega arith) c.loop-v.invariant
