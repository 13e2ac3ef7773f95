-- `closing::closing::label_all` meets its contract: after v turns the fragments below v have their labels.
-- Assumes nothing.
use native.Mathlib.Omega.{arith}
use Rattle.closing.specs.Laws.Ending.{labelling_none, labelling_more, labelling_all}
use Rattle.closing.proofs.closing.label_all.Goals as goal

pub loop-v-init : goal.loop-v-init
loop-v-init c = labelling_none _ _

pub loop-v-preserved : goal.loop-v-preserved
loop-v-preserved c =
    let l = c.loop-v in
    labelling_more c.requires l.invariant (omega arith) _ c.next_or.ensures

pub returns : goal.returns
returns c = labelling_all c.requires c.loop-v.invariant (omega arith)
