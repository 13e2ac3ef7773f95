-- `reaches::judge::mark_soles` meets its contract.
-- Assumes nothing.
use Rattle.reaches.specs.Laws.Judged.{soles_none, soles_fit, soles_turn, soles_all}
use native.Mathlib.Omega.{arith}
use Rattle.reaches.proofs.judge.mark_soles.Goals as goal

pub loop-v-init : goal.loop-v-init
loop-v-init c = soles_none _ _

pub sole_word-requires : goal.sole_word-requires
sole_word-requires c = (soles_fit c.requires c.loop-v.invariant, omega arith)

pub loop-v-preserved : goal.loop-v-preserved
loop-v-preserved c = soles_turn c.requires c.loop-v.invariant (omega arith) _ c.sole_word.ensures

pub returns : goal.returns
returns c = soles_all (omega arith) c.loop-v.invariant
