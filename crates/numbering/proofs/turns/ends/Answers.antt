-- `numbering::turns::ends` meets its contract.
-- Assumes nothing.
use native.Mathlib.Omega.{arith}
use mathlib.Core.Path.{refl}
use lib.ListN.{length-set}
use Rattle.numbering.specs.Laws.Ends.{ends_none, ends_turn_small, ends_turn, ends_all}
use Rattle.numbering.proofs.turns.ends.Goals as goal

pub loop-v-init : goal.loop-v-init
loop-v-init c = ends_none _ _

pub bounds-frag-n-in-loop-v-3 : goal.bounds-frag-n-in-loop-v-3
bounds-frag-n-in-loop-v-3 c = simp length-set (omega (arith, ends_turn_small c.requires c.loop-v.invariant (omega arith)))

pub loop-v-preserved : goal.loop-v-preserved
loop-v-preserved c = ends_turn c.requires c.loop-v.invariant (omega arith) _ refl

pub returns : goal.returns
returns c = ends_all (omega arith) c.loop-v.invariant
