-- `numbering::turns::count_passed` meets its contract.
-- Assumes nothing.
use native.Mathlib.Omega.{arith}
use lib.ListN.{length-set}
use Rattle.numbering.specs.Laws.Passed.{passing_none, passing_whole, seat_small, size_small, passing_turn, passing_all}
use Rattle.numbering.proofs.turns.count_passed.Goals as goal

pub loop-v-init : goal.loop-v-init
loop-v-init c = passing_none _ _ c.requires

pub seat-s-requires : goal.seat-s-requires
seat-s-requires c = (passing_whole c.requires c.loop-v.invariant, omega arith)

pub overflow_add-frag-in-loop-v : goal.overflow_add-frag-in-loop-v
overflow_add-frag-in-loop-v c =
    let p = c.requires in let k = c.loop-v.invariant in let e = c.seat-s.ensures in omega (arith, seat_small p k (omega arith) _ e.1 e.2, size_small p k (omega arith), p.whole.few)

pub overflow_add-frag-in-loop-v-2 : goal.overflow_add-frag-in-loop-v-2
overflow_add-frag-in-loop-v-2 c =
    let p = c.requires in let k = c.loop-v.invariant in let e = c.seat-s.ensures in omega (arith, seat_small p k (omega arith) _ e.1 e.2, size_small p k (omega arith), p.whole.few)

pub bounds-frag-s-in-loop-v : goal.bounds-frag-s-in-loop-v
bounds-frag-s-in-loop-v c = simp length-set (omega arith)

pub loop-v-preserved : goal.loop-v-preserved
loop-v-preserved c = let e = c.seat-s.ensures in passing_turn c.requires c.loop-v.invariant (omega arith) _ e.0 e.1 e.2

pub returns : goal.returns
returns c = passing_all (omega arith) c.loop-v.invariant
