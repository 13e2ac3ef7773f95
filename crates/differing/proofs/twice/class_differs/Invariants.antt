-- `differing::twice::class_differs` meets its contract: batch by batch, the words of the class before it stand nowhere else.
use Prim.Native.Nat.{◌-◌}
use Rattle.differing.specs.Laws.Batches.{Compared}
use Rattle.differing.proofs.twice.class_differs.Given as goal

abbrev pub invariant-loop-base : goal.invariant-loop-base
invariant-loop-base l = Compared l.n l.count l.base l.c.number l.c.of l.initial.frag l.frag l.held

abbrev pub decreases-loop-base : goal.decreases-loop-base
decreases-loop-base l = l.count - l.base
