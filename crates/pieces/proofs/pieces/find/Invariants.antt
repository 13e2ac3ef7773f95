-- `pieces::pieces::find` meets its contract: what is left of the way ends where the whole does, and each turn goes to a smaller fragment.
use Rattle.pieces.specs.Laws.Ways.{Going}
use Rattle.pieces.proofs.pieces.find.Given as goal

abbrev pub invariant-loop-n : goal.invariant-loop-n
invariant-loop-n l = Going l.n l.v l.initial.frag l.u l.frag

abbrev pub decreases-loop-n : goal.decreases-loop-n
decreases-loop-n l = l.u
