-- `differing::twice::none_noted` meets its contract: none of the words of the class looked up so far is noted.
use Rattle.differing.specs.Laws.Batches.{Missed}
use Rattle.differing.proofs.twice.none_noted.Given as goal

abbrev pub invariant-loop-i : goal.invariant-loop-i
invariant-loop-i l = Missed l.at l.size l.c.number l.c.of l.frag l.held l.from l.i
