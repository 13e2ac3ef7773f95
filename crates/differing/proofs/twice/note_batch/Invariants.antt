-- `differing::twice::note_batch` meets its contract: the words of the class so far are noted, and each finds an empty slot.
use Rattle.differing.specs.Batches.{Batch}
use Rattle.index.specs.Index.{Outside}
use Rattle.differing.proofs.twice.note_batch.Given as goal

abbrev pub invariant-loop-i : goal.invariant-loop-i
invariant-loop-i l = Batch l.at l.size l.from l.i l.c.number l.c.of l.frag l.held × Outside l.at l.size l.initial.frag l.frag
