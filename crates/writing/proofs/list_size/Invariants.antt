-- `writing::list_size` meets its contract: the size so far and the pairs from `a-index` on give the whole answer.
use Prim.Native.Nat.{◌*◌}
use Rattle.writing.specs.Laws.Steps.{Sizing}
use Rattle.writing.proofs.list_size.Given as goal

abbrev pub invariant-loop-a : goal.invariant-loop-a
invariant-loop-a l = Sizing l.n l.words (2 * l.a-index) l.size
