-- `reading::tell::tell` meets its contract: what is left to read from here gives the whole.
use Prim.Native.Nat.{◌-◌}
use lib.ListN.{length}
use Rattle.reading.specs.Laws.Tell.{Telling}
use Rattle.reading.proofs.tell.tell.Given as goal

abbrev pub invariant-loop-at : goal.invariant-loop-at
invariant-loop-at l = Telling l.n l.entries l.block l.crossed l.initial.frag l.told l.at l.crosses l.frag

abbrev pub decreases-loop-at : goal.decreases-loop-at
decreases-loop-at l = length l.block - l.at
