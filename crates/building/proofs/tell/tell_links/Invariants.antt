-- `building::tell::tell_links` meets its contract: what is left of the block leads to what the whole block leaves.
use Prim.Native.Nat.{◌-◌}
use lib.ListN.{length}
use Rattle.building.specs.Laws.Telling.{Midway}
use Rattle.building.proofs.tell.tell_links.Given as goal

abbrev pub invariant-loop-at : goal.invariant-loop-at
invariant-loop-at l = Midway l.n l.k l.first l.entries l.block l.initial.frag l.initial.held l.count l.frag l.held l.told l.at

abbrev pub decreases-loop-at : goal.decreases-loop-at
decreases-loop-at l = length l.block - l.at
