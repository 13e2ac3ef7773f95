-- `lists::cut` meets its contract: the cut is the same from every link on.
use mathlib.Core.Path.{◌≡◌}
use Prim.Native.Nat.{◌-◌}
use lib.ListN.{length}
use Rattle.lists.specs.List.{cut_at, cut_block}
use Rattle.lists.proofs.cut.Given as goal

abbrev pub invariant-loop-next : goal.invariant-loop-next
invariant-loop-next l = cut_at l.part l.at ≡ cut_block l.part

abbrev pub decreases-loop-next : goal.decreases-loop-next
decreases-loop-next l = length l.part - l.at
