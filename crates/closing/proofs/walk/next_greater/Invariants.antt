-- `closing::walk::next_greater` meets its contract: each that it goes past is placed, and the next one is greater.
use Rattle.closing.specs.Laws.Seeking.{Moves}
use Prim.Native.Nat.{◌+◌, ◌-◌}
use Rattle.closing.proofs.walk.next_greater.Given as goal

abbrev pub invariant-loop-g : goal.invariant-loop-g
invariant-loop-g l = Moves l.n l.v l.frag l.held l.g

abbrev pub decreases-loop-g : goal.decreases-loop-g
decreases-loop-g l = l.n + 1 - l.g
