-- `closing::members::size_of` meets its contract: at each member those below are counted.
use Prim.Native.Nat.{◌-◌}
use Rattle.closing.specs.Laws.Members.{Along}
use Rattle.closing.specs.Laws.Choosing.{Counted}
use Rattle.closing.proofs.members.size_of.Given as goal

abbrev pub invariant-loop-v : goal.invariant-loop-v
invariant-loop-v l = Along l.n l.p l.frag l.v × Counted l.n l.frag l.p l.size l.v

abbrev pub decreases-loop-v : goal.decreases-loop-v
decreases-loop-v l = l.n - l.v
