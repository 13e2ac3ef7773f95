-- `closing::choose::is_lost` meets its contract: no member below v carries a mark.
use Prim.Native.Nat.{◌-◌}
use Rattle.closing.specs.Laws.Members.{Along}
use Rattle.closing.specs.Laws.Choosing.{NoneMarked}
use Rattle.closing.proofs.choose.is_lost.Given as goal

abbrev pub invariant-loop-v : goal.invariant-loop-v
invariant-loop-v l = Along l.n l.p l.frag l.v × NoneMarked l.n l.frag l.p l.v

abbrev pub decreases-loop-v : goal.decreases-loop-v
decreases-loop-v l = l.n - l.v
