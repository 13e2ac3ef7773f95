-- `closing::path::copy_members` meets its contract: at each member those below are copied.
use Prim.Native.Nat.{◌-◌}
use Rattle.closing.specs.Closing.{Copies}
use Rattle.closing.specs.Laws.Members.{Along}
use Rattle.closing.proofs.path.copy_members.Given as goal

abbrev pub invariant-loop-v : goal.invariant-loop-v
invariant-loop-v l = Along l.n l.p l.initial.frag l.v × Copies l.n l.p l.from l.to l.v l.initial.frag l.frag

abbrev pub decreases-loop-v : goal.decreases-loop-v
decreases-loop-v l = l.n - l.v
