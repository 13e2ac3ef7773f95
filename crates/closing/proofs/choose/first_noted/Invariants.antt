-- `closing::choose::first_noted` meets its contract: no member below v has the note.
use Prim.Native.Nat.{◌-◌}
use Rattle.closing.specs.Laws.Members.{Along}
use Rattle.closing.specs.Laws.Choosing.{NoneNoted}
use Rattle.closing.proofs.choose.first_noted.Given as goal

abbrev pub invariant-loop-v : goal.invariant-loop-v
invariant-loop-v l = Along l.n l.p l.frag l.v × NoneNoted l.n l.frag l.p l.note l.v

abbrev pub decreases-loop-v : goal.decreases-loop-v
decreases-loop-v l = l.n - l.v
