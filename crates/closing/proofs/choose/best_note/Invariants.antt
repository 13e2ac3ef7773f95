-- `closing::choose::best_note` meets its contract: at each member it has the best note of those below.
use Prim.Native.Nat.{◌≤◌, ◌-◌}
use Rattle.closing.specs.Laws.Members.{Along}
use Rattle.closing.specs.Laws.Choosing.{BestNote}
use Rattle.closing.proofs.choose.best_note.Given as goal

abbrev pub invariant-loop-v : goal.invariant-loop-v
invariant-loop-v l = Along l.n l.p l.frag l.v × BestNote l.n l.frag l.p l.best l.v × (l.best ≤ l.n)

abbrev pub decreases-loop-v : goal.decreases-loop-v
decreases-loop-v l = l.n - l.v
