-- `index::look` meets its contract: every slot on the way holds another word.
use Prim.Native.Nat.{◌≤◌, max}
use Rattle.index.specs.Index.{Way}
use Rattle.index.proofs.look.Given as goal

abbrev pub invariant-loop-i : goal.invariant-loop-i
invariant-loop-i l = (l.i ≤ max l.from l.end) × Way l.at l.size l.words l.w l.i
