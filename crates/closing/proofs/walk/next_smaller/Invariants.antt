-- `closing::walk::next_smaller` meets its contract: each that it goes past is placed.
use Rattle.closing.specs.Walk.{Smaller}
use Rattle.closing.proofs.walk.next_smaller.Given as goal

abbrev pub invariant-loop-i : goal.invariant-loop-i
invariant-loop-i l = Smaller l.n l.frag l.held l.v l.i
