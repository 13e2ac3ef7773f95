-- `reaches::sink::fall` meets its contract.
use Rattle.reaches.specs.Laws.Passes.{Falling}
use Rattle.reaches.proofs.sink.fall.Given as goal

abbrev pub invariant-loop-i : goal.invariant-loop-i
invariant-loop-i l = Falling l.n l.i l.initial.frag l.frag
