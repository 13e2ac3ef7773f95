-- `reaches::sink::sink` meets its contract.
use Rattle.reaches.specs.Laws.Passes.{Sinking}
use Rattle.reaches.proofs.sink.sink.Given as goal

abbrev pub invariant-loop-turn : goal.invariant-loop-turn
invariant-loop-turn l = Sinking l.n l.base l.turn l.initial.frag l.frag
