-- `closing::closing::label_all` meets its contract: after v turns the fragments below v have their labels.
use Rattle.closing.specs.Laws.Ending.{Labelling}
use Rattle.closing.proofs.closing.label_all.Given as goal

abbrev pub invariant-loop-v : goal.invariant-loop-v
invariant-loop-v l = Labelling l.n l.initial.frag l.v l.frag
