-- `reaches::laying::note_all` meets its contract.
use Rattle.reaches.specs.Passes.{Low}
use Rattle.reaches.proofs.laying.note_all.Given as goal

abbrev pub invariant-loop-v : goal.invariant-loop-v
invariant-loop-v l = Low l.n l.v l.initial.frag l.frag
