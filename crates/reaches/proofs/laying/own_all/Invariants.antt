-- `reaches::laying::own_all` meets its contract.
use Rattle.reaches.specs.Passes.{Own}
use Rattle.reaches.proofs.laying.own_all.Given as goal

abbrev pub invariant-loop-v : goal.invariant-loop-v
invariant-loop-v l = Own l.n l.v l.initial.frag l.frag
