-- `adopting::adopting::place_all` meets its contract: the fragments below v are written.
use Rattle.adopting.specs.Adopt.{Placed}
use Rattle.adopting.proofs.adopting.place_all.Given as goal

abbrev pub invariant-loop-v : goal.invariant-loop-v
invariant-loop-v l = Placed l.n l.parents l.v l.initial.frag l.frag
