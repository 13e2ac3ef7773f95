-- `numbering::turns::ends` meets its contract.
use Rattle.numbering.specs.Passes.{Ends}
use Rattle.numbering.proofs.turns.ends.Given as goal

abbrev pub invariant-loop-v : goal.invariant-loop-v
invariant-loop-v l = Ends l.n l.v l.initial.frag l.frag
