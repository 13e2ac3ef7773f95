-- `numbering::turns::count_passed` meets its contract.
use Rattle.numbering.specs.Passes.{Passing}
use Rattle.numbering.proofs.turns.count_passed.Given as goal

abbrev pub invariant-loop-v : goal.invariant-loop-v
invariant-loop-v l = Passing l.n l.v l.initial.frag l.frag
