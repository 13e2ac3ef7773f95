-- `numbering::sizes::sizes` meets its contract.
use Rattle.numbering.specs.Passes.{Growing}
use Rattle.numbering.proofs.sizes.sizes.Given as goal

abbrev pub invariant-loop-i : goal.invariant-loop-i
invariant-loop-i l = Growing l.n l.i l.initial.frag l.frag
