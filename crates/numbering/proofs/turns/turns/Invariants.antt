-- `numbering::turns::turns` meets its contract.
use Rattle.numbering.specs.Passes.{Turning}
use Rattle.numbering.proofs.turns.turns.Given as goal

abbrev pub invariant-loop-i : goal.invariant-loop-i
invariant-loop-i l = Turning l.n l.i l.initial.frag l.frag
