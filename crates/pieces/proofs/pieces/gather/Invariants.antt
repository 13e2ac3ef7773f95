-- `pieces::pieces::gather` meets its contract: after i turns the first i links stand gathered.
use Rattle.pieces.specs.Pieces.{Gathers}
use Rattle.pieces.proofs.pieces.gather.Given as goal

abbrev pub invariant-loop-i : goal.invariant-loop-i
invariant-loop-i l = Gathers l.n l.initial.frag l.held l.i l.frag
