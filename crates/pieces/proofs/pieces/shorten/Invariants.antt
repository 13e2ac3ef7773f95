-- `pieces::pieces::shorten` meets its contract: after v turns the fragments below v point to the smallest members.
use Rattle.pieces.specs.Laws.Gathered.{Shortening}
use Rattle.pieces.proofs.pieces.shorten.Given as goal

abbrev pub invariant-loop-v : goal.invariant-loop-v
invariant-loop-v l = Shortening l.n l.initial.frag l.v l.frag
