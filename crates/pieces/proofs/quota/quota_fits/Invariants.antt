-- `pieces::quota::quota_fits` meets its contract: after p turns the pieces with smallest member below p keep their quota.
use Rattle.pieces.specs.Laws.Check.{Below}
use Rattle.pieces.proofs.quota.quota_fits.Given as goal

abbrev pub invariant-loop-p : goal.invariant-loop-p
invariant-loop-p l = Below l.n l.k l.frag l.p
