-- `pieces::quota::quota_fits` meets its contract: after p turns the pieces with smallest member below p keep their quota.
-- Assumes nothing.
use native.Mathlib.Omega.{arith}
use Rattle.pieces.specs.Laws.Check.{quota_none, quota_more, quota_off, quota_all}
use Rattle.pieces.proofs.quota.quota_fits.Goals as goal

pub loop-p-init : goal.loop-p-init
loop-p-init c = quota_none _ _ _

pub piece_fits-requires : goal.piece_fits-requires
piece_fits-requires c =
    let p = c.requires in
    record { pointing = p.0; some_room = p.1; room = p.2; in_range = omega arith }

pub returns-then-not-piece_fits : goal.returns-then-not-piece_fits
returns-then-not-piece_fits c = quota_off _ _ _ c.loop-p.p _ (omega arith) (c.if-not-piece_fits.true) c.piece_fits.ensures

pub loop-p-preserved : goal.loop-p-preserved
loop-p-preserved c =
    let l = c.loop-p in
    quota_more _ _ _ l.p _ (c.if-not-piece_fits.false) c.piece_fits.ensures l.invariant

pub returns : goal.returns
returns c = let l = c.loop-p in quota_all _ _ _ l.p (omega arith) l.invariant
