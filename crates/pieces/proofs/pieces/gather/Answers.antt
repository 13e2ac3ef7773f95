-- `pieces::pieces::gather` meets its contract: after i turns the first i links stand gathered.
-- Assumes nothing.
use mathlib.Core.Path.{◌≡◌}
use native.Mathlib.Omega.{arith}
use Rattle.pieces.specs.Laws.Gather.{gathers_none, gathers_more}
use Rattle.pieces.proofs.pieces.gather.Goals as goal

pub loop-i-init : goal.loop-i-init
loop-i-init c = gathers_none c.requires

pub loop-i-preserved : goal.loop-i-preserved
loop-i-preserved c =
    let l = c.loop-i in
    gathers_more c.requires l.i (omega arith) l.invariant _ _ c.low_end-a.ensures c.high_end-b.ensures _ c.join.ensures

pub returns : goal.returns
returns c =
    let l = c.loop-i in
    let e : l.i ≡ c.args.count = omega arith in
    rw (← e) l.invariant
