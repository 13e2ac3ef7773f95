-- `reaches::judge::mark_cuts` meets its contract.
-- Assumes nothing.
use Rattle.reaches.specs.Laws.Judged.{cuts_none, cuts_fit, cuts_turn, cuts_all}
use native.Mathlib.Omega.{arith}
use Rattle.reaches.proofs.judge.mark_cuts.Goals as goal

pub loop-c-init : goal.loop-c-init
loop-c-init c = cuts_none _ _ c.requires

pub mark_cut-requires : goal.mark_cut-requires
mark_cut-requires c = (cuts_fit c.requires c.loop-c.invariant, omega arith)

pub loop-c-preserved : goal.loop-c-preserved
loop-c-preserved c = cuts_turn c.requires c.loop-c.invariant (omega arith) _ c.mark_cut.ensures

pub returns : goal.returns
returns c = cuts_all (omega arith) c.loop-c.invariant
