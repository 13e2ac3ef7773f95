-- `reaches::judge::cuts` meets its contract.
-- Assumes nothing.
use native.Mathlib.Omega.{arith}
use Rattle.reaches.specs.Laws.Judged.{cuts_root, cuts_inner}
use Rattle.reaches.proofs.judge.cuts.Goals as goal

pub returns-then-parent_of-p : goal.returns-then-parent_of-p
returns-then-parent_of-p c = cuts_root _ _ _ _ _ c.parent_of.ensures (omega arith)

pub returns : goal.returns
returns c = cuts_inner _ _ _ _ _ c.parent_of.ensures (omega arith) _ c.level_of.ensures _ c.wide.ensures.says
