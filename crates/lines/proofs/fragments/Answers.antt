-- `lines::fragments` meets its contract.
-- Assumes nothing.
use Rattle.lines.specs.Laws.Lines.{lines_none, lines_next, lines_end}
use native.Mathlib.Omega.{arith}
use Rattle.lines.proofs.fragments.Goals as goal

pub loop-v-init : goal.loop-v-init
loop-v-init c = lines_none _ _ _

pub loop-v-preserved : goal.loop-v-preserved
loop-v-preserved c = let l = c.loop-v in lines_next _ l.v (omega arith) l.invariant c.fragment_at-at.ensures

pub returns : goal.returns
returns c = let l = c.loop-v in lines_end _ (omega arith) (omega arith) l.invariant
