-- `closing::walk::reach` meets its contract: one fragment more is placed and entered, and the deeper of two is told.
-- Assumes nothing.
use mathlib.Core.List.{[]}
use Rattle.closing.specs.Laws.Walking.{deeper_new, deeper_old, reached_put}
use Rattle.state.proofs.Laws.Layout.{level_word}
use Rattle.state.specs.Layout.{bare}
use native.Mathlib.Omega.{arith}
use Rattle.closing.proofs.walk.reach.Goals as goal

pub overflow_add-r-2 : goal.overflow_add-r-2
overflow_add-r-2 c = let a = c.args in omega (arith, level_word (bare a.n) a.frag.now [] a.at (omega arith))

pub returns-then-most-r : goal.returns-then-most-r
returns-then-most-r c = (deeper_new _ _ _ _ _ c.if-most-r.true, reached_put _ _ _ _ _ _ c.put.ensures c.enter.ensures)

pub returns-else-most-r : goal.returns-else-most-r
returns-else-most-r c = (deeper_old _ _ _ _ _ c.if-most-r.false, reached_put _ _ _ _ _ _ c.put.ensures c.enter.ensures)
