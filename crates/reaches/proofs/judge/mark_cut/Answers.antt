-- `reaches::judge::mark_cut` meets its contract.
-- Assumes nothing.
use native.Mathlib.Omega.{arith}
use lib.ListN.{length-set}
use Rattle.reaches.specs.Laws.Passes.{parent_in}
use Rattle.reaches.specs.Laws.Judged.{cut_none, cut_some}
use Rattle.reaches.proofs.judge.mark_cut.Goals as goal

pub returns-then-p-c : goal.returns-then-p-c
returns-then-p-c c = cut_none _ _ _ _ c.parent_of-p.ensures (omega arith)

pub bounds-frag-n-2 : goal.bounds-frag-n-2
bounds-frag-n-2 c = let p = c.requires in simp length-set (omega (arith, parent_in p.0.whole _ _ p.1 c.parent_of-p.ensures))

pub returns : goal.returns
returns c = cut_some _ _ _ _ c.parent_of-p.ensures (omega arith) _ c.cut_word.ensures
