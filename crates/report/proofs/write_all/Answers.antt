-- `report::write_all` meets its contract: each write puts the next part of the text.
-- Assumes nothing.
use Rattle.std.proofs.Common.{rules}
use Rattle.std.proofs.lemmas.List.{take_rest}
use Rattle.report.proofs.Laws.{wrote_more}
use Rattle.report.proofs.write_all.Goals as goal

pub loop-done-preserved : goal.loop-done-preserved
loop-done-preserved g c = (search rules, wrote_more _ _ _ c.loop-done.done c.in-Ok.n c.args.text.now c.loop-done.invariant.1 (rw (← take_rest c.args.text.now c.loop-done.done) c.in-Ok.ensures.bytes))
