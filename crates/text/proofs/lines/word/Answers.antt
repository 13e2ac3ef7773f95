-- `text::lines::word` meets its contract.
-- Assumes nothing.
use native.Mathlib.Omega.{arith}
use Rattle.text.specs.Laws.Put.{word_more}
use Rattle.text.proofs.lines.word.Goals as goal

pub loop-b-preserved : goal.loop-b-preserved
loop-b-preserved c = let l = c.loop-b in word_more _ l.b-index (omega arith) l.invariant c.byte-end.ensures
