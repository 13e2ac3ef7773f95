-- `c_words::words::entries_in` meets its contract.
-- Assumes nothing.
use native.Mathlib.Omega.{arith}
use Rattle.c_words.specs.Laws.Steps.{entries_bad, entries_good}
use Rattle.c_words.proofs.words.entries_in.Goals as goal

pub returns-then-mark-gt1 : goal.returns-then-mark-gt1
returns-then-mark-gt1 c = entries_bad _ _ (omega arith)

pub returns : goal.returns
returns c = entries_good _ _ _ (omega arith) (omega arith)
