-- `pieces::pieces::sum` meets its contract: a sum that fits, or none.
-- Assumes nothing.
use mathlib.Core.Path.{sym}
use native.Mathlib.Omega.{arith}
use Rattle.pieces.specs.Laws.Gather.{added_fits, added_over}
use Rattle.pieces.proofs.pieces.sum.Goals as goal

pub returns-then-both-lt-WORD : goal.returns-then-both-lt-WORD
returns-then-both-lt-WORD c = sym (added_fits _ _ (omega arith))

pub returns : goal.returns
returns c = sym (added_over _ _ (omega arith))
