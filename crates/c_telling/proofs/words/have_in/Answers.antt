-- `c_telling::words::have_in` meets its contract.
-- Assumes nothing.
use native.Mathlib.Omega.{arith}
use Rattle.c_telling.specs.Laws.Steps.{have_over, have_on}
use Rattle.c_telling.proofs.words.have_in.Goals as goal

pub returns-then-step-gt2 : goal.returns-then-step-gt2
returns-then-step-gt2 c = have_over _ _ _ (omega arith)

pub returns : goal.returns
returns c = have_on _ _ _ _ (omega arith) c.joined.ensures
