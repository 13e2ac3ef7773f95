-- `lists::bad_ends` meets its contract: each answer by its tests.
-- Assumes nothing.
use native.Mathlib.Omega.{arith}
use Rattle.lists.specs.Laws.Scan.{bad_first, bad_second, bad_same, bad_none}
use Rattle.lists.proofs.bad_ends.Goals as goal

pub returns-then-a-n : goal.returns-then-a-n
returns-then-a-n c = bad_first _ _ _ (omega arith)

pub returns-then-b-n : goal.returns-then-b-n
returns-then-b-n c = bad_second _ _ _ (omega arith) (omega arith)

pub returns-then-a-b : goal.returns-then-a-b
returns-then-a-b c = bad_same _ _ _ (omega arith) (omega arith) (omega arith)

pub returns : goal.returns
returns c = bad_none _ _ _ (omega arith) (omega arith) (omega arith)
