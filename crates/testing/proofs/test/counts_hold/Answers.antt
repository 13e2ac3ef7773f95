-- `testing::test::counts_hold` meets its contract: one law for each answer.
-- Assumes nothing.
use native.Mathlib.Omega.{arith}
use native.Mathlib.Nat.{mul-le-mul}
use mathlib.Core.Path.{refl}
use Rattle.testing.specs.Laws.Fragment.{counts_closed, counts_many, counts_room}
use Rattle.testing.proofs.test.counts_hold.Goals as goal

pub returns-then-placed-s : goal.returns-then-placed-s
returns-then-placed-s c = counts_closed _ _ (omega arith)

pub returns-then-s-gt-ENTRIES : goal.returns-then-s-gt-ENTRIES
returns-then-s-gt-ENTRIES c = counts_many _ _ (omega arith) (omega arith)

pub overflow_mul-result : goal.overflow_mul-result
overflow_mul-result c = let p = c.requires in omega (arith, mul-le-mul p.1 p.0)

pub returns : goal.returns
returns c = counts_room _ _ (omega arith) (omega arith) _ refl
