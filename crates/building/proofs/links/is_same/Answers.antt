-- `building::links::is_same` meets its contract: one law for each answer.
-- Assumes nothing.
use native.Mathlib.Omega.{arith}
use Rattle.std.proofs.Common.{ne_eqb}
use Rattle.building.specs.Laws.Among.{same_straight, same_turned, same_not}
use Rattle.building.proofs.links.is_same.Goals as goal

pub returns-then-c-a : goal.returns-then-c-a
returns-then-c-a c = same_straight _ _ _ _ (omega arith)

pub returns-then-c-b : goal.returns-then-c-b
returns-then-c-b c = same_turned _ _ _ _ (omega arith) (omega arith)

pub returns-else-c-b : goal.returns-else-c-b
returns-else-c-b c = rw (ne_eqb c.args.c c.args.b (omega arith)) (same_not _ _ _ _ (omega arith) (omega arith))
