-- `differing::twice::is_noted` meets its contract: the way of the word ends at it, or it is not noted.
-- Assumes nothing.
use native.Mathlib.Omega.{arith}
use Rattle.std.proofs.Common.{eq-eqb}
use Rattle.differing.specs.Laws.Batches.{recalls_empty, recalls_word}
use Rattle.differing.proofs.twice.is_noted.Goals as goal

pub returns-then-s-size : goal.returns-then-s-size
returns-then-s-size c = recalls_word c.requires.1 c.look-s.ensures (omega (arith, c.look-s.ensures.in_range, c.if-s-size.true))

pub returns-else-s-size : goal.returns-else-s-size
returns-else-s-size c = rw (eq-eqb c.look-s.result c.args.size c.if-s-size.false) (recalls_empty c.requires.1 c.look-s.ensures (λ l. absurd (omega (arith, c.if-s-size.false))))
