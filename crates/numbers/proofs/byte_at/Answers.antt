-- `numbers::byte_at` meets its contract.
-- Assumes nothing.
use Rattle.std.proofs.Common.{◌∙◌}
use native.Mathlib.Omega.{arith}
use Rattle.numbers.proofs.byte_at.Goals as goal

pub returns-in-Some : goal.returns-in-Some
returns-in-Some c = c.from.ensures ∙ c.in-Some.ensures.lookup.3.1 0

pub returns-in-None : goal.returns-in-None
returns-in-None c = c.in-None.ensures.lookup.4 (omega arith) 0
