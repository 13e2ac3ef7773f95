-- `closing::walk::after_at` meets its contract: the next greater neighbour stands in the high part of the word.
-- Assumes nothing.
use native.Mathlib.Omega.{arith}
use Rattle.closing.proofs.walk.after_at.Goals as goal

pub overflow_cast-result : goal.overflow_cast-result
overflow_cast-result c = omega (arith, c.shared_slice_known-1.given c.args.i)
