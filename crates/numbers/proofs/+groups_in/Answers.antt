-- `numbers::groups_in` meets its contract; the value falls to its quotient by 128 at each call.
-- Assumes nothing.
use Prim.Native.Nat.{◌/◌}
use mathlib.Core.Path.{sym, ap}
use native.Mathlib.Omega.{arith}
use lib.ListN.{length}
use Rattle.numbers.proofs.Laws.Writing.{all_last, all_more, all_few}
use Rattle.numbers.proofs.+groups_in.Goals as goal

pub returns-then-value-lt128 : goal.returns-then-value-lt128
returns-then-value-lt128 t c = sym (ap length (all_last _ (omega arith)))

pub groups_in-requires : goal.groups_in-requires
groups_in-requires t c = (omega arith, tt)

pub overflow_add-result : goal.overflow_add-result
overflow_add-result t c = omega (arith, all_few (c.args.value / 128), c.groups_in.ensures)

pub returns : goal.returns
returns t c = omega (arith, ap length (all_more c.args.value (omega arith)), c.groups_in.ensures)
