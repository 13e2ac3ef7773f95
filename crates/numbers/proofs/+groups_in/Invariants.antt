-- `numbers::groups_in` meets its contract; the value falls to its quotient by 128 at each call.
use Rattle.numbers.proofs.+groups_in.Given as goal

abbrev pub decreases-groups_in : goal.decreases-groups_in
decreases-groups_in l = l.value
