-- `numbers::put_groups` meets its contract; the value falls to its quotient by 128 at each call.
use Rattle.numbers.proofs.+put_groups.Given as goal

abbrev pub decreases-put_groups : goal.decreases-put_groups
decreases-put_groups l = l.value
