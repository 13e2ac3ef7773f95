-- What the private functions of the number writer count and put.
-- Assumes nothing.
use Rattle.std.specs.Prelude.{ℕ, suc, List}
use Rattle.numbers.specs.Number.{groups_of}

-- All groups of a number: it has at most one more than its value.
unfoldable pub all_groups : ℕ → List ℕ
all_groups v = groups_of (suc v) v
