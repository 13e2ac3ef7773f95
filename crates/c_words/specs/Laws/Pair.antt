-- A number that is written in two words is read again: nothing of it is lost.
-- Assumes nothing.
use Rattle.std.specs.Prelude.{ℕ, ◌≡◌}
use Rattle.std.proofs.Common.{arith}
use Rattle.c_words.specs.Pair.{low_word, high_word, joined}

pub pair_back : (x : ℕ) → joined (low_word x) (high_word x) ≡ x
pair_back x = omega arith
