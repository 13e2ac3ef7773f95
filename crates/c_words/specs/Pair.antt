-- How two words hold a number of 64 bits: the low word, then the high one. Definitions only.
-- Assumes nothing.
use Rattle.std.specs.Prelude.{ℕ, ◌+◌, ◌*◌, ◌/◌, ◌%◌}

-- One more than the greatest word.
abbrev pub word_count : ℕ
word_count = 4294967296

abbrev pub low_word : ℕ → ℕ
low_word x = x % word_count

abbrev pub high_word : ℕ → ℕ
high_word x = x / word_count

abbrev pub joined : (low high : ℕ) → ℕ
joined low high = low + high * word_count
