-- The words that the laws of numbers are stated in.
-- Assumes nothing.
use Rattle.std.specs.Prelude.{ℕ, zero, suc, ◌+◌, ◌<◌, List, [], ◌∷◌, ◌≡◌, ltb, drop, get_or}
use Rattle.base.specs.Pick.{pick}
use Rattle.base.specs.Answer.{Answer, gives, refuses}
use Rattle.numbers.specs.Number.{Numeral, groups_most}

-- Every word of the list is a byte.
abbrev pub Bytes : List ℕ → Type 0
Bytes s = (i : ℕ) → get_or s i 0 < 256

-- How many bytes a reader of so many groups looks at: all up to the first whose top bit is not set.
unfoldable pub seen_groups : (groups : ℕ) → List ℕ → ℕ
seen_groups zero s = 0
seen_groups (suc groups) [] = 0
seen_groups (suc groups) (b ∷ s) = pick (ltb b 128) 1 (suc (seen_groups groups s))

-- The position behind the last byte that the reader looks at.
unfoldable pub seen : List ℕ → ℕ → ℕ
seen s at = at + seen_groups groups_most (drop at s)

-- The answer was not decided by the end of the bytes.
abbrev pub Whole : Answer Numeral → Type 0
Whole (gives n) = Unit
Whole (refuses number place) = number ≡ 8 → ⊥

-- The same answer where all positions are greater by `k`.
abbrev pub moved : ℕ → Answer Numeral → Answer Numeral
moved k (gives n) = gives (record { value = n.value; next = k + n.next })
moved k (refuses number place) = refuses number place
