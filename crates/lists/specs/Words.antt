-- The words that the laws of lists are stated in.
-- Assumes nothing.
use Rattle.std.specs.Prelude.{List, [], ◌∷◌, ◌≡◌, ℕ, ◌+◌, ◌<◌}
use Rattle.base.specs.Answer.{Answer, gives, refuses}
use Rattle.base.specs.Link.{Link}
use Rattle.numbers.specs.Number.{Numeral, read_number}
use Rattle.numbers.specs.Words.{seen}

-- Links of a list of n fragments: both ends below n, and not the same.
abbrev pub Sound : ℕ → List Link → Type 0
Sound n [] = Unit
Sound n (l ∷ ls) = (l.0 < n) × (l.1 < n) × (l.0 ≡ l.1 → ⊥) × Sound n ls

-- The same answer with its place counted from `by` bytes earlier.
unfoldable pub shifted : {A : Type 0} → ℕ → Answer A → Answer A
shifted by (gives a) = gives a
shifted by (refuses number place) = refuses number (by + place)

-- The position behind the last byte that is looked at of the link at `at`: its second number's, or that of a first number that is refused.
unfoldable pub seen_second : List ℕ → ℕ → Answer Numeral → ℕ
seen_second s at (gives a) = seen s a.next
seen_second s at (refuses number place) = seen s at

unfoldable pub seen_link : List ℕ → ℕ → ℕ
seen_link s at = seen_second s at (read_number s at)
