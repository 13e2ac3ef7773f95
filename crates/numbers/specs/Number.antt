-- Numbers in groups of seven bits, by document 01, 'Bytes of a list': what their bytes say, and how they are written.
-- Assumes nothing.
use Rattle.std.specs.Prelude.{ℕ, zero, suc, ◌+◌, ◌*◌, ◌/◌, ◌%◌, List, [], ◌∷◌, ◌++◌, ltb, length, take, drop}
use Rattle.base.specs.Pick.{pick}
use Rattle.base.specs.Answer.{Answer, gives, refuses}

-- 'A number has one to three bytes'
abbrev pub groups_most : ℕ
groups_most = 3

-- 'the number writer is given more than 2,097,151'
abbrev pub value_most : ℕ
value_most = 2097151

-- A number read: its value, and the position after its last byte.
pub record Numeral : Type 0 where
  pub value : ℕ
  pub next : ℕ

-- `onto low scale answer`: what the further groups give, times `scale`, on top of the groups before them.
unfoldable pub onto : (low scale : ℕ) → Answer Numeral → Answer Numeral
onto low scale (gives n) = gives (record { value = low + scale * n.value; next = n.next })
onto low scale (refuses number place) = refuses number place

-- 'groups of seven bits, lowest group first, one byte each; the top bit is set on all but the last', read from a list whose first byte stands
-- at `at`. `least` is the least that the last byte may be: 0 at the first byte and 1 behind it ('a last byte of 0 stands only alone').
unfoldable pub read_groups : (groups least : ℕ) → List ℕ → (at : ℕ) → Answer Numeral
-- 7: 'its third byte has the top bit set'
read_groups zero least s at = refuses 7 0
-- 8: 'the bytes end inside a number', 'a number is to be read from no bytes'
read_groups (suc groups) least [] at = refuses 8 0
read_groups (suc groups) least (b ∷ s) at =
    pick (ltb b 128)
    -- 7: 'a number is not in shortest form'
    (pick (ltb b least) (refuses 7 0) (gives (record { value = b; next = suc at })))
    (onto (b % 128) 128 (read_groups groups 1 s (suc at)))

-- A value past the greatest is refused with 7.
unfoldable pub at_most : ℕ → Answer Numeral → Answer Numeral
at_most most (gives n) = pick (ltb most n.value) (refuses 7 0) (gives n)
at_most most (refuses number place) = refuses number place

unfoldable pub read_up_to : (groups most : ℕ) → List ℕ → ℕ → Answer Numeral
read_up_to groups most s at = at_most most (read_groups groups 0 (drop at s) at)

-- The number that the bytes of `s` say from position `at` on. A refusal's place is 0.
unfoldable pub read_number : List ℕ → ℕ → Answer Numeral
read_number s at = read_up_to groups_most value_most s at

-- 'To write: the remainder by 128, and each further group is written by the same rule from the quotient.'
unfoldable pub groups_of : (groups : ℕ) → ℕ → List ℕ
groups_of zero v = []
groups_of (suc groups) v = pick (ltb v 128) (v ∷ []) ((v % 128 + 128) ∷ groups_of groups (v / 128))

-- The bytes of a number.
unfoldable pub written_number : ℕ → List ℕ
written_number v = groups_of groups_most v

-- How many bytes a number takes, and 0 for one that has no form.
unfoldable pub width_of : ℕ → ℕ
width_of v = pick (ltb value_most v) 0 (length (written_number v))

-- What the number writer leaves: its answer, which is the position after the number, and the caller's buffer.
pub record Wrote : Type 0 where
  pub answer : Answer ℕ
  pub buffer : List ℕ

-- `put buffer at bytes`: the buffer with the bytes from position `at` on; all others are as they were.
unfoldable pub put : List ℕ → ℕ → List ℕ → List ℕ
put buffer at bytes = take at buffer ++ (bytes ++ drop (at + length bytes) buffer)

-- 'A number writer tests 7 before 3'; a refusal leaves the buffer as found.
unfoldable pub write_up_to : (groups most : ℕ) → ℕ → List ℕ → ℕ → Wrote
write_up_to groups most v buffer at =
    pick (ltb most v) (record { answer = refuses 7 0; buffer = buffer })
    (pick (ltb (length buffer) (at + length (groups_of groups v))) (record { answer = refuses 3 0; buffer = buffer })
    (record { answer = gives (at + length (groups_of groups v)); buffer = put buffer at (groups_of groups v) }))

unfoldable pub write_number : ℕ → List ℕ → ℕ → Wrote
write_number v buffer at = write_up_to groups_most value_most v buffer at
