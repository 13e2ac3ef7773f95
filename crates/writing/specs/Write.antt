-- What the list writer writes: document 01, 'Bytes of a list' and 'Refusal numbers'.
-- Assumes nothing.
use Rattle.std.specs.Prelude.{List, [], ◌∷◌, ◌++◌, ℕ, ltb, length}
use Rattle.base.specs.Pick.{pick}
use Rattle.base.specs.Answer.{Answer, gives, refuses}
use Rattle.base.specs.Link.{Link}
use Rattle.numbers.specs.Number.{written_number, Wrote, put}
use Rattle.lists.specs.List.{sized, joins, before, written_links}

-- 'a list writer takes its links as words, two each, and tests 1, then 4 and 5 by first bad link, then 8 for a word left over, then 3'
unfoldable pub word_links : ℕ → List ℕ → Answer (List Link)
word_links n [] = gives []
word_links n (a ∷ []) = refuses 8 0
word_links n (a ∷ b ∷ ws) = joins n a b 0 (before (a, b) (word_links n ws))

-- The bytes of a list.
unfoldable pub written_list : ℕ → List Link → List ℕ
written_list n ls = written_number n ++ written_links ls

-- '3: .. a writer's buffer, is too short'. The answer is the position after the list; the bytes past it stay, and on a refusal all of them.
unfoldable pub store_list : ℕ → List ℕ → Answer (List Link) → Wrote
store_list n buffer (refuses number place) = record { answer = refuses number place; buffer = buffer }
store_list n buffer (gives ls) =
    pick (ltb (length buffer) (length (written_list n ls)))
    (record { answer = refuses 3 0; buffer = buffer })
    (record { answer = gives (length (written_list n ls)); buffer = put buffer 0 (written_list n ls) })

unfoldable pub write_list : ℕ → List ℕ → List ℕ → Wrote
write_list n words buffer = store_list n buffer (sized n (word_links n words))
