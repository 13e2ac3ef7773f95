-- The laws of the list writer, over the definitions alone: what is written is read back.
-- Assumes nothing.
use Rattle.std.specs.Prelude.{List, ◌++◌, ◌≡◌, refl, ℕ, ◌+◌, ◌-◌, ◌≤◌, length, take}
use Rattle.std.proofs.Common.{arith, zero-add, drop_at}
use Rattle.base.specs.Pick.{tests}
use Rattle.base.specs.Answer.{gives}
use Rattle.base.specs.Link.{Link}
use Rattle.numbers.specs.Number.{written_number}
use Rattle.numbers.proofs.Theorems.{number_written}
use Rattle.lists.specs.List.{entries_most, fragments_most, and_then, no_size, sized, block_links, file_links, written_links}
use Rattle.lists.specs.Words.{Sound}
use Rattle.lists.specs.Laws.Link.{sized_gives}
use Rattle.writing.specs.Write.{word_links, written_list, write_list}
use Rattle.writing.specs.Words.{words_of}
use Rattle.writing.specs.Laws.Steps.{words_accepted}
use Rattle.writing.specs.Laws.Back.{links_written, stored_gives}

-- Links that are written are read back, the same in the same order, wherever the pass has room for them.
pub links_back : (n e : ℕ) (ls : List Link) → n ≤ fragments_most → Sound n ls → length ls ≤ entries_most - e → block_links n e (written_links ls) ≡ gives ls
unfolding block_links
links_back n e ls h s k = links_written n (written_links ls) ls e 0 h s k refl

-- A list that is written is read back: n, where the links begin, and the links.
pub list_back : (n : ℕ) (ls : List Link) → (n ≡ 0 → ⊥) → n ≤ fragments_most → Sound n ls → length ls ≤ entries_most
    → file_links (written_list n ls) ≡ gives (record { fragments = n; begins = length (written_number n); links = ls })
unfolding file_links and_then no_size sized written_list
list_back n ls z h s k =
    let b = written_number n in
    let r = number_written (b ++ written_links ls) 0 n (written_links ls) (omega arith) refl in
    let q = links_written n (b ++ written_links ls) ls 0 (0 + length b) h s (omega arith) (drop_at b (written_links ls) (0 + length b) (omega arith)) in
    rw (r, q) (simp (tests, zero-add))

-- What the list writer leaves in its buffer, up to the position it answers, is read back: its words are the links in order. A list of more
-- links than a pass may have is written all the same, and refused by the reader (12).
pub written_back : (n : ℕ) (words buffer : List ℕ) (end : ℕ) → (write_list n words buffer).answer ≡ gives end
    → (ls : List Link) × (words_of ls ≡ words)
    × (length ls ≤ entries_most → file_links (take end (write_list n words buffer).buffer) ≡ gives (record { fragments = n; begins = length (written_number n); links = ls }))
unfolding write_list
written_back n words buffer end e =
    let (ls, p, q) = stored_gives n buffer end (sized n (word_links n words)) e in
    let (z, h, r) = sized_gives n (word_links n words) ls p in
    let w = words_accepted n words ls r in
    (ls, w.same, λ k. rw q (list_back n ls z h w.sound k))
