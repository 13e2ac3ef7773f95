-- What the bytes of a block and of a list file mean: document 01, 'Bytes of a list' and 'Refusal numbers'.
-- Assumes nothing.
use Rattle.std.specs.Prelude.{Bool, ◌||◌, List, [], ◌∷◌, ◌++◌, ℕ, zero, suc, ◌+◌, ◌-◌, leb, ltb, eqb, length}
use Rattle.base.specs.Pick.{pick}
use Rattle.base.specs.Answer.{Answer, gives, refuses}
use Rattle.base.specs.Link.{Link}
use Rattle.numbers.specs.Number.{read_number, written_number}

-- 'n: 1 to 32,768.'
abbrev pub fragments_most : ℕ
fragments_most = 32768

-- 'Entries in one pass: at most 16,777,215.'
abbrev pub entries_most : ℕ
entries_most = 16777215

-- What goes on from an answer; a refusal stays what it is.
unfoldable pub and_then : {A B : Type 0} → Answer A → (A → Answer B) → Answer B
and_then (gives a) f = f a
and_then (refuses number place) f = refuses number place

-- 'The place is the first byte of the bad link in the block': a refusal met inside the link at `at` stands there.
unfoldable pub placed : {A : Type 0} → ℕ → Answer A → Answer A
placed at (gives a) = gives a
placed at (refuses number place) = refuses number at

-- '1: n, given or in the state, is 0 or above 32,768'
unfoldable pub no_size : ℕ → Bool
no_size n = eqb n 0 || ltb fragments_most n

unfoldable pub sized : {A : Type 0} → ℕ → Answer A → Answer A
sized n rest = pick (no_size n) (refuses 1 0) rest

-- '4: a fragment number is n or more'; '5: both fragments are the same'
unfoldable pub joins : {A : Type 0} → (n a b at : ℕ) → Answer A → Answer A
joins n a b at rest =
    pick (leb n a) (refuses 4 at) (pick (leb n b) (refuses 4 at) (pick (eqb a b) (refuses 5 at) rest))

-- Which of the two it is, or 0.
unfoldable pub bad_ends : (n a b : ℕ) → ℕ
bad_ends n a b = pick (leb n a) 4 (pick (leb n b) 4 (pick (eqb a b) 5 0))

-- '12: the entry would be number 16,777,216 of its pass', where `entries` came before it
unfoldable pub counts : {A : Type 0} → (entries at : ℕ) → Answer A → Answer A
counts entries at rest = pick (leb entries_most entries) (refuses 12 at) rest

-- A link, and the byte after it.
pub record LinkAt : Type 0 where
  pub link : Link
  pub next : ℕ

-- The two numbers of the link that begins at byte `at`.
unfoldable pub read_ends : List ℕ → ℕ → Answer LinkAt
read_ends s at =
    and_then (read_number s at) λ a.
    and_then (read_number s a.next) λ b.
    gives (record { link = (a.value, b.value); next = b.next })

-- 'in one link, 7 or 8 of the first number, of the second, then 4, 5, 12'
unfoldable pub read_link : (n entries : ℕ) → List ℕ → ℕ → Answer LinkAt
read_link n entries s at =
    and_then (placed at (read_ends s at)) λ l.
    joins n l.link.0 l.link.1 at (counts entries at (gives l))

-- A link before others.
unfoldable pub before : Link → Answer (List Link) → Answer (List Link)
before l rest = and_then rest λ ls. gives (l ∷ ls)

-- 'then links .. to the end'; 'The scan of a block stops at the first bad link'. The first argument counts down; a link has more than one byte,
-- so that as many turns as there are bytes are enough.
unfoldable pub links_in : (turns n entries : ℕ) → List ℕ → ℕ → Answer (List Link)
links_in zero n entries s at = gives []
links_in (suc k) n entries s at =
    pick (leb (length s) at) (gives [])
    (and_then (read_link n entries s at) λ l. before l.link (links_in k n (entries + 1) s l.next))

-- The links from byte `at` to the end of the bytes.
unfoldable pub links_at : (n entries : ℕ) → List ℕ → ℕ → Answer (List Link)
links_at n entries s at = links_in (length s - at) n entries s at

-- 'A block is any part of the list that holds whole links, none included.' 'A bad link refuses its whole block.'
unfoldable pub block_links : (n entries : ℕ) → List ℕ → Answer (List Link)
block_links n entries s = links_at n entries s 0

-- How many links a block holds. A block alone is scanned for an n that is given, and so 1 comes before its links.
unfoldable pub scan_block : (n entries : ℕ) → List ℕ → Answer ℕ
scan_block n entries s = sized n (and_then (block_links n entries s) λ ls. gives (length ls))

-- A link alone, the same.
unfoldable pub scan_link : (n entries : ℕ) → List ℕ → ℕ → Answer LinkAt
scan_link n entries s at = sized n (read_link n entries s at)

-- What a list file tells: n, the byte where the links begin, the links.
pub record ListFile : Type 0 where
  pub fragments : ℕ
  pub begins : ℕ
  pub links : List Link

-- 'A list file is the number n of fragments, then links .. to the end.' Places count from the file's start.
unfoldable pub file_links : List ℕ → Answer ListFile
file_links s =
    and_then (read_number s 0) λ n.
    sized n.value
    (and_then (links_at n.value 0 s n.next) λ ls.
    gives (record { fragments = n.value; begins = n.next; links = ls }))

-- The same with the number of links in their place.
pub record ListRead : Type 0 where
  pub fragments : ℕ
  pub begins : ℕ
  pub count : ℕ

unfoldable pub read_list : List ℕ → Answer ListRead
read_list s =
    and_then (file_links s) λ f.
    gives (record { fragments = f.fragments; begins = f.begins; count = length f.links })

-- Where the last whole link of a part ends: at the first link that the part's end cuts (8). From bytes that are no number (7) on nothing is
-- whole, whatever comes after: they are left to the scan, and so the cut is the part's end.
unfoldable pub cut_after : List ℕ → ℕ → (ℕ → ℕ) → Answer LinkAt → ℕ
cut_after s at further (gives l) = further l.next
cut_after s at further (refuses number place) = pick (eqb number 8) at (length s)

unfoldable pub cut_in : (turns : ℕ) → List ℕ → ℕ → ℕ
cut_in zero s at = at
cut_in (suc k) s at = cut_after s at (cut_in k s) (read_ends s at)

unfoldable pub cut_at : List ℕ → ℕ → ℕ
cut_at s at = cut_in (length s - at) s at

unfoldable pub cut_block : List ℕ → ℕ
cut_block s = cut_at s 0

-- The bytes of links.
unfoldable pub written_links : List Link → List ℕ
written_links [] = []
written_links ((a, b) ∷ ls) = written_number a ++ (written_number b ++ written_links ls)
