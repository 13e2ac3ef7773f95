-- The head of a list file. Definitions only. How much of a buffer is whole links is `lists.List.cut_block`.
-- Assumes nothing.
use Rattle.std.specs.Prelude.{ℕ, List}
use Rattle.base.specs.Answer.{Answer, gives, refuses}
use Rattle.numbers.specs.Number.{read_number}
use Rattle.lists.specs.List.{and_then, sized, links_at, ListFile}

-- 'A list file is the number n of fragments, then links': n, and the byte where the links begin.
pub record Head : Type 0 where
  pub fragments : ℕ
  pub begins : ℕ

unfoldable pub list_head : List ℕ → Answer Head
list_head s = and_then (read_number s 0) λ n. sized n.value (gives (record { fragments = n.value; begins = n.next }))

-- The links from there on, with their head.
abbrev pub links_from : List ℕ → Head → Answer ListFile
links_from s a = and_then (links_at a.fragments 0 s a.begins) λ ls. gives (record { fragments = a.fragments; begins = a.begins; links = ls })

-- What is left of the head in C: the refusal's number (0: accepted) and both words, 0 where it is refused.
pub record HeadReply : Type 0 where
  pub number : ℕ
  pub fragments : ℕ
  pub begins : ℕ

abbrev pub head_reply : (number fragments begins : ℕ) → HeadReply
head_reply number fragments begins = record { number = number; fragments = fragments; begins = begins }

unfoldable pub head_told : Answer Head → HeadReply
head_told (gives a) = head_reply 0 a.fragments a.begins
head_told (refuses number place) = head_reply number 0 0

unfoldable pub c_head : List ℕ → HeadReply
c_head s = head_told (list_head s)
