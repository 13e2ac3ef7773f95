-- What the list writer and a link of a block leave in C. Definitions only.
-- Assumes nothing.
use Rattle.std.specs.Prelude.{ℕ, List}
use Rattle.base.specs.Answer.{Answer, gives, refuses}
use Rattle.numbers.specs.Number.{Wrote}
use Rattle.lists.specs.List.{LinkAt, scan_link}
use Rattle.writing.specs.Write.{write_list}

-- The refusal's number (0: accepted), how many bytes were written, 0 where it is refused, and the buffer.
pub record WriteReply : Type 0 where
  pub number : ℕ
  pub size : ℕ
  pub buffer : List ℕ

abbrev pub write_reply : (number size : ℕ) → List ℕ → WriteReply
write_reply number size buffer = record { number = number; size = size; buffer = buffer }

unfoldable pub write_told : List ℕ → Answer ℕ → WriteReply
write_told buffer (gives end) = write_reply 0 end buffer
write_told buffer (refuses number place) = write_reply number 0 buffer

unfoldable pub wrote_told : Wrote → WriteReply
wrote_told w = write_told w.buffer w.answer

unfoldable pub c_write_list : ℕ → List ℕ → List ℕ → WriteReply
c_write_list n words buffer = wrote_told (write_list n words buffer)

-- The refusal's number, both ends, and the byte behind the link; refused, the ends are 0 and the last is the place.
pub record LinkReply : Type 0 where
  pub number : ℕ
  pub first : ℕ
  pub second : ℕ
  pub next : ℕ

abbrev pub link_reply : (number first second next : ℕ) → LinkReply
link_reply number first second next = record { number = number; first = first; second = second; next = next }

unfoldable pub link_told : Answer LinkAt → LinkReply
link_told (gives l) = link_reply 0 l.link.0 l.link.1 l.next
link_told (refuses number place) = link_reply number 0 0 place

unfoldable pub c_link_at : (n entries : ℕ) → List ℕ → ℕ → LinkReply
c_link_at n entries block at = link_told (scan_link n entries block at)
