-- How a list file is told in parts of any length, with what is left of an unfinished link carried over to the next part. Definitions only.
-- Assumes nothing.
use Rattle.std.specs.Prelude.{ℕ, ◌+◌, ◌-◌, ◌%◌, ◌^◌, Bool, ◌||◌, List, length, take, drop, ◌==◌, nat_lt}
use Rattle.base.specs.Pick.{pick}
use Rattle.base.specs.Answer.{Answer, gives, refuses}
use Rattle.numbers.specs.Number.{Numeral, read_number, put}
use Rattle.lists.specs.List.{cut_block}
use Rattle.state.specs.Call.{Left}
use Rattle.state.specs.Take.{take_call}
use Rattle.state.specs.declared.State.{State}

-- Places in a file are 64-bit numbers.
abbrev pub wrapped : ℕ → ℕ
wrapped place = place % 2 ^ 64

-- 'P being a byte of the file for 4, 5, 7, 8 and 12, else 0'
unfoldable pub in_block : ℕ → Bool
in_block number = number == 4 || (number == 5 || (number == 7 || (number == 8 || number == 12)))

-- The place of a refusal, where the block begins at byte `offset` of the file.
unfoldable pub place_in : (offset number place : ℕ) → ℕ
place_in offset number place = pick (in_block number) (wrapped (offset + place)) 0

-- The bytes from `from` up to `len` stand at the buffer's front; all others are as they were.
unfoldable pub carried : (from len : ℕ) → List ℕ → List ℕ
carried from len buffer = put buffer 0 (take (len - from) (drop from buffer))

-- The header of a file: n, the byte where the links begin, and how many bytes of them the part has, at its front now.
pub record Header : Type 0 where
  pub fragments : ℕ
  pub begins : ℕ
  pub have : ℕ

pub record Opens : Type 0 where
  pub answer : Answer Header
  pub buffer : List ℕ

unfoldable pub headed_by : ℕ → List ℕ → Answer Numeral → Opens
headed_by len buffer (gives a) = record {
  answer = gives (record { fragments = a.value; begins = a.next; have = len - a.next });
  buffer = carried a.next len buffer;
}
headed_by len buffer (refuses number place) = record { answer = refuses number place; buffer = buffer }

-- The first part of a file, `len` bytes at the buffer's front.
unfoldable pub open_part : ℕ → List ℕ → Opens
open_part len buffer =
    pick (nat_lt (length buffer) len) (record { answer = refuses 3 0; buffer = buffer })
    (headed_by len buffer (read_number (take len buffer) 0))

-- How many of the first `len` bytes are told: those of whole links, and at the file's end all.
unfoldable pub tellable : ℕ → Bool → List ℕ → ℕ
tellable len last buffer = pick last len (cut_block (take len buffer))

-- What goes on to the next part: the byte of the file at the buffer's front, and how many bytes stand there.
pub record Carry : Type 0 where
  pub offset : ℕ
  pub have : ℕ

pub record Feeds : Type 0 where
  pub left : Left Carry
  pub buffer : List ℕ

unfoldable pub fed_by : (len offset end : ℕ) → List ℕ → Left (Unit {0}) → Answer (Unit {0}) → Feeds
fed_by len offset end buffer l (gives x) = record {
  left = record {
    answer = gives (record { offset = wrapped (offset + end); have = len - end });
    state = l.state;
    frag = l.frag;
    held = l.held;
  };
  buffer = carried end len buffer;
}
fed_by len offset end buffer l (refuses number place) = record {
  left = record { answer = refuses number (place_in offset number place); state = l.state; frag = l.frag; held = l.held };
  buffer = buffer;
}

unfoldable pub fed : (len offset end : ℕ) → List ℕ → Left (Unit {0}) → Feeds
fed len offset end buffer l = fed_by len offset end buffer l l.answer

-- A part of a file's links, `len` bytes at the buffer's front, of which the first is byte `offset` of the file.
unfoldable pub feed_part : State → (f h buffer : List ℕ) → (len offset : ℕ) → Bool → Feeds
feed_part s f h buffer len offset last =
    pick (nat_lt (length buffer) len)
    (record { left = record { answer = refuses 3 0; state = s; frag = f; held = h }; buffer = buffer })
    (fed len offset (tellable len last buffer) buffer (take_call s f h (take (tellable len last buffer) buffer)))
