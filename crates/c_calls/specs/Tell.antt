-- What beginning a telling and telling leave in C: begin and tell of crate `telling`, on the telling that the words hold. Definitions only.
-- Assumes nothing.
use Rattle.std.specs.Prelude.{ℕ, List, length, ltb}
use Rattle.base.specs.Pick.{pick}
use Rattle.telling.specs.Tell.{Goes, beginning, tell_call}
use Rattle.c_telling.specs.Telling.{telling_size, telling_in, telling_words, heard_in}
use Rattle.c_telling.specs.Answers.{Ended, ended, does_end}

-- 'a lent table .. is too short': 3, and nothing is written.
unfoldable pub c_begin : ℕ → List ℕ → Ended
c_begin k w = pick (ltb (length w) telling_size) (ended 3 w) (ended 0 (telling_words (beginning k) w))

-- What telling leaves: the number and the words of the telling, both tables, the buffer and the text.
pub record Told : Type 0 where
  pub end : Ended
  pub frag : List ℕ
  pub held : List ℕ
  pub buffer : List ℕ
  pub text : List ℕ

abbrev pub told : Ended → (f h buffer text : List ℕ) → Told
told end f h buffer text = record { end = end; frag = f; held = h; buffer = buffer; text = text }

unfoldable pub goes_told : List ℕ → Goes → Told
goes_told w g = told (does_end g.turn.said.does w) g.turn.frag g.turn.held g.buffer g.turn.said.text

unfoldable pub c_tell : (w f h buffer text : List ℕ) → (heard : ℕ) → Told
c_tell w f h buffer text heard =
    pick (ltb (length w) telling_size) (told (ended 3 w) f h buffer text)
    (goes_told w (tell_call (telling_in w) f h buffer text (heard_in heard)))
