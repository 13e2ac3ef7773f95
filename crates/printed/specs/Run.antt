-- Runs of telling: calls of `telling::tell` in which each gets the record, the tables and the front of the buffer as the call before left them, and
-- is told what was read behind it. Definitions only.
-- Assumes nothing.
use Rattle.std.specs.Prelude.{ℕ, ◌+◌, ◌≤◌, List, [], ◌∷◌, ◌++◌, ◌≡◌, length, take, drop}
use Rattle.numbers.specs.Number.{groups_most}
use Rattle.telling.specs.Tell.{Goes, reads, rereads, beginning, tell_call}
use Rattle.telling.specs.declared.Telling.{Telling}
use Rattle.telling.specs.declared.Heard.{Heard}
use Rattle.telling.specs.declared.Heard.TheVariants.{Bytes, End}
use Rattle.printed.specs.Printed.{Lent}

-- A moment of a run: the record, the tables and the buffer as the last call left them, and what was read up to here.
pub record Moment : Type 0 where
  pub telling : Telling
  pub frag : List ℕ
  pub held : List ℕ
  pub buffer : List ℕ
  -- the bytes that each pass read that has ended, the first pass first
  pub passes : List (List ℕ)
  -- the bytes that the pass under way read up to here
  pub bytes : List ℕ

-- A read put `count` bytes behind those at the buffer's front, which stay as they are. What else it did to the buffer does not matter.
pub record Reads (m : Moment) (b : List ℕ) (count : ℕ) : Type 0 where
  pub as_long : length b ≡ length m.buffer
  pub front : take m.telling.have b ≡ take m.telling.have m.buffer
  pub fits : m.telling.have + count ≤ length b

-- The bytes that it put there.
abbrev pub got : Moment → List ℕ → ℕ → List ℕ
got m b count = take count (drop m.telling.have b)

-- What is answered at a moment with the buffer b, a text that is lent, and what was heard.
abbrev pub answer : Moment → (b text : List ℕ) → Heard → Goes
answer m b text heard = tell_call m.telling m.frag m.held b text heard

unfoldable pub onward : Moment → Goes → Telling → List ℕ → Moment
onward m g t p = record { telling = t; frag = g.turn.frag; held = g.turn.held; buffer = g.buffer; passes = m.passes; bytes = m.bytes ++ p }

unfoldable pub anew : Moment → Goes → Telling → Moment
anew m g t = record { telling = t; frag = g.turn.frag; held = g.turn.held; buffer = g.buffer; passes = m.passes ++ (m.bytes ∷ []); bytes = [] }

pub data Run (w : Lent) : Moment → Type 0 where
  -- the buffer has room for a link
  begins : (f h b : List ℕ) → length f ≡ w.frags → length h ≡ w.helds → groups_most + groups_most ≤ length b
      → Run w (record { telling = beginning w.k; frag = f; held = h; buffer = b; passes = []; bytes = [] })
  -- 'more from here': so many bytes were read, and more is asked for
  more : {m : Moment} → Run w m → (b text : List ℕ) (count : ℕ) → Reads m b count → (t : Telling)
      → (answer m b text (Bytes count)).turn.said.does ≡ reads t → Run w (onward m (answer m b text (Bytes count)) t (got m b count))
  -- 'again from the start': the file ended
  again : {m : Moment} → Run w m → (b text : List ℕ) → Reads m b 0 → (t : Telling)
      → (answer m b text End).turn.said.does ≡ rereads t → Run w (anew m (answer m b text End) t)
