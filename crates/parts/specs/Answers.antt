-- What each answer of this crate says, for every case of the enum. Definitions only.
-- Assumes nothing.
use Rattle.std.specs.Prelude.{ℕ, List, Result, Ok, Err}
use Rattle.base.specs.Answer.{gives, refuses}
use Rattle.numbers.specs.declared.Refusal.{Refusal}
use Rattle.state.specs.declared.State.{State}
use Rattle.parts.specs.Parts.{Opens, Feeds}

-- The number of fragments, the byte of the file where the links begin, and how many bytes of them are there.
abbrev pub Opened : Type 0
Opened = Result (ℕ × ℕ × ℕ) Refusal

-- The state to go on with, the byte of the file that stands at the buffer's front now, and how many bytes stand there.
abbrev pub Fed : Type 0
Fed = Result (State × ℕ × ℕ) Refusal

abbrev pub opened_told : Opened → List ℕ → Opens
opened_told (Ok (n, begins, have)) buffer = record { answer = gives (record { fragments = n; begins = begins; have = have }); buffer = buffer }
opened_told (Err r) buffer = record { answer = refuses r.number r.place; buffer = buffer }

-- The first argument is the state that the call was given.
abbrev pub fed_told : State → Fed → (f h buffer : List ℕ) → Feeds
fed_told s (Ok (s', offset, have)) f h buffer = record {
  left = record { answer = gives (record { offset = offset; have = have }); state = s'; frag = f; held = h };
  buffer = buffer;
}
fed_told s (Err r) f h buffer = record {
  left = record { answer = refuses r.number r.place; state = s; frag = f; held = h };
  buffer = buffer;
}
