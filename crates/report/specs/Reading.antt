-- What is heard of a read, and what it leaves of the buffer. Definitions only.
-- Assumes nothing.
use Rattle.std.specs.Prelude.{ℕ, ◌+◌, ◌≤◌, Bool, List, [], ◌≡◌, ltb, eqb, length, take, drop, Option}
use Rattle.std.specs.Io.KnownBytes.{Consumes, IsAtEnd, Keeps}
use Rattle.base.specs.Pick.{pick}
use Rattle.telling.specs.declared.Heard.{Heard}
use Rattle.telling.specs.declared.Heard.TheVariants.{Bytes, End, Failed, NoFile}

-- What is heard is neither bytes nor the end of a file.
abbrev pub Silent : Heard → Type 0
Silent (Bytes count) = ⊥
Silent End = ⊥
Silent Failed = Unit
Silent NoFile = Unit

unfoldable pub heard_of : Bool → (room count : ℕ) → Heard
heard_of failed room count = pick failed Failed (pick (ltb room count) Failed (pick (eqb count 0) End (Bytes count)))

-- So many bytes are in the buffer.
abbrev pub Fits : (have : ℕ) → Heard → List ℕ → Type 0
Fits have (Bytes count) b = have + count ≤ length b
Fits have End b = Unit
Fits have Failed b = Unit
Fits have NoFile b = Unit

-- The buffer is as long as it was, and its first `have` bytes are what they were.
pub record Hears (have : ℕ) (b : List ℕ) (r : Heard) (b' : List ℕ) : Type 0 where
  pub as_long : length b' ≡ length b
  pub front : take have b' ≡ take have b
  pub fits : Fits have r b'

-- What is told of a file whose bytes are known: those told stand behind the first `have` and are the next that it had; none was left at the end; a read
-- that failed took none; and a file that is open is never told as missing.
abbrev pub Gives : (left left' : Option (List ℕ)) (have : ℕ) → Heard → List ℕ → Type 0
Gives left left' have (Bytes count) b = Consumes left left' (take count (drop have b))
Gives left left' have End b = Consumes left left' [] × IsAtEnd left'
Gives left left' have Failed b = Keeps left left'
Gives left left' have NoFile b = ⊥
