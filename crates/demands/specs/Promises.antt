-- What a call answered, and how it left the tables: an answer and tables that meet the promise of the function, which stands here as in its contract. (That this
-- is what the checker reads in the contracts of `State::start` and of the functions of `forest` is Calls.antt.) Definitions only.
-- Assumes nothing.
use Rattle.std.specs.Prelude.{ℕ, ◌≡◌, Bool, true, false, List, eqb, Ok, Err}
use Rattle.base.specs.Answer.{Answer}
use Rattle.state.specs.Call.{Begun, Left}
use Rattle.state.specs.Start.{start_call}
use Rattle.state.specs.Adopt.{adopt_call}
use Rattle.state.specs.Take.{take_call}
use Rattle.state.specs.Close.{Ending, open_call, close_call}
use Rattle.state.specs.Ask.{parent_call, level_call, piece_call, cut_call, sole_call}
use Rattle.state.specs.Answers.{Asked, Ended, Judged, Started, Taken, begun_told, taken_told, closed_told, asked_told, judged_told}
use Rattle.state.specs.declared.State.{State}
use Rattle.state.specs.declared.Closed.TheVariants.{More, Done, Read, False}

-- A call that begins a state and is to leave x.
pub record Begins (x : Begun) : Type 0 where
  pub answer : Started
  pub frag : List ℕ
  pub held : List ℕ
  pub promise : begun_told answer frag held ≡ x

abbrev pub StartAnswer : (n k : ℕ) → List ℕ → List ℕ → Type 0
StartAnswer n k f h = Begins (start_call n k f h)

abbrev pub AdoptAnswer : (n k : ℕ) → List ℕ → List ℕ → List ℕ → Type 0
AdoptAnswer n k ps f h = Begins (adopt_call n k ps f h)

-- A take or open reading that was given the state s.
pub record Takes (s : State) (x : Left (Unit {0})) : Type 0 where
  pub answer : Taken
  pub frag : List ℕ
  pub held : List ℕ
  pub promise : taken_told s answer frag held ≡ x

abbrev pub TakeAnswer : State → List ℕ → List ℕ → List ℕ → Type 0
TakeAnswer s f h block = Takes s (take_call s f h block)

abbrev pub OpenAnswer : State → List ℕ → List ℕ → Type 0
OpenAnswer s f h = Takes s (open_call s f h)

-- A close.
pub record Closes (s : State) (x : Left Ending) : Type 0 where
  pub answer : Ended
  pub frag : List ℕ
  pub held : List ℕ
  pub promise : closed_told s answer frag held ≡ x

abbrev pub CloseAnswer : State → List ℕ → List ℕ → Type 0
CloseAnswer s f h = Closes s (close_call s f h)

-- The questions: an answer and nothing else,
pub record Asks (x : Answer ℕ) : Type 0 where
  pub answer : Asked
  pub promise : asked_told answer ≡ x

abbrev pub ParentAnswer : State → List ℕ → List ℕ → ℕ → Type 0
ParentAnswer s f h v = Asks (parent_call s f h v)

abbrev pub LevelAnswer : State → List ℕ → List ℕ → ℕ → Type 0
LevelAnswer s f h v = Asks (level_call s f h v)

pub record SoleAnswer (s : State) (f h : List ℕ) (a b : ℕ) : Type 0 where
  pub answer : Judged
  pub promise : judged_told answer ≡ sole_call s f h a b

pub record CutAnswer (s : State) (f h : List ℕ) (v : ℕ) : Type 0 where
  pub answer : Judged
  pub promise : judged_told answer ≡ cut_call s f h v

-- but for piece, which is lent the fragment table to write in.
pub record PieceAnswer (s : State) (f h : List ℕ) (v : ℕ) : Type 0 where
  pub answer : Asked
  pub frag : List ℕ
  pub promise : (asked_told answer ≡ piece_call s f h v) × (frag ≡ f)

-- How a call went. Take and open reading: accepted.
abbrev pub goes_on : Taken → Bool
goes_on (Ok s) = true
goes_on (Err r) = false

-- 'Close ends a pass: in Building it answers more or done'
abbrev pub ends_building : Ended → Bool
ends_building (Ok (More s)) = true
ends_building (Ok (Done s)) = true
ends_building (Ok (Read s)) = false
ends_building (Ok (False s)) = false
ends_building (Err r) = false

-- 'in Reading it gives Read
abbrev pub ends_read : Ended → Bool
ends_read (Ok (More s)) = false
ends_read (Ok (Done s)) = false
ends_read (Ok (Read s)) = true
ends_read (Ok (False s)) = false
ends_read (Err r) = false

-- or refusal 9.'
abbrev pub ends_false : Ended → Bool
ends_false (Ok (More s)) = false
ends_false (Ok (Done s)) = false
ends_false (Ok (Read s)) = false
ends_false (Ok (False s)) = true
ends_false (Err r) = false

-- The refusals that change something: 9, 'the one refusal that changes anything'.
abbrev pub changes : ℕ → Bool
changes number = eqb number 9
