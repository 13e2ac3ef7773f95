-- For each answer that is an enum, document 01's number and values for every case, with the state and the tables that go with it. Definitions only.
-- Assumes nothing.
use Rattle.std.specs.Prelude.{ℕ, Bool, List, Result, Ok, Err}
use Rattle.base.specs.Answer.{Answer, gives, refuses}
use Rattle.numbers.specs.declared.Refusal.{Refusal}
use Rattle.state.specs.Call.{Begun, Left, refused}
use Rattle.state.specs.Close.{Ending, more, whole, read}
use Rattle.state.specs.declared.State.{State}
use Rattle.state.specs.declared.Closed.{Closed}
use Rattle.state.specs.declared.Closed.TheVariants.{More, Done, Read, False}

-- The state to begin with, or the refusal.
abbrev pub Started : Type 0
Started = Result State Refusal

-- The state to go on with, or the refusal: then the state is as it was.
abbrev pub Taken : Type 0
Taken = Result State Refusal

-- How a pass ended, or the refusal.
abbrev pub Ended : Type 0
Ended = Result Closed Refusal

-- The number asked for.
abbrev pub Asked : Type 0
Asked = Result ℕ Refusal

-- Yes or no.
abbrev pub Judged : Type 0
Judged = Result Bool Refusal

abbrev pub begun_told : Started → List ℕ → List ℕ → Begun
begun_told (Ok s) f h = record { answer = gives s; frag = f; held = h }
begun_told (Err r) f h = record { answer = refuses r.number r.place; frag = f; held = h }

-- What an accepted call leaves.
abbrev pub told : {A : Type 0} → A → State → List ℕ → List ℕ → Left A
told answer s f h = record { answer = gives answer; state = s; frag = f; held = h }

-- The first argument is the state that the call was given.
abbrev pub taken_told : State → Taken → List ℕ → List ℕ → Left (Unit {0})
taken_told s (Ok s') f h = told tt s' f h
taken_told s (Err r) f h = refused s f h r.number r.place

abbrev pub closed_told : State → Ended → List ℕ → List ℕ → Left Ending
closed_told s (Ok (More s')) f h = told more s' f h
closed_told s (Ok (Done s')) f h = told whole s' f h
closed_told s (Ok (Read s')) f h = told read s' f h
closed_told s (Ok (False s')) f h = refused s' f h 9 0
closed_told s (Err r) f h = refused s f h r.number r.place

abbrev pub asked_told : Asked → Answer ℕ
asked_told (Ok x) = gives x
asked_told (Err r) = refuses r.number r.place

abbrev pub judged_told : Judged → Answer Bool
judged_told (Ok b) = gives b
judged_told (Err r) = refuses r.number r.place
