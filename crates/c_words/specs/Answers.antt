-- For each answer that is an enum, what a C call makes of it: the number that it returns (0: accepted), the word for the answer, and the words of the state.
-- Definitions only.
-- Assumes nothing.
use Rattle.std.specs.Prelude.{ℕ, List, Ok, Err, true, false}
use Rattle.c_words.specs.State.{state_words}
use Rattle.state.specs.declared.Closed.TheVariants.{More, Done, Read, False}
use Rattle.state.specs.Answers.{Asked, Ended as Closes, Judged, Started, Taken}

-- The refusal's number and the word for the answer; of a refusal, its place.
pub record Reply : Type 0 where
  pub number : ℕ
  pub word : ℕ

abbrev pub reply : ℕ → ℕ → Reply
reply number word = record { number = number; word = word }

-- The same, with the words of the state.
pub record Ended : Type 0 where
  pub reply : Reply
  pub state : List ℕ

abbrev pub ended : ℕ → ℕ → List ℕ → Ended
ended number word w = record { reply = reply number word; state = w }

-- Start and adopt, and open reading, have no word for their answer.
abbrev pub begun_end : Started → List ℕ → Ended
begun_end (Ok s) w = ended 0 0 (state_words s w)
begun_end (Err r) w = ended r.number 0 w

abbrev pub opened_end : Taken → List ℕ → Ended
opened_end (Ok s) w = ended 0 0 (state_words s w)
opened_end (Err r) w = ended r.number 0 w

abbrev pub taken_end : Taken → List ℕ → Ended
taken_end (Ok s) w = ended 0 0 (state_words s w)
taken_end (Err r) w = ended r.number r.place w

-- How a pass ended: 0 more, 1 done, 2 read.
abbrev pub closed_end : Closes → List ℕ → Ended
closed_end (Ok (More s)) w = ended 0 0 (state_words s w)
closed_end (Ok (Done s)) w = ended 0 1 (state_words s w)
closed_end (Ok (Read s)) w = ended 0 2 (state_words s w)
closed_end (Ok (False s)) w = ended 9 0 (state_words s w)
closed_end (Err r) w = ended r.number r.place w

abbrev pub asked_reply : Asked → Reply
asked_reply (Ok x) = reply 0 x
asked_reply (Err r) = reply r.number r.place

abbrev pub judged_reply : Judged → Reply
judged_reply (Ok true) = reply 0 1
judged_reply (Ok false) = reply 0 0
judged_reply (Err r) = reply r.number r.place
