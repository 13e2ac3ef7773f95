-- What each answer of this crate says: document 01's number and values for every case of the enum.
-- Assumes nothing.
use Rattle.std.specs.Prelude.{ℕ, List, Result, Ok, Err, ◌≡◌}
use Rattle.base.specs.Answer.{Answer, gives, refuses}
use Rattle.numbers.specs.Number.{Numeral, Wrote}
use Rattle.numbers.specs.declared.Refusal.{Refusal}
use Rattle.numbers.specs.declared.Why.{Why}
use Rattle.numbers.specs.declared.Why.TheVariants.{Fragments, Room, Short, NoFragment, Same, Stage, Form, Unfinished, Differs, Parents, Tables, Entries}

-- The first column of document 01's table of refusals.
abbrev pub number_of : Why → ℕ
number_of Fragments = 1
number_of Room = 2
number_of Short = 3
number_of NoFragment = 4
number_of Same = 5
number_of Stage = 6
number_of Form = 7
number_of Unfinished = 8
number_of Differs = 9
number_of Parents = 10
number_of Tables = 11
number_of Entries = 12

-- 'Each returns its number and a place'
abbrev pub refused : {A : Type 0} → Refusal → Answer A
refused r = refuses r.number r.place

-- 'and 0 otherwise'
abbrev pub refused_for : {A : Type 0} → Why → Answer A
refused_for w = refuses (number_of w) 0

abbrev pub of_no_place : Why → Refusal → Type 0
of_no_place w r = (r.number ≡ number_of w) × (r.place ≡ 0)

-- The number of the refusal that is due, 0 where none is.
abbrev pub due : Result (Unit {0}) Why → ℕ
due (Ok _) = 0
due (Err w) = number_of w

abbrev pub told : Result (ℕ × ℕ) Why → Answer Numeral
told (Ok (value, next)) = gives (record { value = value; next = next })
told (Err w) = refused_for w

abbrev pub told_end : Result ℕ Why → Answer ℕ
told_end (Ok next) = gives next
told_end (Err w) = refused_for w

-- A call of the writer: its answer, and the buffer as it leaves it.
abbrev pub wrote : Result ℕ Why → List ℕ → Wrote
wrote w buffer = record { answer = told_end w; buffer = buffer }
