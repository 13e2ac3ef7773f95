-- What a telling answers, as a C call makes it: the number that is returned, and the words of the telling. Definitions only.
-- Assumes nothing.
use Rattle.std.specs.Prelude.{ℕ, List}
use Rattle.c_words.specs.State.{state_words}
use Rattle.telling.specs.Tell.{Does, reads, rereads, reports, refuses_at, lacks, fails}
use Rattle.telling.specs.declared.Step.TheVariants.{Over}
use Rattle.c_telling.specs.Telling.{step_word, rest_words, telling_words}

-- The number that is answered, and the words of the telling.
pub record Ended : Type 0 where
  pub number : ℕ
  pub words : List ℕ

abbrev pub ended : ℕ → List ℕ → Ended
ended number w = record { number = number; words = w }

-- The telling is over: a place in the file, how many bytes of the text are to be printed, the number of the refusal.
abbrev pub over_words : (place size number : ℕ) → List ℕ → List ℕ
over_words place size number w = rest_words (step_word Over) place size number w

-- What to do next, in a number.
abbrev pub does_number : Does → ℕ
does_number (reads t) = 0
does_number (rereads t) = 1
does_number (reports s size) = 2
does_number (refuses_at number place size) = 3
does_number (lacks size) = 4
does_number fails = 5

-- The words: the telling to go on with; of a list that was read its state; else the state's words as they were.
abbrev pub does_words : Does → List ℕ → List ℕ
does_words (reads t) w = telling_words t w
does_words (rereads t) w = telling_words t w
does_words (reports s size) w = over_words 0 size 0 (state_words s w)
does_words (refuses_at number place size) w = over_words place size number w
does_words (lacks size) w = over_words 0 size 0 w
does_words fails w = over_words 0 0 0 w

abbrev pub does_end : Does → List ℕ → Ended
does_end d w = ended (does_number d) (does_words d w)
