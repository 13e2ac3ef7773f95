-- How an array of words holds a telling: the state, the step, the byte of the file at the buffer's front, how many bytes stand there. Definitions
-- only; docs/LINKING.md has it in words.
-- Assumes nothing.
use Rattle.std.specs.Prelude.{ℕ, ◌≤◌, ◌≡◌, List, [], ◌∷◌, ◌++◌, length, get_or, take, drop, ltb, eqb}
use Rattle.base.specs.Pick.{pick}
use Rattle.state.specs.declared.Stage.TheVariants.{Built}
use Rattle.c_words.specs.State.{state_size, state_in, state_words, Holds, Fits}
use Rattle.c_words.specs.Pair.{low_word, high_word, joined}
use Rattle.telling.specs.declared.Step.{Step}
use Rattle.telling.specs.declared.Step.TheVariants.{First, Head, Links, Over}
use Rattle.telling.specs.declared.Telling.{Telling}
use Rattle.telling.specs.declared.Heard.{Heard}
use Rattle.telling.specs.declared.Heard.TheVariants.{Bytes, End, Failed, NoFile}

-- Words of a telling.
abbrev pub telling_size : ℕ
telling_size = 13

-- The step that a word stands for; a word above 2 is over.
unfoldable pub step_in : ℕ → Step
step_in x = pick (eqb x 0) First (pick (eqb x 1) Head (pick (eqb x 2) Links Over))

-- How many bytes stand at the buffer's front, of the words for the step and for the number: none where the telling is over, whose words have the
-- size of the text there.
unfoldable pub have_in : (step low high : ℕ) → ℕ
have_in step low high = pick (ltb 2 step) 0 (joined low high)

-- The telling in an array of words. A stage word above 3 is read as Built, in which neither take nor close is allowed: refusal 6, in its order.
unfoldable pub telling_in : List ℕ → Telling
telling_in w = record {
  state = state_in Built w;
  step = step_in (get_or w 7 0);
  offset = joined (get_or w 8 0) (get_or w 9 0);
  have = have_in (get_or w 7 0) (get_or w 10 0) (get_or w 11 0);
}

abbrev pub step_word : Step → ℕ
step_word First = 0
step_word Head = 1
step_word Links = 2
step_word Over = 3

-- The words behind the state: the step, a place in the file, a count of bytes, the number of a refusal;
abbrev pub rest_list : (step place count number : ℕ) → List ℕ
rest_list step place count number = step ∷ low_word place ∷ high_word place ∷ low_word count ∷ high_word count ∷ number ∷ []

-- over the words that stood there: those of the state and those past the thirteenth stay, and an array too short stays as it is.
unfoldable pub rest_words : (step place count number : ℕ) → List ℕ → List ℕ
rest_words step place count number w = pick (ltb (length w) telling_size) w (take state_size w ++ rest_list step place count number ++ drop telling_size w)

unfoldable pub telling_words : Telling → List ℕ → List ℕ
telling_words t w = rest_words (step_word t.step) t.offset t.have 0 (state_words t.state w)

-- What was heard: the answer of a read, where 0 is the end of the file and -1, in 64 bits, a read that failed; -2 stands for no such file.
unfoldable pub heard_in : ℕ → Heard
heard_in x = pick (eqb x 0) End (pick (eqb x 18446744073709551615) Failed (pick (eqb x 18446744073709551614) NoFile (Bytes x)))

-- A telling that is over has no bytes at the buffer's front.
abbrev pub NoneOver : Telling → Type 0
NoneOver t = t.step ≡ Over → t.have ≡ 0

-- The words w hold the telling t: there are enough, and it is read in them, its state whatever stage a bad stage word is read as.
pub record HoldsTelling (w : List ℕ) (t : Telling) : Type 0 where
  pub long : telling_size ≤ length w
  pub reads : telling_in w ≡ t
  pub state : Holds w t.state
  pub fits : Fits t.state

-- What the words of a telling that is over say: the place p, so many bytes of the text, the refusal r.
pub record SaysOver (w : List ℕ) (p bytes r : ℕ) : Type 0 where
  pub step : step_in (get_or w 7 0) ≡ Over
  pub place : joined (get_or w 8 0) (get_or w 9 0) ≡ p
  pub size : joined (get_or w 10 0) (get_or w 11 0) ≡ bytes
  pub number : get_or w 12 0 ≡ r
