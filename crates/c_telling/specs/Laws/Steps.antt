-- What the functions on a telling leave, at each of their answers.
-- Assumes nothing.
use Rattle.std.specs.Prelude.{ℕ, ◌≤◌, ◌<◌, ◌≡◌, refl, List, [], ◌∷◌, length, get_or, Result, Ok, Err}
use Rattle.std.specs.Result.{result_unwrap_or}
use Rattle.std.proofs.Common.{arith}
use Rattle.std.proofs.lemmas.List.Edits.{sets, sets-eq}
use Rattle.base.specs.Pick.{tests}
use Rattle.state.specs.declared.State.{State}
use Rattle.state.specs.declared.Stage.TheVariants.{Built}
use Rattle.numbers.specs.declared.Refusal.{Refusal}
use Rattle.c_words.specs.State.{state_in, state_words}
use Rattle.c_words.specs.Pair.{low_word, high_word, joined}
use Rattle.telling.specs.Tell.{next_does}
use Rattle.telling.specs.StepNumber.{Names}
use Rattle.telling.specs.declared.steps.UnknownStep.{UnknownStep}
use Rattle.telling.specs.declared.Step.{Step}
use Rattle.telling.specs.declared.Step.TheVariants.{First, Head, Links, Over}
use Rattle.telling.specs.declared.Telling.{Telling}
use Rattle.telling.specs.declared.Heard.TheVariants.{Bytes, End, Failed, NoFile}
use Rattle.telling.specs.declared.Next.{Next}
use Rattle.telling.specs.declared.Next.TheVariants.{More, Again, Report, Refused, NoFile as Absent, Failed as Unread}
use Rattle.c_telling.specs.Telling.{step_in, have_in, telling_in, step_word, rest_list, rest_words, telling_words, heard_in}
use Rattle.c_telling.specs.Answers.{ended, over_words, does_end}

-- The step of a word.
module _ (x : ℕ) where
  pub step_0 : x ≡ 0 → First ≡ step_in x
  unfolding step_in
  step_0 p = simp tests

  module _ (h0 : x ≡ 0 → ⊥) where
    pub step_1 : x ≡ 1 → Head ≡ step_in x
    unfolding step_in
    step_1 p = simp tests

    module _ (h1 : x ≡ 1 → ⊥) where
      pub step_2 : x ≡ 2 → Links ≡ step_in x
      unfolding step_in
      step_2 p = simp tests

      pub step_over : (x ≡ 2 → ⊥) → Over ≡ step_in x
      unfolding step_in
      step_over p = simp tests

pub step_told : (x : ℕ) (r : Result Step UnknownStep) → Names x r → result_unwrap_or r Over ≡ step_in x
step_told x (Ok First) p = step_0 x p
step_told x (Ok Head) p = step_1 x (omega (arith, p)) p
step_told x (Ok Links) p = step_2 x (omega (arith, p)) (omega (arith, p)) p
step_told x (Ok Over) p = step_over x (omega (arith, p)) (omega (arith, p)) (omega (arith, p))
step_told x (Err e) p = step_over x (omega (arith, p.1)) (omega (arith, p.1)) (omega (arith, p.1))

-- The bytes at the buffer's front.
pub have_over : (x low high : ℕ) → 2 < x → 0 ≡ have_in x low high
unfolding have_in
have_over x low high p = simp tests

pub have_on : (x low high r : ℕ) → x ≤ 2 → r ≡ joined low high → r ≡ have_in x low high
unfolding have_in
have_on x low high r p e = rw e (simp tests)

-- What was heard.
module _ (x : ℕ) where
  pub heard_end : x ≡ 0 → End ≡ heard_in x
  unfolding heard_in
  heard_end p = simp tests

  module _ (h0 : x ≡ 0 → ⊥) where
    pub heard_failed : x ≡ 18446744073709551615 → Failed ≡ heard_in x
    unfolding heard_in
    heard_failed p = simp tests

    module _ (h1 : x ≡ 18446744073709551615 → ⊥) where
      pub heard_none : x ≡ 18446744073709551614 → NoFile ≡ heard_in x
      unfolding heard_in
      heard_none p = simp tests

      pub heard_bytes : (x ≡ 18446744073709551614 → ⊥) → Bytes x ≡ heard_in x
      unfolding heard_in
      heard_bytes p = simp tests

-- The telling, part by part.
pub telling_in_lem : (w : List ℕ) (t : Telling) (x a b c d : ℕ) → x ≡ get_or w 7 0 → a ≡ get_or w 8 0 → b ≡ get_or w 9 0 → c ≡ get_or w 10 0 → d ≡ get_or w 11 0
    → t.state ≡ state_in Built w → t.step ≡ step_in x → t.offset ≡ joined a b → t.have ≡ have_in x c d → t ≡ telling_in w
unfolding telling_in
telling_in_lem w t x a b c d ex ea eb ec ed s p o h = rw (← ex, ← ea, ← eb, ← ec, ← ed) λ i. record { state = s i; step = p i; offset = o i; have = h i }

-- The stores of its words behind the state, one after another.
module _ (step place count number : ℕ) (w : List ℕ) where
  pub rest_short : length w < 13 → w ≡ rest_words step place count number w
  unfolding rest_words
  rest_short p = simp tests

  pub rest_stored : (a b c d : ℕ) → 13 ≤ length w → a ≡ low_word place → b ≡ high_word place → c ≡ low_word count → d ≡ high_word count
      → sets w 7 (step ∷ a ∷ b ∷ c ∷ d ∷ number ∷ []) ≡ rest_words step place count number w
  unfolding rest_words
  rest_stored a b c d l ea eb ec ed = rw (ea, eb, ec, ed) (simp tests (sets-eq (rest_list step place count number) w 7 l))

pub telling_stored : (t : Telling) (w u v : List ℕ) (x : ℕ) → x ≡ step_word t.step → u ≡ state_words t.state w → v ≡ rest_words x t.offset t.have 0 u → v ≡ telling_words t w
unfolding telling_words
telling_stored t w u v x ex eu ev = rw (ev, eu, ex) refl

-- The arms of an answer a: the words w' that were written over w.
module _ (w w' : List ℕ) (a : Next) where
  pub end_more : (t : Telling) → a ≡ More t → w' ≡ telling_words t w → ended 0 w' ≡ does_end (next_does a) w
  end_more t p q = rw (p, q) refl

  pub end_again : (t : Telling) → a ≡ Again t → w' ≡ telling_words t w → ended 1 w' ≡ does_end (next_does a) w
  end_again t p q = rw (p, q) refl

  pub end_report : (s : State) (size : ℕ) (u : List ℕ) → a ≡ Report s size → u ≡ state_words s w → w' ≡ over_words 0 size 0 u → ended 2 w' ≡ does_end (next_does a) w
  end_report s size u p e q = rw (p, q, e) refl

  pub end_refused : (r : Refusal) (size : ℕ) → a ≡ Refused r size → w' ≡ over_words r.place size r.number w → ended 3 w' ≡ does_end (next_does a) w
  end_refused r size p q = rw (p, q) refl

  pub end_absent : (size : ℕ) → a ≡ Absent size → w' ≡ over_words 0 size 0 w → ended 4 w' ≡ does_end (next_does a) w
  end_absent size p q = rw (p, q) refl

  pub end_unread : a ≡ Unread → w' ≡ over_words 0 0 0 w → ended 5 w' ≡ does_end (next_does a) w
  end_unread p q = rw (p, q) refl
