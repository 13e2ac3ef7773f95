-- What the functions leave, at each of their answers.
-- Assumes nothing.
use Rattle.std.specs.Prelude.{ℕ, ◌≤◌, ◌<◌, ◌≡◌, refl, List, [], ◌∷◌, length, get_or, eqb, Result, Ok, Err, true, false}
use Rattle.std.specs.Result.{result_unwrap_or}
use Rattle.std.proofs.Common.{arith}
use Rattle.std.proofs.lemmas.List.Edits.{sets, sets-eq}
use Rattle.base.specs.Pick.{tests}
use Rattle.c_words.specs.State.{stage_in, entries_in, state_in, stage_word, mark_word, word_for, word_most, state_list, state_words}
use Rattle.c_words.specs.Answers.{reply, ended, begun_end, opened_end, taken_end, closed_end, asked_reply, judged_reply}
use Rattle.numbers.specs.declared.Refusal.{Refusal}
use Rattle.state.specs.declared.State.{State}
use Rattle.state.specs.declared.Stage.{Stage}
use Rattle.state.specs.declared.Stage.TheVariants.{Building, Built, Reading, Read}
use Rattle.state.specs.declared.Closed.TheVariants.{More, Done, Read as Whole, False}
use Rattle.state.specs.declared.stages.UnknownStage.{UnknownStage}
use Rattle.state.specs.StageNumber.{Names}
use Rattle.state.specs.Answers.{Asked, Ended, Judged, Started, Taken}

-- The stage of a word.
module _ (other : Stage) (x : ℕ) where
  pub stage_0 : x ≡ 0 → Building ≡ stage_in other x
  unfolding stage_in
  stage_0 p = simp tests

  module _ (h0 : x ≡ 0 → ⊥) where
    pub stage_1 : x ≡ 1 → Built ≡ stage_in other x
    unfolding stage_in
    stage_1 p = simp tests

    module _ (h1 : x ≡ 1 → ⊥) where
      pub stage_2 : x ≡ 2 → Reading ≡ stage_in other x
      unfolding stage_in
      stage_2 p = simp tests

      module _ (h2 : x ≡ 2 → ⊥) where
        pub stage_3 : x ≡ 3 → Read ≡ stage_in other x
        unfolding stage_in
        stage_3 p = simp tests

        pub stage_other : (x ≡ 3 → ⊥) → other ≡ stage_in other x
        unfolding stage_in
        stage_other p = simp tests

pub stage_told : (other : Stage) (x : ℕ) (r : Result Stage UnknownStage) → Names x r → result_unwrap_or r other ≡ stage_in other x
stage_told other x (Ok Building) p = stage_0 other x p
stage_told other x (Ok Built) p = stage_1 other x (omega (arith, p)) p
stage_told other x (Ok Reading) p = stage_2 other x (omega (arith, p)) (omega (arith, p)) p
stage_told other x (Ok Read) p = stage_3 other x (omega (arith, p)) (omega (arith, p)) (omega (arith, p)) p
stage_told other x (Err e) p = stage_other other x (omega (arith, p.1)) (omega (arith, p.1)) (omega (arith, p.1)) (omega (arith, p.1))

pub entries_bad : (e m : ℕ) → 1 < m → 16777216 ≡ entries_in e m
unfolding entries_in
entries_bad e m p = simp tests

pub entries_good : (e m r : ℕ) → m ≤ 1 → r ≡ e → r ≡ entries_in e m
unfolding entries_in
entries_good e m r p q = rw q (simp tests)

pub word_fits_lem : (x : ℕ) → x ≤ word_most → x ≡ word_for x
unfolding word_for
word_fits_lem x p = simp tests

pub word_over : (x : ℕ) → word_most < x → word_most ≡ word_for x
unfolding word_for
word_over x p = simp tests

-- The state, part by part: x, e and m are the words for the stage, the entries and the mark.
pub state_in_lem : (other : Stage) (w : List ℕ) (s : State) (x e m : ℕ) → x ≡ get_or w 2 0 → e ≡ get_or w 4 0 → m ≡ get_or w 6 0
    → s.n ≡ get_or w 0 0 → s.k ≡ get_or w 1 0 → s.stage ≡ stage_in other x → s.passes ≡ get_or w 3 0 → s.entries ≡ entries_in e m → s.held ≡ get_or w 5 0
    → s.crossed ≡ eqb m 1 → s ≡ state_in other w
unfolding state_in
state_in_lem other w s x e m ex ee em a b c d f g h = rw (← ex, ← ee, ← em) λ i. record { n = a i; k = b i; stage = c i; passes = d i; entries = f i; held = g i; crossed = h i }

-- The stores of its words, one after another.
pub state_stored : (s : State) (w : List ℕ) (a b c d e f g : ℕ) → 7 ≤ length w → a ≡ word_for s.n → b ≡ word_for s.k → c ≡ stage_word s.stage → d ≡ word_for s.passes
    → e ≡ word_for s.entries → f ≡ word_for s.held → g ≡ mark_word s.crossed → sets w 0 (a ∷ b ∷ c ∷ d ∷ e ∷ f ∷ g ∷ []) ≡ state_words s w
unfolding state_words
state_stored s w a b c d e f g l ea eb ec ed ee ef eg = rw (ea, eb, ec, ed, ee, ef, eg) (simp tests (sets-eq (state_list s) w 0 l))

pub state_short : (s : State) (w : List ℕ) → length w < 7 → w ≡ state_words s w
unfolding state_words
state_short s w p = simp tests

-- The arms of each answer a: the words w' that were written over w.
module _ (w w' : List ℕ) (a : Started) where
  pub begun_ready : (s : State) → a ≡ Ok s → w' ≡ state_words s w → ended 0 0 w' ≡ begun_end a w
  begun_ready s p q = rw (p, q) refl

  pub begun_refused : (r : Refusal) → a ≡ Err r → w' ≡ w → ended r.number 0 w' ≡ begun_end a w
  begun_refused r p q = rw (p, q) refl

module _ (w w' : List ℕ) (a : Taken) where
  pub opened_on : (s : State) → a ≡ Ok s → w' ≡ state_words s w → ended 0 0 w' ≡ opened_end a w
  opened_on s p q = rw (p, q) refl

  pub opened_refused : (r : Refusal) → a ≡ Err r → w' ≡ w → ended r.number 0 w' ≡ opened_end a w
  opened_refused r p q = rw (p, q) refl

  pub taken_on : (s : State) → a ≡ Ok s → w' ≡ state_words s w → ended 0 0 w' ≡ taken_end a w
  taken_on s p q = rw (p, q) refl

  pub taken_refused : (r : Refusal) → a ≡ Err r → w' ≡ w → ended r.number r.place w' ≡ taken_end a w
  taken_refused r p q = rw (p, q) refl

module _ (w w' : List ℕ) (a : Ended) where
  pub closed_more : (s : State) → a ≡ Ok (More s) → w' ≡ state_words s w → ended 0 0 w' ≡ closed_end a w
  closed_more s p q = rw (p, q) refl

  pub closed_done : (s : State) → a ≡ Ok (Done s) → w' ≡ state_words s w → ended 0 1 w' ≡ closed_end a w
  closed_done s p q = rw (p, q) refl

  pub closed_read : (s : State) → a ≡ Ok (Whole s) → w' ≡ state_words s w → ended 0 2 w' ≡ closed_end a w
  closed_read s p q = rw (p, q) refl

  pub closed_false : (s : State) → a ≡ Ok (False s) → w' ≡ state_words s w → ended 9 0 w' ≡ closed_end a w
  closed_false s p q = rw (p, q) refl

  pub closed_refused : (r : Refusal) → a ≡ Err r → w' ≡ w → ended r.number r.place w' ≡ closed_end a w
  closed_refused r p q = rw (p, q) refl

pub tell_number : (a : Asked) (x : ℕ) → a ≡ Ok x → reply 0 x ≡ asked_reply a
tell_number a x p = rw p refl

pub tell_refused : (a : Asked) (r : Refusal) → a ≡ Err r → reply r.number r.place ≡ asked_reply a
tell_refused a r p = rw p refl

pub judge_yes : (a : Judged) → a ≡ Ok true → reply 0 1 ≡ judged_reply a
judge_yes a p = rw p refl

pub judge_no : (a : Judged) → a ≡ Ok false → reply 0 0 ≡ judged_reply a
judge_no a p = rw p refl

pub judge_refused : (a : Judged) (r : Refusal) → a ≡ Err r → reply r.number r.place ≡ judged_reply a
judge_refused a r p = rw p refl
