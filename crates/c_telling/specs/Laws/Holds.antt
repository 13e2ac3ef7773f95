-- A telling that is written is read again, and so are the place, the size and the number of one that is over.
-- Assumes nothing.
use Rattle.std.specs.Prelude.{ℕ, ◌+◌, ◌≤◌, ◌≡◌, refl, List, ◌++◌, length, get_or, take, drop}
use Rattle.std.proofs.Common.{sym, ap, ◌∙◌, subst, append_assoc, arith, length-drop, length-take-le, take_at, get_or-append-add}
use Rattle.base.specs.Pick.{tests}
use Rattle.state.specs.declared.State.{State}
use Rattle.state.specs.declared.Stage.TheVariants.{Built}
use Rattle.c_words.specs.State.{state_size, state_list, state_words, Holds, Fits}
use Rattle.c_words.specs.Pair.{low_word, high_word, joined}
use Rattle.c_words.specs.Laws.Holds.{written, list_holds}
use Rattle.c_words.specs.Laws.Pair.{pair_back}
use Rattle.telling.specs.declared.Step.{Step}
use Rattle.telling.specs.declared.Step.TheVariants.{First, Head, Links, Over}
use Rattle.telling.specs.declared.Telling.{Telling}
use Rattle.c_telling.specs.Telling.{telling_size, step_in, have_in, NoneOver, step_word, rest_list, rest_words, telling_words, HoldsTelling, SaysOver}
use Rattle.c_telling.specs.Answers.{over_words}
use Rattle.c_telling.specs.Laws.Steps.{have_over, have_on, telling_in_lem}

step_back : (p : Step) → p ≡ step_in (step_word p)
unfolding step_in
step_back First = simp tests
step_back Head = simp tests
step_back Links = simp tests
step_back Over = simp tests

have_back : (p : Step) (x : ℕ) → (p ≡ Over → x ≡ 0) → x ≡ have_in (step_word p) (low_word x) (high_word x)
have_back First x z = have_on 0 (low_word x) (high_word x) x (omega arith) (sym (pair_back x))
have_back Head x z = have_on 1 (low_word x) (high_word x) x (omega arith) (sym (pair_back x))
have_back Links x z = have_on 2 (low_word x) (high_word x) x (omega arith) (sym (pair_back x))
have_back Over x z = z refl ∙ have_over 3 (low_word x) (high_word x) (omega arith)

pub rest_written : (step place count number : ℕ) (w : List ℕ) → telling_size ≤ length w
    → rest_words step place count number w ≡ take state_size w ++ rest_list step place count number ++ drop telling_size w
unfolding rest_words
rest_written step place count number w l = simp tests

-- Behind a state that is written.
module _ (s : State) (w : List ℕ) (l : telling_size ≤ length w) (step place count number : ℕ) where
  abbrev behind : List ℕ
  behind = rest_list step place count number ++ drop telling_size (state_list s ++ drop state_size w)

  long : telling_size ≤ length (state_list s ++ drop state_size w)
  long = omega (arith, length-drop state_size w)

  pub both_written : rest_words step place count number (state_words s w) ≡ state_list s ++ behind
  both_written = rw (written s w (omega arith)) (rest_written step place count number (state_list s ++ drop state_size w) long)

  pub both_long : telling_size ≤ length (state_list s ++ behind)
  both_long = omega arith

pub telling_holds : (t : Telling) (w : List ℕ) → telling_size ≤ length w → Fits t.state → NoneOver t → HoldsTelling (telling_words t w) t
unfolding telling_words
telling_holds t w l F z =
    let s = t.state in
    let u = behind s w l (step_word t.step) t.offset t.have 0 in
    let H = list_holds s u F in
    rw (both_written s w l (step_word t.step) t.offset t.have 0)
    (record {
      long = both_long s w l (step_word t.step) t.offset t.have 0;
      reads = sym (telling_in_lem (state_list s ++ u) t _ _ _ _ _ refl refl refl refl refl (sym (H.reads Built)) (step_back t.step) (sym (pair_back t.offset)) (have_back t.step t.have z));
      state = H;
      fits = F;
    })

pub state_long : (s : State) (w : List ℕ) → telling_size ≤ length w → telling_size ≤ length (state_words s w)
state_long s w l = rw (written s w (omega arith)) (omega (arith, length-drop state_size w))

pub read_holds : (s : State) (w : List ℕ) (step place count number : ℕ) → telling_size ≤ length w → Fits s → Holds (rest_words step place count number (state_words s w)) s
read_holds s w step place count number l F = rw (both_written s w l step place count number) (list_holds s _ F)

-- A telling that is over, in any words.
module _ (place size number : ℕ) (w : List ℕ) (l : telling_size ≤ length w) where
  abbrev over : List ℕ
  over = rest_list (step_word Over) place size number ++ drop telling_size w

  over_written : over_words place size number w ≡ take state_size w ++ over
  over_written = rest_written (step_word Over) place size number w l ∙ append_assoc (take state_size w) (rest_list (step_word Over) place size number) (drop telling_size w)

  state_length : length (take state_size w) ≡ state_size
  state_length = length-take-le state_size w (omega arith)

  over_at : (i : ℕ) → get_or (over_words place size number w) (state_size + i) 0 ≡ get_or over i 0
  over_at i = rw over_written (subst (λ (k : ℕ). get_or (take state_size w ++ over) (k + i) 0 ≡ get_or over i 0) state_length (get_or-append-add (take state_size w) over i 0))

  pub over_says : SaysOver (over_words place size number w) place size number
  over_says = record {
    step = ap step_in (over_at 0) ∙ sym (step_back Over);
    place = (λ i. joined (over_at 1 i) (over_at 2 i)) ∙ pair_back place;
    size = (λ i. joined (over_at 3 i) (over_at 4 i)) ∙ pair_back size;
    number = over_at 5;
  }

  pub over_state : take state_size (over_words place size number w) ≡ take state_size w
  over_state = rw over_written (take_at (take state_size w) over state_size state_length)
