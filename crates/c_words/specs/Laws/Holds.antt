-- A state that passes the test fits in its words: where it is written, it is read again.
-- Assumes nothing.
use Rattle.std.specs.Prelude.{ℕ, ◌*◌, ◌≤◌, ◌≡◌, refl, Bool, true, false, List, ◌++◌, eqb, length, drop}
use Rattle.std.proofs.Common.{sym, arith, mul-le-mul}
use Rattle.base.specs.Pick.{tests}
use Rattle.rules.specs.Tables.{placed}
use Rattle.rules.proofs.Laws.Search.{count_le}
use Rattle.state.specs.Layout.{tables_in}
use Rattle.state.specs.Call.{fragments_most, room_most}
use Rattle.state.proofs.Laws.Keeps.{Passes, head_passes}
use Rattle.state.specs.declared.State.{State}
use Rattle.state.specs.declared.Stage.{Stage}
use Rattle.state.specs.declared.Stage.TheVariants.{Building, Built, Reading, Read}
use Rattle.c_words.specs.State.{state_size, stage_in, state_in, stage_word, mark_word, word_for, state_list, state_words, Holds, Fits}
use Rattle.c_words.specs.Laws.Steps.{word_fits_lem, entries_good, state_in_lem}

-- 'n: 1 to 32,768. Room k: 1 to 64. Entries in one pass: at most 16,777,215'; no more held links than k·n, no more passes than fragments and one.
pub passed_fits : (s : State) (f h : List ℕ) → Passes s f h → Fits s
passed_fits s f h P =
    let H = head_passes (λ g. true) s f h P tt in
    let b = H.bounds in
    let a = H.agrees in
    let m : s.k * s.n ≤ room_most * fragments_most = mul-le-mul b.room b.fragments in
    record {
      n_fits = omega (arith, b.fragments);
      k_fits = omega (arith, b.room);
      passes_fit = omega (arith, a.passes_few, b.fragments, count_le (placed (tables_in s f h)) s.n);
      entries_fit = omega (arith, a.entries_few);
      held_fits_lem = omega (arith, a.held_room);
    }

stage_back : (other g : Stage) → g ≡ stage_in other (stage_word g)
unfolding stage_in
stage_back other Building = simp tests
stage_back other Built = simp tests
stage_back other Reading = simp tests
stage_back other Read = simp tests

mark_back : (b : Bool) → b ≡ eqb (mark_word b) 1
mark_back true = refl
mark_back false = refl

mark_small : (b : Bool) → mark_word b ≤ 1
mark_small true = omega arith
mark_small false = omega arith

pub written : (s : State) (w : List ℕ) → state_size ≤ length w → state_words s w ≡ state_list s ++ drop state_size w
unfolding state_words
written s w l = simp tests

list_back : (s : State) (rest : List ℕ) → Fits s → (other : Stage) → s ≡ state_in other (state_list s ++ rest)
list_back s rest F other =
    state_in_lem other (state_list s ++ rest) s (stage_word s.stage) (word_for s.entries) (mark_word s.crossed) refl refl refl
    (word_fits_lem s.n F.n_fits) (word_fits_lem s.k F.k_fits) (stage_back other s.stage) (word_fits_lem s.passes F.passes_fit)
    (entries_good (word_for s.entries) (mark_word s.crossed) s.entries (mark_small s.crossed) (word_fits_lem s.entries F.entries_fit))
    (word_fits_lem s.held F.held_fits_lem) (mark_back s.crossed)

-- Whatever words stand behind those of the state.
pub list_holds : (s : State) (rest : List ℕ) → Fits s → Holds (state_list s ++ rest) s
list_holds s rest F = record { long = omega arith; reads = λ other. sym (list_back s rest F other) }

pub passed_holds : (s : State) (w f h : List ℕ) → state_size ≤ length w → Passes s f h → Holds (state_words s w) s
passed_holds s w f h l P = rw (written s w l) (list_holds s (drop state_size w) (passed_fits s f h P))
