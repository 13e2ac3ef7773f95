-- Begin and tell in C, at each of their answers.
-- Assumes nothing.
use Rattle.std.specs.Prelude.{ℕ, ◌≤◌, ◌<◌, ◌≡◌, refl, List, [], ◌∷◌, length, leb}
use Rattle.std.proofs.Common.{sym, ap, ◌∙◌, arith, le-leb}
use Rattle.std.proofs.Math.Path.{subst}
use Rattle.std.proofs.lemmas.Bool.{lt-leb}
use Rattle.base.specs.Pick.{pick, pick_true, pick_false, tests}
use Rattle.telling.specs.Tell.{Does, reads, rereads, reports, refuses_at, lacks, fails, Goes, next_does, goes, beginning, tell_call}
use Rattle.telling.specs.declared.Telling.{Telling}
use Rattle.telling.specs.declared.Heard.{Heard}
use Rattle.telling.specs.declared.Next.{Next}
use Rattle.c_words.specs.State.{word_most, state_words, Holds, Fits}
use Rattle.c_telling.specs.Telling.{telling_size, telling_in, telling_words, heard_in, NoneOver, HoldsTelling, SaysOver}
use Rattle.c_telling.specs.Answers.{Ended, ended, does_number, does_words, does_end}
use Rattle.c_telling.specs.Laws.Holds.{telling_holds, read_holds, over_says, state_long}
use Rattle.c_telling.specs.Laws.Fits.{FitsNext, tell_fits}
use Rattle.c_calls.specs.Tell.{Told, told, goes_told, c_begin, c_tell}
use Rattle.c_calls.specs.Run.{FollowsTell, Hearing, Teller, TellerLent, HoldsTeller, stops, onward, teller_at, teller_lent_at, tell_run, c_tell_run, SameCourse}

module _ (k : ℕ) (w : List ℕ) where
  pub begin_short : length w < 13 → ended 3 w ≡ c_begin k w
  unfolding c_begin
  begin_short p = simp tests

  pub begin_long : 13 ≤ length w → (k₀ : ℕ) (t : Telling) (w' : List ℕ) → k₀ ≡ k → t ≡ beginning k₀ → w' ≡ telling_words t w → ended 0 w' ≡ c_begin k w
  unfolding c_begin
  begin_long l k₀ t w' ek et ew = rw (ew, et, ek) (simp tests)

module _ (w f h b text : List ℕ) (heard : ℕ) where
  pub tell_short : length w < 13 → told (ended 3 w) f h b text ≡ c_tell w f h b text heard
  unfolding c_tell
  tell_short p = simp tests

  pub tell_long : 13 ≤ length w → (t : Telling) (x : Heard) (a : Next) (f' h' b' text' : List ℕ) (e : Ended) → t ≡ telling_in w → x ≡ heard_in heard
      → goes a f' h' b' text' ≡ tell_call t f h b text x → e ≡ does_end (next_does a) w → told e f' h' b' text' ≡ c_tell w f h b text heard
  unfolding c_tell goes_told
  tell_long l t x a f' h' b' text' e et ex p q = rw (q, ← et, ← ex, ← p) (simp tests)

-- What the words hold after a call.
begun_fits : (k : ℕ) → k ≤ word_most → Fits (beginning k).state
unfolding beginning
begun_fits k m = record { n_fits = omega arith; k_fits = m; passes_fit = omega arith; entries_fit = omega arith; held_fits_lem = omega arith }

begun_none : (k : ℕ) → NoneOver (beginning k)
unfolding beginning
begun_none k e = refl

pub begin_held : (k : ℕ) (w : List ℕ) → telling_size ≤ length w → k ≤ word_most → HoldsTelling (c_begin k w).words (beginning k)
unfolding c_begin
begin_held k w l m = simp tests (telling_holds (beginning k) w l (begun_fits k m) (begun_none k))

module _ (w : List ℕ) (l : telling_size ≤ length w) (g : Goes) (F : FitsNext g.turn.said.does) where
  goes_follows : FollowsTell (goes_told w g) g
  unfolding goes_told
  goes_follows = record {
    number = refl;
    on = λ t e. subst (λ (d : Does). HoldsTelling (does_words d w) t) (sym e) (let K = subst FitsNext e F in telling_holds t w l K.0 K.1);
    again = λ t e. subst (λ (d : Does). HoldsTelling (does_words d w) t) (sym e) (let K = subst FitsNext e F in telling_holds t w l K.0 K.1);
    read = λ s size e.
        subst (λ (d : Does). Holds (does_words d w) s × SaysOver (does_words d w) 0 size 0) (sym e)
        (read_holds s w 3 0 size 0 l (subst FitsNext e F), over_says 0 size 0 (state_words s w) (state_long s w l));
    refused = λ number place size e. subst (λ (d : Does). SaysOver (does_words d w) place size number) (sym e) (over_says place size number w l);
    frag = refl;
    held = refl;
    buffer = refl;
    text = refl;
  }

pub tell_held : (w f h b text : List ℕ) (t : Telling) → HoldsTelling w t → (heard : ℕ) → FollowsTell (c_tell w f h b text heard) (tell_call t f h b text (heard_in heard))
unfolding c_tell
tell_held w f h b text t H heard =
    let g = tell_call t f h b text (heard_in heard) in
    let l = H.long in
    rw H.reads (simp tests (goes_follows w H.long g (tell_fits t H.fits f h b text (heard_in heard))))

-- One call after another.
module _ (xs : List Hearing) (ih : (l : TellerLent) (m : Teller) → HoldsTeller l m → SameCourse (c_tell_run xs l) (tell_run xs m)) (r : Told) (g : Goes) (F : FollowsTell r g) where
  goes_on_lem : (t : Telling) → r.end.number ≤ 1 → HoldsTelling r.end.words t
      → SameCourse (pick (leb r.end.number 1) (c_tell_run xs (teller_lent_at r)) (stops r)) (tell_run xs (teller_at g t))
  goes_on_lem t n H =
      rw (le-leb r.end.number 1 n, pick_true)
      (ih (teller_lent_at r) (teller_at g t) (record { words = H; frag = F.frag; held = F.held }))

  stays : 1 < r.end.number → SameCourse (pick (leb r.end.number 1) (c_tell_run xs (teller_lent_at r)) (stops r)) (stops g)
  stays n = rw (lt-leb r.end.number 1 n, pick_false) F

  next_held : (d : Does) → g.turn.said.does ≡ d
      → SameCourse (pick (leb r.end.number 1) (c_tell_run xs (teller_lent_at r)) (stops r)) (onward d (stops g) (λ t. tell_run xs (teller_at g t)))
  next_held (reads t) e = goes_on_lem t (omega (arith, F.number ∙ ap does_number e)) (F.on t e)
  next_held (rereads t) e = goes_on_lem t (omega (arith, F.number ∙ ap does_number e)) (F.again t e)
  next_held (reports s size) e = stays (omega (arith, F.number ∙ ap does_number e))
  next_held (refuses_at number place size) e = stays (omega (arith, F.number ∙ ap does_number e))
  next_held (lacks size) e = stays (omega (arith, F.number ∙ ap does_number e))
  next_held fails e = stays (omega (arith, F.number ∙ ap does_number e))

pub tell_run_held : (xs : List Hearing) (l : TellerLent) (m : Teller) → HoldsTeller l m → SameCourse (c_tell_run xs l) (tell_run xs m)
unfolding c_tell_run tell_run
tell_run_held [] l m H = H
tell_run_held (x ∷ xs) l m H =
    let g = tell_call m.telling m.frag m.held x.buffer x.text (heard_in x.heard) in
    let F = tell_held l.words m.frag m.held x.buffer x.text m.telling H.words x.heard in
    rw (H.frag, H.held) (next_held xs (tell_run_held xs) (c_tell l.words m.frag m.held x.buffer x.text x.heard) g F g.turn.said.does refl)
