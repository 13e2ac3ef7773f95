-- What the C calls leave, at each of their answers.
-- Assumes nothing.
use Rattle.std.specs.Prelude.{ℕ, ◌≤◌, ◌<◌, ◌≡◌, refl, Bool, List, length, Ok, Err, true, false}
use Rattle.std.proofs.Common.{sym, ap, ◌∙◌, subst, arith}
use Rattle.base.specs.Pick.{pick_all, tests}
use Rattle.base.specs.Answer.{Answer, refuses}
use Rattle.state.specs.Call.{Begun, Left, bounds_refusal, headed, leaves}
use Rattle.state.specs.Answers.{Asked, Ended as Closes, Judged, Started, Taken, begun_told, taken_told, closed_told, asked_told, judged_told}
use Rattle.state.specs.Take.{takes}
use Rattle.state.specs.Close.{Ending, end_building, end_reading, close_in, close_call}
use Rattle.state.proofs.Unique.{closed_decided}
use Rattle.c_words.specs.State.{state_in, mark_word}
use Rattle.c_words.specs.Answers.{Reply, Ended, reply, begun_end, opened_end, taken_end, closed_end, asked_reply, judged_reply}
use Rattle.c_calls.specs.Call.{Returned, returned, reply_of, number_of, nothing, itself, short_or, begun_words, begun, short_refusal, begins, left_words, left, on_state, closed_words, closed, asks, c_close}
use Rattle.numbers.specs.declared.Refusal.{Refusal}
use Rattle.state.specs.declared.State.{State}
use Rattle.state.specs.declared.Stage.TheVariants.{Built}
use Rattle.state.specs.declared.Closed.TheVariants.{More, Done, Read as Whole, False}

-- An array too short, and one that is not.
module _ {A : Type 0} (w : List ℕ) (x y : A) where
  pub short_is : length w < 7 → x ≡ short_or w x y
  unfolding short_or
  short_is p = simp tests

  pub long_is : 7 ≤ length w → y ≡ short_or w x y
  unfolding short_or
  long_is p = simp tests

pub short_none : (n k a b r : ℕ) → r ≡ bounds_refusal n k a b → r ≡ 0 → 3 ≡ short_refusal n k a b
unfolding short_refusal
short_none n k a b r e p = rw (← e) (simp tests)

pub short_some : (n k a b r : ℕ) → r ≡ bounds_refusal n k a b → (r ≡ 0 → ⊥) → r ≡ short_refusal n k a b
unfolding short_refusal
short_some n k a b r e p = rw (← e) (simp tests)

-- What a call ends with, and the tables that it leaves.
abbrev pub with_tables : Ended → List ℕ → List ℕ → Returned
with_tables e f h = record { reply = e.reply; state = e.state; frag = f; held = h }

begun_told_lem : (w : List ℕ) (a : Started) (f h : List ℕ) → with_tables (begun_end a w) f h ≡ begun w (begun_told a f h)
unfolding begun begun_words number_of
begun_told_lem w (Ok s) f h = refl
begun_told_lem w (Err r) f h = refl

-- Start and adopt: the call was made with n₀ and k₀, the numbers given, and answered with a.
module _ (n₀ n k₀ k : ℕ) (en : n₀ ≡ n) (ek : k₀ ≡ k) (w f h : List ℕ) where
  pub begins_short : (r : ℕ) (x : Begun) → length w < 7 → r ≡ short_refusal n₀ k₀ (length f) (length h) → returned r 0 w f h ≡ begins n k w f h x
  unfolding begins
  begins_short r x p e = rw (← en, ← ek, e) (short_is w _ _ p)

  pub begins_long : (call : ℕ → ℕ → Begun) → 7 ≤ length w → (f' h' : List ℕ) (a : Started) → begun_told a f' h' ≡ call n₀ k₀ → (e : Ended) → e ≡ begun_end a w
      → with_tables e f' h' ≡ begins n k w f h (call n k)
  unfolding begins
  begins_long call l f' h' a p e q = rw (← en, ← ek, q, begun_told_lem w a f' h', p) (long_is w _ _ l)

-- The calls on a state, in an array too short.
pub on_short : (w f h : List ℕ) (x : Returned) → length w < 7 → returned 3 0 w f h ≡ on_state w f h x
unfolding on_state
on_short w f h x p = short_is w _ _ p

-- Open reading and take: the call was made on s₀, the state in the words.
opened_told_lem : (w : List ℕ) (s : State) (a : Taken) (f h : List ℕ) → with_tables (opened_end a w) f h ≡ left number_of w (taken_told s a f h)
unfolding left left_words number_of
opened_told_lem w s (Ok x) f h = refl
opened_told_lem w s (Err r) f h = refl

taken_told_lem : (w : List ℕ) (s : State) (a : Taken) (f h : List ℕ) → with_tables (taken_end a w) f h ≡ left (reply_of nothing) w (taken_told s a f h)
unfolding left left_words reply_of
taken_told_lem w s (Ok x) f h = refl
taken_told_lem w s (Err r) f h = refl

module _ (w f h : List ℕ) (call : State → Left (Unit {0})) (s₀ s₁ : State) (es : s₀ ≡ s₁) (l : 7 ≤ length w) (f' h' : List ℕ) (a : Taken) (p : taken_told s₀ a f' h' ≡ call s₀) (e : Ended) where
  pub open_long : e ≡ opened_end a w → with_tables e f' h' ≡ on_state w f h (left number_of w (call s₁))
  unfolding on_state
  open_long q = rw (q, opened_told_lem w s₀ a f' h', p, es) (long_is w _ _ l)

  pub take_long : e ≡ taken_end a w → with_tables e f' h' ≡ on_state w f h (left (reply_of nothing) w (call s₁))
  unfolding on_state
  take_long q = rw (q, taken_told_lem w s₀ a f' h', p, es) (long_is w _ _ l)

-- A close that is refused has the place 0,
Placed : Left Ending → Type 0
Placed x = (m p : ℕ) → x.answer ≡ refuses m p → p ≡ 0

close_placed : (s : State) (f h : List ℕ) → Placed (close_call s f h)
unfolding Placed close_call close_in headed end_building end_reading leaves
close_placed s f h =
    pick_all Placed _ _ _
    (pick_all Placed _ _ _ (pick_all Placed _ _ _ (λ m p e. cc) (λ m p e. cc)) (pick_all Placed _ _ _ (λ m p e. cc) (λ m p e. cc)))
    (λ m p e. cc)

-- and refusal 9 is told by False alone.
not_nine : (s : State) (f h f' h' : List ℕ) (r : Refusal) → closed_told s (Err r) f' h' ≡ close_call s f h → r.number ≡ 9 → ⊥
unfolding Placed close_call
not_nine s f h f' h' r e n =
    let z : r.place ≡ 0 = close_placed s f h r.number r.place (sym (ap (λ (x : Left Ending). x.answer) e)) in
    let same : closed_told s (Ok (False s)) f' h' ≡ closed_told s (Err r) f' h' = rw (n, z) refl in
    let (q, g, i) = closed_decided takes refl s f h (Err r) (Ok (False s)) f' f' h' h' e (same ∙ e) in
    let no : ◌≡◌ {A = ℕ} 0 1 = cc in
    omega arith

-- so that close leaves the words of its answer.
closed_told_lem : (w : List ℕ) (s : State) (a : Closes) (f h : List ℕ) → ((r : Refusal) → a ≡ Err r → r.number ≡ 9 → ⊥) → with_tables (closed_end a w) f h ≡ closed w (closed_told s a f h)
unfolding closed closed_words reply_of
closed_told_lem w s (Ok (More x)) f h n = refl
closed_told_lem w s (Ok (Done x)) f h n = refl
closed_told_lem w s (Ok (Whole x)) f h n = refl
closed_told_lem w s (Ok (False x)) f h n = simp tests
closed_told_lem w s (Err r) f h n = let d = n r refl in simp tests

pub close_long : (w f h : List ℕ) (s₀ : State) → s₀ ≡ state_in Built w → 7 ≤ length w → (f' h' : List ℕ) (a : Closes) → closed_told s₀ a f' h' ≡ close_call s₀ f h
    → (e : Ended) → e ≡ closed_end a w → with_tables e f' h' ≡ c_close w f h
unfolding c_close on_state
close_long w f h s₀ es l f' h' a p e q =
    let n : (r : Refusal) → a ≡ Err r → r.number ≡ 9 → ⊥
    = λ r z. not_nine s₀ f h f' h' r (subst (λ (x : Closes). closed_told s₀ x f' h' ≡ close_call s₀ f h) z p) in
    rw (q, closed_told_lem w s₀ a f' h' n, p, es) (long_is w _ _ l)

-- The questions, on the state in the words.
asked_told_lem : (a : Asked) → asked_reply a ≡ reply_of itself (asked_told a)
unfolding reply_of
asked_told_lem (Ok x) = refl
asked_told_lem (Err r) = refl

judged_told_lem : (a : Judged) → judged_reply a ≡ reply_of mark_word (judged_told a)
unfolding reply_of
judged_told_lem (Ok true) = refl
judged_told_lem (Ok false) = refl
judged_told_lem (Err r) = refl

module _ {A : Type 0} (word : A → ℕ) (w : List ℕ) (b : Answer A) where
  pub asks_short : length w < 7 → reply 3 0 ≡ asks word w b
  unfolding asks
  asks_short p = short_is w _ _ p

  asks_long : 7 ≤ length w → (x : Reply) → x ≡ reply_of word b → x ≡ asks word w b
  unfolding asks
  asks_long l x p = rw p (long_is w _ _ l)

-- Those asked of s₀ about u₀ and v₀, the state in the words and the numbers given.
module _ (w : List ℕ) (l : 7 ≤ length w) (x : Reply) (s₀ s : State) (es : s₀ ≡ s) (u₀ u v₀ v : ℕ) (eu : u₀ ≡ u) (ev : v₀ ≡ v) where
  pub tells_long : (call : State → ℕ → Answer ℕ) (a : Asked) → x ≡ asked_reply a → asked_told a ≡ call s₀ v₀ → x ≡ asks itself w (call s v)
  tells_long call a p q = rw (← es, ← ev) (asks_long itself w (call s₀ v₀) l x (p ∙ asked_told_lem a ∙ ap (reply_of itself) q))

  pub judges_long : (call : State → ℕ → ℕ → Answer Bool) (a : Judged) → x ≡ judged_reply a → judged_told a ≡ call s₀ u₀ v₀ → x ≡ asks mark_word w (call s u v)
  judges_long call a p q = rw (← es, ← eu, ← ev) (asks_long mark_word w (call s₀ u₀ v₀) l x (p ∙ judged_told_lem a ∙ ap (reply_of mark_word) q))
