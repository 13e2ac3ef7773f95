-- What the words hold after a C call.
-- Assumes nothing.
use Rattle.std.specs.Prelude.{ℕ, ◌≤◌, ◌≡◌, List, [], ◌∷◌, length}
use Rattle.std.proofs.Math.Path.{refl, subst}
use Rattle.std.proofs.Common.{sym, eq-eqb, ne_eqb}
use Rattle.std.proofs.Math.Decide.{ℕ_discrete}
use Rattle.base.specs.Pick.{pick_true, pick_false}
use Rattle.base.specs.Answer.{Answer, gives, refuses}
use Rattle.base.specs.Link.{Link}
use Rattle.lists.specs.List.{block_links}
use Rattle.lists.specs.Laws.Link.{never_both}
use Rattle.state.specs.Call.{Begun, Left, leaves}
use Rattle.state.specs.Take.{takes, taken, take_in, take_call}
use Rattle.state.specs.Close.{Ending, opens, open_call, close_call}
use Rattle.state.proofs.Laws.Keeps.{headed_all}
use Rattle.state.proofs.Laws.KeepsCalls.{Upholds, take_keeps, open_keeps, close_keeps}
use Rattle.state.proofs.Laws.KeepsBegun.{Begins as Keeps}
use Rattle.c_words.specs.State.{state_size, state_in, Holds}
use Rattle.c_words.specs.Answers.{Reply}
use Rattle.c_words.specs.Laws.Holds.{passed_holds}
use Rattle.c_calls.specs.Call.{Returned, reply_of, number_of, nothing, ending_word, begun_words, begun, begins, left_words, left, on_state, closed_words, closed, asks, c_open, c_take, c_close}
use Rattle.c_calls.specs.Run.{Follows, Begins, Step, take, close, open_reading, Moment, Lent, HoldsAt, left_at, lent_at, step, c_step, run, c_run}
use Rattle.c_calls.specs.Laws.Steps.{long_is}
use Rattle.state.specs.declared.State.{State}
use Rattle.state.specs.declared.Stage.TheVariants.{Building, Built}

-- Start and adopt.
module _ (w f h : List ℕ) (l : state_size ≤ length w) (b : Begun) (K : Keeps f h b) where
  begun_begins : Begins w (begun w b) b
  unfolding begun begun_words
  begun_begins = record {
    reply = refl;
    state = λ s e. rw e (passed_holds s w b.frag b.held l (K.keeps s e));
    same = λ number place e. rw e refl;
    frag = refl;
    held = refl;
  }

  pub begins_begins : (n k : ℕ) → Begins w (begins n k w f h b) b
  unfolding begins
  begins_begins n k = subst (λ (r : Returned). Begins w r b) (long_is w _ (begun w b) l) begun_begins

-- A call that leaves the state as found wherever it refuses.
AsBefore : {A : Type 0} → State → Left A → Type 0
AsBefore s l = (number place : ℕ) → l.answer ≡ refuses number place → l.state ≡ s

module _ (s : State) (f h : List ℕ) where
  open_before : AsBefore s (open_call s f h)
  unfolding AsBefore open_call leaves
  open_before = headed_all opens s f h (AsBefore s) _ (λ H number place e. absurd (never_both refl e)) (λ r d number place e. refl)

  taken_before : (x : Answer (List Link)) → AsBefore s (taken s f h x)
  unfolding AsBefore taken leaves
  taken_before (gives links) number place e = absurd (never_both refl e)
  taken_before (refuses m p) number place e = refl

  take_before : (block : List ℕ) → AsBefore s (take_call s f h block)
  unfolding AsBefore take_call take_in
  take_before block = headed_all takes s f h (AsBefore s) _ (λ H. taken_before (block_links s.n s.entries block)) (λ r d number place e. refl)

-- Open reading, take and close, made on the state s that the words hold.
module _ (w f h : List ℕ) (s : State) (H : Holds w s) where
  left_follows : {A : Type 0} (tells : Answer A → Reply) (l : Left A) → Upholds s f h l → AsBefore s l → Follows tells (left tells w l) l
  unfolding left left_words AsBefore
  left_follows tells l u b = record { reply = refl; state = go l.answer refl; frag = refl; held = refl }
    where
      go : (x : Answer _) → l.answer ≡ x → Holds (left_words w x l.state) l.state
      go (gives a) e = passed_holds l.state w l.frag l.held H.long (u.keeps a e)
      go (refuses number place) e = rw (b number place e) H

  closed_follows : (l : Left Ending) → Upholds s f h l → Follows (reply_of ending_word) (closed w l) l
  unfolding closed closed_words
  closed_follows l u = record { reply = refl; state = go l.answer refl; frag = refl; held = refl }
    where
      go : (x : Answer Ending) → l.answer ≡ x → Holds (closed_words w x l.state) l.state
      go (gives a) e = passed_holds l.state w l.frag l.held H.long (u.keeps a e)
      go (refuses number place) e = elim (ℕ_discrete number 9) [
        | yes z ↦ rw (eq-eqb number 9 z, pick_true) (passed_holds l.state w l.frag l.held H.long (u.keeps_false place (rw z at e)))
        | no d ↦ let (i, j, k) = u.same number place d e in rw (ne_eqb number 9 d, pick_false, i) H
      ]

  on_follows : {A : Type 0} (tells : Answer A → Reply) (r : Returned) (l : Left A) → Follows tells r l → Follows tells (on_state w f h r) l
  unfolding on_state
  on_follows tells r l F = subst (λ (y : Returned). Follows tells y l) (long_is w _ r H.long) F

  pub open_held : Follows number_of (c_open w f h) (open_call s f h)
  unfolding c_open
  open_held = rw (H.reads Building) (on_follows number_of _ _ (left_follows number_of (open_call s f h) (open_keeps s f h) (open_before s f h)))

  pub take_held : (block : List ℕ) → Follows (reply_of nothing) (c_take w f h block) (take_call s f h block)
  unfolding c_take
  take_held block =
      rw (H.reads Built)
      (on_follows (reply_of nothing) _ _ (left_follows (reply_of nothing) (take_call s f h block) (take_keeps s f h block) (take_before s f h block)))

  pub close_held : Follows (reply_of ending_word) (c_close w f h) (close_call s f h)
  unfolding c_close
  close_held = rw (H.reads Built) (on_follows (reply_of ending_word) _ _ (closed_follows (close_call s f h) (close_keeps s f h)))

  -- The questions.
  pub asks_held : {A : Type 0} (word : A → ℕ) (call : State → Answer A) → asks word w (call (state_in Building w)) ≡ reply_of word (call s)
  unfolding asks
  asks_held word call = rw (H.reads Building) (sym (long_is w _ (reply_of word (call s)) H.long))

-- One step after another.
follows_at : {A : Type 0} (tells : Answer A → Reply) (r : Returned) (l : Left A) → Follows tells r l → HoldsAt (lent_at r) (left_at l)
follows_at tells r l F = record { state = F.state; frag = F.frag; held = F.held }

step_held : (l : Lent) (m : Moment) → HoldsAt l m → (x : Step) → HoldsAt (c_step l x) (step m x)
step_held l m H (take block) = rw (H.frag, H.held) (follows_at _ _ _ (take_held l.state m.frag m.held m.state H.state block))
step_held l m H close = rw (H.frag, H.held) (follows_at _ _ _ (close_held l.state m.frag m.held m.state H.state))
step_held l m H open_reading = rw (H.frag, H.held) (follows_at _ _ _ (open_held l.state m.frag m.held m.state H.state))

pub run_held : (l : Lent) (m : Moment) → HoldsAt l m → (xs : List Step) → HoldsAt (c_run l xs) (run m xs)
unfolding c_run run
run_held l m H [] = H
run_held l m H (x ∷ xs) = run_held (c_step l x) (step m x) (step_held l m H x) xs
