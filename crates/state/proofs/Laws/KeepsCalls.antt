-- What every call leaves: where it is accepted, a state and tables that pass the test; where it is refused, those that were found.
-- Assumes nothing.
use Rattle.std.specs.Prelude.{ℕ, suc, ◌+◌, ◌≡◌, Bool, List, ◌⊎◌, ◌≢◌, T}
use Rattle.std.proofs.Math.Path.{refl}
use Rattle.std.proofs.Common.{sym}
use Rattle.std.proofs.Math.Logic.{inl, inr}
use Rattle.std.proofs.Math.Decide.{ℕ_discrete}
use Rattle.std.proofs.Math.ListN.{length}
use Rattle.base.specs.Pick.{pick_true, pick_false}
use Rattle.base.specs.Answer.{Answer, gives, refuses}
use Rattle.base.specs.Truth.{or_cases, T_dec, T_true, T_false}
use Rattle.base.specs.Link.{Link}
use Rattle.lists.specs.List.{block_links}
use Rattle.lists.specs.Laws.Link.{never_both}
use Rattle.rules.specs.Tables.{Tables, clear_notes}
use Rattle.rules.specs.Building.{close_building, done}
use Rattle.rules.specs.Reading.{accepted}
use Rattle.state.specs.Layout.{tables_in, frag_of, held_of}
use Rattle.state.specs.Test.{is_building, is_reading}
use Rattle.state.specs.Call.{Left, refused, moved, leaves, headed}
use Rattle.state.specs.Take.{takes, tell, taken, take_in, take_call}
use Rattle.state.specs.Close.{opens, open_call, more, whole, read, end_building, end_reading, close_in, close_call}
use Rattle.state.proofs.Laws.Bounds.{Bounds}
use Rattle.state.proofs.Laws.Sound.{Agrees}
use Rattle.state.proofs.Laws.Keeps.{Passes, Head, Stands, AsFound, laid_passes, headed_all}
use Rattle.state.proofs.Laws.KeepsTables.{take_agrees, open_agrees, whole_agrees, more_agrees, read_agrees_at, false_agrees}
use Rattle.state.specs.declared.State.{State}
use Rattle.state.specs.declared.Stage.{Stage}
use Rattle.state.specs.declared.Stage.TheVariants.{Building, Built, Reading, Read}

-- What is asked of a call on a state.
pub record Upholds {A : Type 0} (s : State) (f h : List ℕ) (l : Left A) : Type 0 where
  -- 'What an accepted call leaves .. passes this test.'
  pub keeps : (x : A) → l.answer ≡ gives x → Stands l
  -- '.. or a refusal that changes something': 9 is 'the one refusal that changes anything'
  pub keeps_false : (place : ℕ) → l.answer ≡ refuses 9 place → Stands l
  -- 'Each returns its number and a place, and leaves state and tables as found (9 as above).'
  pub same : (number place : ℕ) → number ≢ 9 → l.answer ≡ refuses number place → AsFound s f h l

number_same : {A : Type 0} {r p q t : ℕ} → ◌≡◌ {A = Answer A} (refuses r p) (refuses q t) → r ≡ q
number_same e = cc

module _ {A : Type 0} (s : State) (f h : List ℕ) where
  -- A refusal, at the head or further on.
  refused_upholds : (r p : ℕ) → (r ≢ 9) ⊎ Passes s f h → Upholds {A = A} s f h (refused s f h r p)
  refused_upholds r p c = record {
    keeps = λ x e. absurd (never_both e refl);
    keeps_false = λ q e. elim c [ inl d ↦ absurd (d (number_same e)) | inr x ↦ x ];
    same = λ number place d e. (refl, refl, refl);
  }

  -- What passes the test, and is no refusal but 9.
  stands_upholds : (l : Left A) → Stands l → ((number place : ℕ) → number ≢ 9 → l.answer ≡ refuses number place → ⊥) → Upholds s f h l
  stands_upholds l p n = record {
    keeps = λ x e. p;
    keeps_false = λ q e. p;
    same = λ number place d e. absurd (n number place d e);
  }

  -- In a run: what passes the test, and is given to a call, passes it after the call.
  pub upholds_on : (l : Left A) → Upholds s f h l → Passes s f h → Stands l
  upholds_on l u p = go l.answer refl
    where
      go : (x : Answer A) → l.answer ≡ x → Stands l
      go (gives x) e = u.keeps x e
      go (refuses number place) e = elim (ℕ_discrete number 9) [
        | yes z ↦ u.keeps_false place (rw z at e)
        | no z ↦ let (i, j, k) = u.same number place z e in rw (i, j, k) p
      ]

  -- What a call goes on to decides, where its head refuses nothing.
  headed_upholds : (allowed : Stage → Bool) (rest : Left A) → (Head allowed s f h → Upholds s f h rest) → Upholds s f h (headed allowed s f h rest)
  headed_upholds allowed rest u = headed_all allowed s f h (Upholds s f h) rest u (λ r d. refused_upholds r 0 (inl d))

  -- An accepted call, and refusal 9.
  module _ (b : Bounds s.n s.k (length f) (length h)) (g : Stage) (p e : ℕ) (t : Tables) (a : Agrees (moved g p e t s) t) where
    leaves_upholds : (x : A) → Upholds s f h (leaves x (moved g p e t s) t f h)
    unfolding leaves moved
    leaves_upholds x = stands_upholds (leaves x (moved g p e t s) t f h) (laid_passes (moved g p e t s) t f h a b) (λ number place d e. never_both refl e)

    false_upholds : Upholds {A = A} s f h (record { answer = refuses 9 0; state = moved g p e t s; frag = frag_of g s.n t f; held = held_of s.n s.k t h })
    unfolding moved
    false_upholds = stands_upholds _ (laid_passes (moved g p e t s) t f h a b) (λ number place d e. d (sym (number_same e)))

-- The calls.
module _ (s : State) (f h : List ℕ) where
  taken_upholds : Head takes s f h → (block : List ℕ) (x : Answer (List Link)) → block_links s.n s.entries block ≡ x → Upholds s f h (taken s f h x)
  unfolding taken
  taken_upholds H block (gives g) e =
      leaves_upholds s f h H.bounds s.stage s.passes (s.entries + length g) (tell s (tables_in s f h) g) (take_agrees s f h H block g e) tt
  taken_upholds H block (refuses number place) e = refused_upholds s f h number place (inr H.passes)

  pub take_keeps : (block : List ℕ) → Upholds s f h (take_call s f h block)
  unfolding take_call take_in
  take_keeps block =
      headed_upholds s f h takes (taken s f h (block_links s.n s.entries block))
      (λ H. taken_upholds H block (block_links s.n s.entries block) refl)

  pub open_keeps : Upholds s f h (open_call s f h)
  unfolding open_call
  open_keeps =
      let t = clear_notes s.n (tables_in s f h) in
      headed_upholds s f h opens (leaves tt (moved Reading s.passes 0 t s) t f h)
      (λ H. leaves_upholds s f h H.bounds Reading s.passes 0 t (open_agrees s f h H) tt)

  building_upholds : Head takes s f h → T (is_building s.stage) → Upholds s f h (end_building s (close_building s.n (tables_in s f h)) f h)
  unfolding end_building
  building_upholds H b =
      let t = close_building s.n (tables_in s f h) in
      elim (T_dec (done s.n t)) [
        | yes d ↦ rw (T_true (done s.n t) d, pick_true) (leaves_upholds s f h H.bounds Built (suc s.passes) 0 t (whole_agrees s f h H b d) whole)
        | no d ↦ rw (T_false (done s.n t) d, pick_false) (leaves_upholds s f h H.bounds Building (suc s.passes) 0 t (more_agrees s f h H b d) more)
      ]

  reading_upholds : Head takes s f h → T (is_reading s.stage) → Upholds s f h (end_reading s (tables_in s f h) f h)
  unfolding end_reading
  reading_upholds H r =
      let t = tables_in s f h in
      elim (T_dec (accepted s.n t)) [
        | yes x ↦ rw (T_true (accepted s.n t) x, pick_true) (leaves_upholds s f h H.bounds Read s.passes s.entries t (read_agrees_at s f h H r x) read)
        | no x ↦ rw (T_false (accepted s.n t) x, pick_false) (false_upholds s f h H.bounds Built s.passes 0 (clear_notes s.n t) (false_agrees s f h H r))
      ]

  pub close_keeps : Upholds s f h (close_call s f h)
  unfolding close_call close_in
  close_keeps = headed_upholds s f h takes _ (λ H. elim (T_dec (is_building s.stage)) [
    | yes b ↦ rw (T_true (is_building s.stage) b, pick_true) (building_upholds H b)
    | no b ↦ rw (T_false (is_building s.stage) b, pick_false) (elim (or_cases (is_building s.stage) (is_reading s.stage) H.allows) [
      | inl x ↦ absurd (b x)
      | inr r ↦ reading_upholds H r
    ])
  ])
