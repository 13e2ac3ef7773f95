-- What is left where notes and marks are cleared: by a pass that is opened, the numbers of the forest behind them, and by one that is false, nothing.
-- Assumes nothing.
use Rattle.std.specs.Prelude.{ℕ, ◌+◌, ◌-◌, ◌*◌, ◌≤◌, ◌<◌, ◌≡◌, Bool, true, false, T, length, get_or, take, drop, replicate}
use Rattle.std.proofs.Math.Path.{refl}
use Rattle.std.proofs.Common.{sym, ap, ◌∙◌, inl, inr, arith, take-append-drop, length-append, length-take, length-drop, drop-drop, drop_at, take_at, take-take, get_or-take, get_or-drop}
use mathlib.Core.List.{List, ◌++◌, append_assoc}
use Rattle.std.proofs.lemmas.List.{length-replicate}
use Rattle.base.specs.Truth.{T_dec, T_true, T_false, false_T, true_T, or_r, or_cases}
use Rattle.rules.specs.Tables.{Tables, clear_notes}
use Rattle.rules.proofs.Laws.Tables.{SameForest}
use Rattle.state.specs.Layout.{words, stored, numbers, moved_on, wiped, tables_in, forest_in, numbers_of, behind, frag_of, held_of}
use Rattle.state.specs.Test.{is_building, is_built, is_reading, is_numbered}
use Rattle.state.specs.Close.{opens}
use Rattle.state.proofs.Laws.Lists.{parts, zeros, all_none}
use Rattle.state.proofs.Laws.Layout.{tables_cleared}
use Rattle.state.proofs.Laws.Clear.{wiped_is, wiped_length, wiped_front, wiped_past, wiped_within}
use Rattle.state.proofs.Laws.Behind.{rest, behind_numbered, behind_plain, behind_length, behind_same, numbered_zero}
use Rattle.state.proofs.Laws.Lay.{frag_laid, held_laid}
use Rattle.state.specs.declared.State.{State}
use Rattle.state.specs.declared.Stage.{Stage}
use Rattle.state.specs.declared.Stage.TheVariants.{Built, Reading}
use Rattle.testing.specs.Test.{head_but_links}
use Rattle.testing.specs.Laid.{laid_at}
use Rattle.testing.specs.Laws.Head.{Passed, head_known}
use Rattle.numbering.specs.Numbering.{numbered, numbered_in}
use Rattle.numbering.specs.Laws.Numbered.{number_later, number_built, not_numbered}

-- Notes and marks are cleared, and behind them lies what the tables t have there in stage g.
pub record Cleared (n : ℕ) (g : Stage) (t : Tables) (f f' : List ℕ) : Type 0 where
  pub long : length f' ≡ length f
  pub front : take (2 * n) f' ≡ take (2 * n) f
  pub none : (i : ℕ) → 2 * n ≤ i → i < stored * n → get_or f' i 0 ≡ 0
  pub back : rest n f' ≡ behind g n t
  pub past : drop (words * n) f' ≡ drop (words * n) f

module _ {s : State} {f h : List ℕ} (p : Passed s f h) where
  abbrev n : ℕ
  n = s.n

  abbrev t : Tables
  t = tables_in s f h

  module _ (g : Stage) (f' : List ℕ) (c : Cleared n g t f f') where
    abbrev s' : State
    s' = moved_on s g s.passes 0 0 false

    none_held : s.held ≡ 0
    none_held = p.found.agrees.none_held (false_T (is_building s.stage) p.settled)

    -- As many links as before: none.
    pub count_left : 0 ≡ length t.held
    count_left = sym none_held ∙ p.found.agrees.as_many

    tables_left : tables_in s' f' h ≡ clear_notes n t
    tables_left = tables_cleared s s' f f' h refl (sym none_held) refl (omega (arith, p.bounds.frag_long, c.long)) c.front c.none

    pub frag_left : f' ≡ frag_of g n (clear_notes n t) f
    frag_left =
        let same : SameForest t (clear_notes n t) = record { same_parent = refl; same_level = refl } in
        frag_laid s' f f' h (clear_notes n t) tables_left (omega (arith, p.bounds.frag_long, c.long)) (c.back ∙ behind_same same g n) c.past

    pub held_left : h ≡ held_of n s.k (clear_notes n t) h
    held_left = held_laid s' f' h h (clear_notes n t) tables_left (omega arith) p.bounds.held_long (rw none_held at p.found.unused) refl

  long_enough : words * n ≤ length f
  long_enough = p.bounds.frag_long

  -- A numbered forest: notes, marks and numbers are cleared, and what is scratch was 0.
  pub unnumbered : T (is_numbered s.stage) → (f' : List ℕ) → f' ≡ wiped (2 * n) ((stored + numbers) * n) f → Cleared n Built t f f'
  unnumbered x f' e =
      let all : f' ≡ wiped (2 * n) (16 * n) f = e ∙ wiped_is (2 * n) (7 * n) f (omega arith) (omega (arith, long_enough))
      ∙ ap (λ r. take (2 * n) f ++ (replicate (7 * n - 2 * n) 0 ++ r)) (parts (7 * n) (9 * n) (16 * n) f (omega arith) ∙ ap (λ r. r ++ drop (16 * n) f) (numbered_zero s t f long_enough p.found.back x))
      ∙ ap (λ r. take (2 * n) f ++ r) (sym (zeros (7 * n - 2 * n) (9 * n) (16 * n - 2 * n) (drop (16 * n) f) (omega arith)))
      ∙ sym (wiped_is (2 * n) (16 * n) f (omega arith) long_enough) in
      let within : (i : ℕ) → 2 * n ≤ i → i < 16 * n → get_or f' i 0 ≡ 0 = λ i a b. rw all (wiped_within (2 * n) (16 * n) f (omega arith) long_enough i a b) in
      let long : length f' ≡ length f = rw all (wiped_length (2 * n) (16 * n) f (omega arith) long_enough) in
      record {
        long = long;
        front = rw all (wiped_front (2 * n) (16 * n) f (omega arith) long_enough);
        none = λ i a b. within i a (omega arith);
        back = all_none (rest n f') (12 * n) (simp (length-take, length-drop) (omega (arith, long, long_enough)))
            (λ i b. get_or-take (12 * n) (drop (4 * n) f') i 0 b ∙ get_or-drop (4 * n) f' i 0 ∙ within (4 * n + i) (omega arith) (omega arith))
            ∙ sym (behind_plain n t Built (λ z. z));
        past = rw all (wiped_past (2 * n) (16 * n) f (omega arith) long_enough);
      }

  -- A forest whose numbers stand behind its sections: notes and marks are cleared.
  abbrev standing : List ℕ
  standing = take (4 * n) f ++ (behind Reading n t ++ drop (16 * n) f)

  pub opened_cleared : (g f' : List ℕ) → g ≡ standing → f' ≡ wiped (2 * n) (stored * n) g → Cleared n Reading t f f'
  opened_cleared g f' eg e =
      let B = behind Reading n t in
      let low : length (take (4 * n) f) ≡ 4 * n = simp length-take (omega (arith, long_enough)) in
      let long : length g ≡ length f = rw eg (simp (length-append, length-take, length-drop, behind_length) (omega (arith, long_enough))) in
      let behind-low : drop (4 * n) g ≡ B ++ drop (16 * n) f = rw eg (drop_at (take (4 * n) f) (B ++ drop (16 * n) f) (4 * n) low) in
      let same : drop (4 * n) f' ≡ B ++ drop (16 * n) f = rw e (wiped_past (2 * n) (4 * n) g (omega arith) (omega (arith, long, long_enough))) ∙ behind-low in
      let sixteen : 16 * n ≡ 4 * n + 12 * n = omega arith in
      record {
        long = rw e (wiped_length (2 * n) (4 * n) g (omega arith) (omega (arith, long, long_enough))) ∙ long;
        front = rw e (wiped_front (2 * n) (4 * n) g (omega arith) (omega (arith, long, long_enough)))
            ∙ sym (take-take (2 * n) (4 * n) g (omega arith)) ∙ ap (λ l. take (2 * n) l) (rw eg (take_at (take (4 * n) f) (B ++ drop (16 * n) f) (4 * n) low)) ∙ take-take (2 * n) (4 * n) f (omega arith);
        none = λ i a b. rw e (wiped_within (2 * n) (4 * n) g (omega arith) (omega (arith, long, long_enough)) i a b);
        back = ap (λ l. take (12 * n) l) same ∙ take_at B (drop (16 * n) f) (12 * n) (behind_length n t Reading);
        past = ap (λ i. drop i f') sixteen ∙ sym (drop-drop (12 * n) (4 * n) f') ∙ ap (λ l. drop (12 * n) l) same ∙ drop_at B (drop (16 * n) f) (12 * n) (behind_length n t Reading);
      }

  parted : drop (4 * n) f ≡ rest n f ++ drop (16 * n) f
  parted = parts (4 * n) (12 * n) (16 * n) f (omega arith)

  was_read_lem : T (is_numbered s.stage) → f ≡ standing
  was_read_lem x =
      sym (take-append-drop (4 * n) f) ∙ ap (λ r. take (4 * n) f ++ r) (parted ∙ ap (λ r. r ++ drop (16 * n) f)
      (p.found.back ∙ behind_numbered n t s.stage x ∙ sym (behind_numbered n t Reading tt)))

  unused : is_built s.stage ≡ true → drop (7 * n) f ≡ replicate (9 * n) 0 ++ drop (16 * n) f
  unused x =
      let seven : 7 * n ≡ 4 * n + 3 * n = omega arith in
      let zero : rest n f ≡ replicate (12 * n) 0 = p.found.back ∙ behind_plain n t s.stage (not_numbered s.stage x) in
      ap (λ i. drop i f) seven ∙ sym (drop-drop (3 * n) (4 * n) f)
      ∙ ap (λ l. drop (3 * n) l) (parted ∙ ap (λ r. r ++ drop (16 * n) f) zero ∙ zeros (3 * n) (9 * n) (12 * n) (drop (16 * n) f) (omega arith))
      ∙ drop_at (replicate (3 * n) 0) _ (3 * n) (length-replicate (3 * n) 0)

  just_built : is_built s.stage ≡ true → numbered n (forest_in n f) f ≡ standing
  unfolding numbered laid_at numbers_of tables_in
  just_built x =
      let same : SameForest t (forest_in n f) = record { same_parent = refl; same_level = refl } in
      rw (unused x, behind_same same Reading n, behind_numbered n (forest_in n f) Reading tt, append_assoc, append_assoc, append_assoc)

  later : T (opens s.stage) → (T (is_built s.stage) → ⊥) → T (is_numbered s.stage)
  later m x = elim (or_cases (is_built s.stage) _ m) [
    | inl y ↦ absurd (x y)
    | inr y ↦ or_r (is_reading s.stage) _ y
  ]

  -- It is numbered where it was just built; later its numbers stand there.
  pub open_numbered : (b : Bool) → b ≡ opens s.stage → (r : ℕ) → r ≡ head_but_links b s f h → r ≡ 0 → numbered_in b s f h ≡ standing
  open_numbered b eb r e z = elim (T_dec (is_built s.stage)) [
    | yes x ↦ sym (number_built b s f h r e z (is_built s.stage) refl (T_true (is_built s.stage) x) _ refl) ∙ just_built (T_true (is_built s.stage) x)
    | no x ↦
        let m : T (opens s.stage) = true_T (opens s.stage) (sym eb ∙ (head_known b s f h (sym e ∙ z)).may) in
        sym (number_later b s f h r e z (is_built s.stage) refl (T_false (is_built s.stage) x)) ∙ was_read_lem (later m x)
  ]
