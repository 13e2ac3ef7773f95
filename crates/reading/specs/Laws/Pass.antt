-- Opening and closing a reading pass: the answers.
-- Assumes nothing.
use Rattle.std.specs.Prelude.{ℕ, ◌+◌, ◌*◌, ◌≡◌, refl, Bool, true, false, ◌&&◌, not, List, T, ltb, length, Ok, Err}
use Rattle.std.proofs.Math.Path.{sym, ap}
use Rattle.std.proofs.Common.{◌∙◌}
use borrow.Author.Tests.{eq-eqb, ne_eqb}
use Rattle.base.specs.Pick.{pick_true, pick_false}
use Rattle.base.specs.Truth.{or_l}
use Rattle.base.specs.Answer.{gives}
use Rattle.rules.specs.Search.{every}
use Rattle.rules.specs.Tables.{Tables, parent_of, rank, mark_of, placed, par, clear_notes}
use Rattle.rules.specs.Reading.{seen, accepted}
use Rattle.state.specs.Layout.{stored, numbers, moved_on, wiped, tables_in, forest_in, frag_of, held_of}
use Rattle.state.specs.Test.{is_reading, is_numbered}
use Rattle.state.specs.Call.{refused, head_refusal, leaves, moved}
use Rattle.state.specs.Close.{read, opens, open_call, close_in, end_reading}
use Rattle.state.specs.Answers.{told, taken_told, closed_told}
use Rattle.state.proofs.Laws.Layout.{tables_state}
use Rattle.state.proofs.Laws.Behind.{behind_numbered}
use Rattle.state.proofs.Laws.Lay.{frag_laid}
use Rattle.state.proofs.Laws.Agrees.{Agrees}
use Rattle.state.proofs.Laws.Sound.{held_found}
use Rattle.state.proofs.Laws.Keeps.{head_known}
use Rattle.state.proofs.Laws.Answers.{headed_refused, headed_passed}
use Rattle.state.specs.declared.State.{State}
use Rattle.state.specs.declared.Stage.TheVariants.{Built, Reading, Read}
use Rattle.state.specs.declared.Closed.{Closed}
use Rattle.state.specs.declared.Closed.TheVariants.{Read as Ended, False}
use Rattle.testing.specs.Test.{head_but_links}
use Rattle.testing.specs.Laws.Head.{Passed, head_is, head_passed}
use Rattle.numbering.specs.Numbering.{numbered_in}
use Rattle.numbering.specs.Laws.Numbered.{number_refused}
use Rattle.reading.specs.Pass.{opened, finished, failed}
use Rattle.reading.specs.Laws.Left.{count_left, frag_left, held_left, unnumbered, opened_cleared, open_numbered}

-- 'whether its parent link was seen'
module _ (t : Tables) (v p : ℕ) (ep : p ≡ par t v) where
  pub seen_root : p ≡ v → true ≡ seen t v
  unfolding seen
  seen_root e = rw (← ep, eq-eqb p v e)

  pub seen_child : (p ≡ v → ⊥) → (m : ℕ) → m ≡ mark_of t v → ltb 0 m ≡ seen t v
  unfolding seen
  seen_child d m e = rw (← ep, ne_eqb p v d, e)

-- In Reading the forest is numbered.
pub reading_numbered : (s : State) (f h : List ℕ) (r : ℕ) → r ≡ head_refusal is_reading s f h → r ≡ 0 → T (is_numbered s.stage)
reading_numbered s f h r e z = or_l (is_reading s.stage) _ (head_known is_reading s f h (sym e ∙ z)).allows

-- The answers of open reading: the head numbers the forest, so that it leaves g.
module _ (s : State) (f h : List ℕ) (b : Bool) (eb : b ≡ opens s.stage) (r : ℕ) (er : r ≡ head_but_links b s f h) (g : List ℕ) (eg : g ≡ numbered_in b s f h) where
  due : r ≡ head_refusal opens s f h
  due = head_is opens refl s f h r b eb er

  pub open_refused : (r ≡ 0 → ⊥) → taken_told s (Err (record { number = r; place = 0 })) g h ≡ open_call s f h
  unfolding open_call
  open_refused d = ap (λ k. taken_told s (Err (record { number = r; place = 0 })) k h) (eg ∙ sym (number_refused b s f h r er d)) ∙ headed_refused opens s f h _ r due d

  module _ (z : r ≡ 0) where
    pub open_passed : Passed s f h
    open_passed = head_passed opens refl s f h r b eb er z

    pub open_done : (f' : List ℕ) → f' ≡ wiped (2 * s.n) (stored * s.n) g → (x : State) → x ≡ opened s → taken_told s (Ok x) f' h ≡ open_call s f h
    unfolding open_call leaves moved
    open_done f' e x ex =
        let p = open_passed in
        let c = opened_cleared p g f' (eg ∙ open_numbered p b eb r er z) e in
        ap (λ (y : State). taken_told s (Ok y) f' h) ex
        ∙ (λ i. record { answer = gives tt; state = moved_on s Reading s.passes 0 (count_left p Reading f' c i) false; frag = frag_left p Reading f' c i; held = held_left p Reading f' c i })
        ∙ headed_passed opens s f h _ r due z

-- The pass is true of the forest, or it is false.
pub holds_not : (c a : Bool) → c ≡ true → false ≡ (not c && a)
holds_not c a e = rw e

pub holds_so : (c a b : Bool) → c ≡ false → b ≡ a → b ≡ (not c && a)
holds_so c a b e q = rw e q

pub same_accepted : (s : State) (f h : List ℕ) → accepted s.n (tables_in s f h) ≡ (not s.crossed && every (seen (forest_in s.n f)) s.n)
unfolding accepted seen par placed rank parent_of mark_of tables_in
same_accepted s f h = refl

end_read : (s : State) (t : Tables) (f h : List ℕ) → accepted s.n t ≡ true
    → told read (moved_on s Read s.passes s.entries (length t.held) t.crossed) (frag_of Read s.n t f) (held_of s.n s.k t h) ≡ end_reading s t f h
unfolding end_reading leaves moved
end_read s t f h a = rw (a, pick_true)

end_false : (s : State) (t : Tables) (f h : List ℕ) → accepted s.n t ≡ false
    → refused (moved_on s Built s.passes 0 (length t.held) false) (frag_of Built s.n (clear_notes s.n t) f) (held_of s.n s.k (clear_notes s.n t) h) 9 0 ≡ end_reading s t f h
unfolding end_reading moved
end_false s t f h a = rw (a, pick_false)

-- The answers of close.
module _ (s : State) (f h : List ℕ) (r : ℕ) (e : r ≡ head_refusal is_reading s f h) where
  pub close_refused : (r ≡ 0 → ⊥) → closed_told s (Err (record { number = r; place = 0 })) f h ≡ close_in is_reading s f h
  unfolding close_in
  close_refused d = headed_refused is_reading s f h _ r e d

  module _ (z : r ≡ 0) (p : Passed s f h) where
    close_ends : end_reading s (tables_in s f h) f h ≡ close_in is_reading s f h
    unfolding close_in
    close_ends = rw (p.settled, pick_false) (headed_passed is_reading s f h _ r e z)

    pub close_read : accepted s.n (tables_in s f h) ≡ true → (x : State) → x ≡ finished s → closed_told s (Ok (Ended x)) f h ≡ close_in is_reading s f h
    close_read a x ex = ap (λ (y : State). closed_told s (Ok (Ended y)) f h) ex ∙ left ∙ end_read s (tables_in s f h) f h a ∙ close_ends
      where
        A : Agrees s (tables_in s f h)
        A = p.found.agrees

        found : f ≡ frag_of Read s.n (tables_in s f h) f
        found = frag_laid (finished s) f f h (tables_in s f h) (tables_state s (finished s) f h refl refl refl) p.bounds.frag_long (p.found.back ∙ behind_numbered s.n (tables_in s f h) s.stage (reading_numbered s f h r e z) ∙ sym (behind_numbered s.n (tables_in s f h) Read tt)) refl

        left : closed_told s (Ok (Ended (finished s))) f h ≡ told read (moved_on s Read s.passes s.entries (length (tables_in s f h).held) (tables_in s f h).crossed) (frag_of Read s.n (tables_in s f h) f) (held_of s.n s.k (tables_in s f h) h)
        left = λ i. told read (moved_on s Read s.passes s.entries (A.as_many i) (A.as_crossed i)) (found i) (held_found s f h p.bounds p.found i)

    pub close_false : accepted s.n (tables_in s f h) ≡ false → (f' : List ℕ) → f' ≡ wiped (2 * s.n) ((stored + numbers) * s.n) f
        → (x : Closed) → x ≡ False (failed s) → closed_told s (Ok x) f' h ≡ close_in is_reading s f h
    close_false a f' b x ex =
        let c = unnumbered p (reading_numbered s f h r e z) f' b in
        ap (λ (y : Closed). closed_told s (Ok y) f' h) ex ∙ (λ i. refused (moved_on s Built s.passes 0 (count_left p Built f' c i) false) (frag_left p Built f' c i) (held_left p Built f' c i) 9 0)
        ∙ end_false s (tables_in s f h) f h a ∙ close_ends
