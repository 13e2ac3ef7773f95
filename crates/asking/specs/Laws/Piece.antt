-- Piece: what the head of the call leaves in the table, the answer, and that the table is as found again.
-- Assumes nothing.
use Rattle.std.specs.Prelude.{ℕ, ◌+◌, ◌*◌, ◌≤◌, ◌<◌, ◌≡◌, Bool, true, false, List, T, leb, length, take, drop}
use Rattle.std.proofs.Math.Path.{refl}
use Rattle.std.proofs.Common.{sym, ap, ◌∙◌, arith, length-take, length-drop, get_or-take, get_or-drop}
use Rattle.base.specs.Pick.{pick, tests}
use Rattle.base.specs.Truth.{T_dec, T_true, T_false, true_T, false_T}
use Rattle.base.specs.Answer.{gives, refuses}
use Rattle.rules.specs.Tables.{Tables}
use Rattle.rules.specs.Reading.{piece}
use Rattle.rules.specs.Numbers.{turn, end, at_turn}
use Rattle.state.specs.Layout.{wiped, forest_in}
use Rattle.state.specs.Ask.{asks, ask_one, piece_call}
use Rattle.state.specs.Test.{is_built, is_numbered, all_zero}
use Rattle.state.proofs.Laws.Layout.{section_at}
use Rattle.state.proofs.Laws.Lists.{drop_take, zeros_pass, all_none}
use Rattle.state.proofs.Laws.Clear.{wiped_back}
use Rattle.state.specs.declared.State.{State}
use Rattle.state.specs.declared.Stage.{Stage}
use Rattle.state.specs.declared.Stage.TheVariants.{Building, Built, Reading, Read}
use Rattle.testing.specs.Test.{head_but_links}
use Rattle.testing.specs.Whole.{Whole, Numbered}
use Rattle.testing.specs.Only.{Only, Blank}
use Rattle.testing.specs.Laws.Head.{head_known, head_is, head_passed}
use Rattle.testing.specs.Laws.Whole.{passed_whole, passed_numbered}
use Rattle.testing.specs.Laws.Only.{take_by, drop_by, only_forest, only_whole}
use Rattle.numbering.specs.Numbering.{numbered, numbered_in}
use Rattle.numbering.specs.Laws.Numbered.{numbered_words, number_refused, number_later, built_orderable, number_built}
use Rattle.asking.specs.Laws.Asked.{same_piece}

-- The answer about v.
module _ {A : Type 0} (n v : ℕ) (x : A) where
  pub told_far : n ≤ v → refuses 4 0 ≡ pick (leb n v) (refuses 4 0) (gives x)
  told_far l = simp tests

  pub told_near : v < n → (y : A) → y ≡ x → gives y ≡ pick (leb n v) (refuses 4 0) (gives x)
  told_near l y e = rw e (simp tests)

-- A forest that is numbered in its table.
module _ (n : ℕ) (f : List ℕ) (w : Whole n f) where
  abbrev t : Tables
  t = forest_in n f

  abbrev g : List ℕ
  g = numbered n t f

  long : 7 * n ≤ length f
  long = omega (arith, w.long)

  only : Only (4 * n) (7 * n) f g
  only = (numbered_words n t f long).only

  made_same : forest_in n g ≡ forest_in n f
  made_same = only_forest n (omega arith) only

  made_numbered : Numbered n g
  made_numbered = record {
    whole = only_whole n (omega arith) only w;
    turns = λ v h. sym (section_at n g 4 (4 * n + v) v refl h) ∙ (numbered_words n t f long).first v h ∙ ap (λ r. turn n r v) (sym made_same);
    ends = λ v h. sym (section_at n g 5 (5 * n + v) v refl h) ∙ (numbered_words n t f long).second v h ∙ ap (λ r. end n r v) (sym made_same);
    whose = λ i h. sym (section_at n g 6 (6 * n + i) i refl h) ∙ (numbered_words n t f long).third i h ∙ ap (λ r. at_turn n r i) (sym made_same);
  }

  zero_between : Blank (4 * n) (10 * n) f → T (all_zero (drop (4 * n) (take (7 * n) f)))
  zero_between b =
      let e : 7 * n ≡ 4 * n + 3 * n = omega arith in
      let z = all_none (take (3 * n) (drop (4 * n) f)) (3 * n) (simp (length-take, length-drop) (omega (arith, long))) (λ i h. get_or-take (3 * n) (drop (4 * n) f) i 0 h ∙ get_or-drop (4 * n) f i 0 ∙ b (4 * n + i) (omega arith) (omega arith)) in
      rw (e, drop_take (4 * n) (3 * n) f, z) (zeros_pass (3 * n))

  made_back : Blank (4 * n) (10 * n) f → wiped (4 * n) (7 * n) g ≡ f
  made_back b = wiped_back (4 * n) (7 * n) f g (omega arith) long only.long (zero_between b) (take_by (4 * n) f g only.long only.before) (drop_by (7 * n) f g only.long only.behind)

-- A question may be asked where the forest has just been built, and where it is numbered.
numbered_stage : (g : Stage) → asks g ≡ true → is_built g ≡ false → T (is_numbered g)
numbered_stage Building e z = true_T (asks Building) e
numbered_stage Built e z = absurd (false_T (is_built Built) z tt)
numbered_stage Reading e z = tt
numbered_stage Read e z = tt

-- The table g that is lent on, of a table f that the head of the call lets pass.
pub record Lent (s : State) (f g : List ℕ) : Type 0 where
  pub numbers : Numbered s.n g
  pub forest : forest_in s.n g ≡ forest_in s.n f
  pub later : is_built s.stage ≡ false → g ≡ f
  pub back : is_built s.stage ≡ true → wiped (4 * s.n) (7 * s.n) g ≡ f

-- What the head leaves of f; r is the refusal that is due.
module _ (s : State) (f h : List ℕ) (r : ℕ) (may : Bool) (em : may ≡ asks s.stage) (er : r ≡ head_but_links may s f h) (g : List ℕ) (eg : g ≡ numbered_in may s f h) where
  pub head_same : (r ≡ 0 → ⊥) → g ≡ f
  head_same d = eg ∙ sym (number_refused may s f h r er d)

  module _ (z : r ≡ 0) where
    later_same : is_built s.stage ≡ false → g ≡ f
    later_same q = eg ∙ sym (number_later may s f h r er z _ refl q)

    built_made : is_built s.stage ≡ true → g ≡ numbered s.n (forest_in s.n f) f
    built_made q = eg ∙ sym (number_built may s f h r er z _ refl q _ refl)

    pub lent : Lent s f g
    lent =
        let p = head_passed asks refl s f h r may em er z in
        let w = passed_whole p in
        elim (T_dec (is_built s.stage)) [
          | yes b ↦
              let q = T_true (is_built s.stage) b in
              rw (built_made q) (record {
                numbers = made_numbered s.n f w;
                forest = made_same s.n f w;
                later = λ a. absurd (false_T (is_built s.stage) a b);
                back = λ a. made_back s.n f w (built_orderable may s f h r er z _ refl q).blank;
              })
          | no b ↦
              let q = T_false (is_built s.stage) b in
              rw (later_same q) (record {
                numbers = passed_numbered p (numbered_stage s.stage (sym em ∙ (head_known may s f h (sym er ∙ z)).may) q);
                forest = refl;
                later = λ a. refl;
                back = λ a. absurd (b (true_T (is_built s.stage) a));
              })
        ]

    pub piece_told : (v : ℕ) → pick (leb s.n v) (refuses 4 0) (gives (piece s.n (forest_in s.n g) v)) ≡ piece_call s f h v
    unfolding piece_call ask_one
    piece_told v = rw (lent.forest, same_piece s f h v, ← head_is asks refl s f h r may em er, z) (simp tests)
