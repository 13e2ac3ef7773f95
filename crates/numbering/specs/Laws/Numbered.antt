-- The three sections laid in the table, that the passes one after another leave them, and what the head of a call gives.
-- Assumes nothing.
use Rattle.std.specs.Prelude.{ℕ, suc, ◌+◌, ◌*◌, ◌≤◌, ◌<◌, ◌≡◌, refl, Bool, true, false, List, get_or, T}
use Rattle.std.proofs.Math.Path.{sym}
use Rattle.std.proofs.Common.{ap, ◌∙◌, arith}
use Rattle.std.proofs.Math.Decide.{dec_lt}
use Rattle.std.proofs.Math.ListN.{length}
use Rattle.base.specs.Pick.{tests}
use Rattle.base.specs.Truth.{true_T, false_T}
use Rattle.rules.specs.Tables.{Tables}
use Rattle.rules.specs.Numbers.{below, passed, turn, end, at_turn}
use Rattle.state.specs.Layout.{stored, wiped, tables_in, forest_in}
use Rattle.state.specs.Test.{is_built, is_numbered}
use Rattle.state.proofs.Laws.Lists.{zero_at}
use Rattle.state.proofs.Laws.Behind.{behind_plain}
use Rattle.state.proofs.Laws.Clear.{wiped_length, wiped_before, wiped_within, wiped_behind}
use Rattle.state.specs.declared.State.{State}
use Rattle.state.specs.declared.Stage.{Stage}
use Rattle.state.specs.declared.Stage.TheVariants.{Building, Built, Reading, Read}
use Rattle.testing.specs.Test.{head_but_links}
use Rattle.testing.specs.Only.{Only}
use Rattle.testing.specs.Laid.{Laid}
use Rattle.testing.specs.Laws.Head.{Passed, head_known, head_passed}
use Rattle.testing.specs.Laws.Whole.{passed_whole}
use Rattle.testing.specs.Laws.Only.{only_trans, only_wider, only_forest, only_whole}
use Rattle.testing.specs.Laws.Laid.{laid_words, laid_is}
use Rattle.numbering.specs.Numbering.{numbered, numbered_in}
use Rattle.numbering.specs.Order.{Orderable, Orders}
use Rattle.numbering.specs.Passes.{Ready, Growable, Sizes, Sized, Passing, Turnable, Turns, Turned, Ends}
use Rattle.numbering.specs.Laws.Sizes.{ready_by}
use Rattle.numbering.specs.Laws.Ends.{ends_whose}

-- The words of the table with the three sections laid.
pub numbered_words : (n : ℕ) (t : Tables) (f : List ℕ) → 7 * n ≤ length f → Laid n 4 (turn n t) (end n t) (at_turn n t) f (numbered n t f)
unfolding numbered
numbered_words n t f long = laid_words n 4 (turn n t) (end n t) (at_turn n t) f long

-- The passes one after another.
module _ {n : ℕ} {f g₁ : List ℕ} (o : Orderable n f) (a : Orders n f g₁) where
  forest_1 : forest_in n g₁ ≡ forest_in n f
  forest_1 = only_forest n (omega arith) a.only

  ready_1 : Ready n g₁
  ready_1 = record { whole = only_whole n (omega arith) a.only o.whole; ordered = rw forest_1 a.ordered }

  pub growable_1 : Growable n g₁
  growable_1 = record { ready = ready_1; blank = λ i l h. a.only.behind i l ∙ o.blank i (omega arith) h }

  module _ {g₂ : List ℕ} (b : Sizes n g₁ g₂) where
    forest_2 : forest_in n g₂ ≡ forest_in n f
    forest_2 = only_forest n (omega arith) b.only ∙ forest_1

    ready_2 : Ready n g₂
    ready_2 = ready_by n (omega arith) b.only (λ j h. b.only.before (7 * n + j) (omega arith)) ready_1

    pub sized_2 : Sized n g₂
    sized_2 = record {
      whole = ready_2.whole;
      blank = λ i l h. b.only.before i (omega arith) ∙ a.only.before i h ∙ o.blank i l (omega arith);
      each = λ v h. b.each v h ∙ ap (λ t. below n t v) (forest_1 ∙ sym forest_2);
    }

    module _ {g₃ : List ℕ} (p : Passing n n g₂ g₃) where
      forest_3 : forest_in n g₃ ≡ forest_in n f
      forest_3 = only_forest n (omega arith) p.only ∙ forest_2

      pub turnable_3 : Turnable n g₃
      turnable_3 = record {
        ready = ready_by n (omega arith) p.only (λ j h. p.only.behind (7 * n + j) (omega arith)) ready_2;
        each = λ v h. p.each v h ∙ ap (λ t. passed n t v) (forest_2 ∙ sym forest_3);
      }

      module _ {g₄ : List ℕ} (q : Turns n g₃ g₄) where
        forest_4 : forest_in n g₄ ≡ forest_in n f
        forest_4 = only_forest n (omega arith) q.only ∙ forest_3

        pub turned_4 : Turned n g₄
        turned_4 = record {
          whole = only_whole n (omega arith) q.only turnable_3.ready.whole;
          turns = λ v h. q.each v h ∙ ap (λ t. turn n t v) (forest_3 ∙ sym forest_4);
          sizes = λ v h. ap suc (q.only.behind (9 * n + v) (omega arith) ∙ p.only.behind (9 * n + v) (omega arith)) ∙ b.each v h ∙ ap (λ t. below n t v) (forest_1 ∙ sym forest_4);
        }

        module _ {g₅ : List ℕ} (e : Ends n n g₄ g₅) where
          only_5 : Only (4 * n) (10 * n) f g₅
          only_5 =
              only_trans (only_wider (omega arith) (omega arith) a.only) (only_trans (only_wider (omega arith) (omega arith) b.only)
              (only_trans (only_wider (omega arith) (omega arith) p.only) (only_trans (only_wider (omega arith) (omega arith) q.only) (only_wider (omega arith) (omega arith) e.only))))

          turn_5 : (v : ℕ) → v < n → get_or g₅ (4 * n + v) 0 ≡ turn n (forest_in n f) v
          turn_5 v h = e.only.before (4 * n + v) (omega arith) ∙ q.each v h ∙ ap (λ t. turn n t v) forest_3

          end_5 : (v : ℕ) → v < n → get_or g₅ (5 * n + v) 0 ≡ end n (forest_in n f) v
          end_5 v h = e.ends v h ∙ ap (λ t. end n t v) forest_4

          whose_5 : (i : ℕ) → i < n → get_or g₅ (6 * n + i) 0 ≡ at_turn n (forest_in n f) i
          whose_5 i h = ends_whose turned_4.whole e i h ∙ ap (λ t. at_turn n t i) forest_4

          pub numbered_made : wiped (7 * n) (10 * n) g₅ ≡ numbered n (forest_in n f) f
          unfolding numbered
          numbered_made =
              let t = forest_in n f in
              let l : 10 * n ≤ length g₅ = omega (arith, only_5.long, o.whole.long) in
              let early = wiped_before (7 * n) (10 * n) g₅ (omega arith) l in
              laid_is n 4 (turn n t) (end n t) (at_turn n t) f (omega (arith, only_5.long)) (record {
                only = record {
                  long = wiped_length (7 * n) (10 * n) g₅ (omega arith) l ∙ only_5.long;
                  before = λ i h. early i (omega arith) ∙ only_5.before i h;
                  behind = λ i h. elim (dec_lt i (10 * n)) [
                    | yes k ↦ wiped_within (7 * n) (10 * n) g₅ (omega arith) l i h k ∙ sym (o.blank i (omega arith) k)
                    | no k ↦ wiped_behind (7 * n) (10 * n) g₅ (omega arith) l i (omega arith) ∙ only_5.behind i (omega arith)
                  ];
                };
                first = λ v h. early (4 * n + v) (omega arith) ∙ turn_5 v h;
                second = λ v h. early (5 * n + v) (omega arith) ∙ end_5 v h;
                third = λ i h. early (6 * n + i) (omega arith) ∙ whose_5 i h;
              })

-- Where the forest has just been built, and its tables pass, what is not stored is 0.
pub not_numbered : (g : Stage) → is_built g ≡ true → T (is_numbered g) → ⊥
not_numbered Building e x = x
not_numbered Built e x = x
not_numbered Reading e x = absurd (false_T (is_built Reading) refl (true_T (is_built Reading) e))
not_numbered Read e x = absurd (false_T (is_built Read) refl (true_T (is_built Read) e))

scratch_blank : {s : State} {f h : List ℕ} → Passed s f h → is_built s.stage ≡ true → (i : ℕ) → 4 * s.n ≤ i → i < 10 * s.n → get_or f i 0 ≡ 0
scratch_blank {s} {f} {h} p g i a b =
    let zero = p.found.back ∙ behind_plain s.n (tables_in s f h) s.stage (not_numbered s.stage g) in
    zero_at (stored * s.n) (12 * s.n) f zero i a (omega arith)

-- The head of a call: r is the refusal that is due, b whether the forest has just been built.
module _ (allowed : Bool) (s : State) (f h : List ℕ) (r : ℕ) (e : r ≡ head_but_links allowed s f h) where
  pub number_refused : (r ≡ 0 → ⊥) → f ≡ numbered_in allowed s f h
  unfolding numbered_in
  number_refused d = rw (← e) (simp tests)

  module _ (z : r ≡ 0) (b : Bool) (eb : b ≡ is_built s.stage) where
    pub number_later : b ≡ false → f ≡ numbered_in allowed s f h
    unfolding numbered_in
    number_later g = rw (← e, z, ← eb, g) (simp tests)

    module _ (g : b ≡ true) where
      pub built_orderable : Orderable s.n f
      built_orderable =
          let m : allowed ≡ is_built s.stage = (head_known allowed s f h (sym e ∙ z)).may ∙ sym g ∙ eb in
          let p = head_passed is_built refl s f h r allowed m e z in
          record { whole = passed_whole p; blank = scratch_blank p (sym eb ∙ g) }

      pub number_built : (k : List ℕ) → k ≡ numbered s.n (forest_in s.n f) f → k ≡ numbered_in allowed s f h
      unfolding numbered_in
      number_built k q = q ∙ rw (← e, z, ← eb, g) (simp tests)
