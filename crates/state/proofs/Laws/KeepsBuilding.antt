-- What building leaves agrees with its state: a block told, and a pass closed.
-- Assumes nothing.
use Rattle.std.specs.Prelude.{ℕ, suc, ◌≤◌, ◌<◌, min, max, ◌≡◌, Bool, ◌&&◌, ◌||◌, not, List, [], ◌∷◌, ◌++◌, ◌⊎◌, ◌≢◌, T, ltb}
use Rattle.std.proofs.Math.Path.{refl, sym}
use Rattle.std.proofs.Common.{ap, ◌∙◌, subst, arith}
use Rattle.std.proofs.Math.Logic.{inl, inr}
use Rattle.std.proofs.Math.Decide.{ℕ_discrete}
use Rattle.std.proofs.Math.ListN.{length}
use Rattle.base.specs.Truth.{and_l, and_r, and_intro, or_l, or_r}
use Rattle.base.specs.Link.{Link}
use Rattle.rules.specs.Links.{linked, Among}
use Rattle.rules.specs.Tables.{Tables, rank, mark_of, placed, put_note, put_mark, put_held}
use Rattle.rules.specs.Building.{note_link, hold, build_link, build_links, close_building, done}
use Rattle.rules.proofs.Laws.Facts.{Loose, Underway}
use Rattle.rules.proofs.Laws.Links.{between_here, linked_head, linked_tail}
use Rattle.rules.proofs.Laws.Tables.{SameForest, forest_refl, forest_trans, same_parent_of, same_rank, same_placed, same_mark_of, put_note_forest, put_mark_forest, put_held_forest, mark_of_put_mark_other}
use Rattle.rules.proofs.Laws.Search.{every_at}
use Rattle.rules.proofs.Laws.Pieces.{label_joined}
use Rattle.rules.proofs.Laws.Quota.{sorted, joined_loose, held_few}
use Rattle.rules.proofs.Laws.Step.{Step, skips, notes, holds, marks, link_step, building_kept, list_kept}
use Rattle.rules.proofs.Laws.Close.{not_placed}
use Rattle.rules.proofs.Laws.Ceiling.{every_fails}
use Rattle.rules.proofs.Laws.CloseAny.{close_stands, close_rests, close_loose, close_adds}
use Rattle.state.specs.Test.{entries_most, is_building, is_built, is_reading, is_read, ends_fit}
use Rattle.state.specs.Call.{moved}
use Rattle.state.proofs.Laws.Held.{ends_more}
use Rattle.state.proofs.Laws.Sound.{Agrees, underway}
use Rattle.state.proofs.Laws.Keeps.{Bits, mark_bits, bits_same, rested_agrees}
use Rattle.state.specs.declared.State.{State}
use Rattle.state.specs.declared.Stage.{Stage}
use Rattle.state.specs.declared.Stage.TheVariants.{Building, Built, Reading, Read}

-- What the test asks of held links and marks besides the facts of the theory, and what a told link leaves alone.
record Tidy (n : ℕ) (t : Tables) : Type 0 where
  ends_fit_lem : T (ends_fit n t t.held)
  bits : Bits n t
  mark_loose : (v : ℕ) → v < n → (mark_of t v ≡ 0) ⊎ Loose t v

record Beside (t t' : Tables) : Type 0 where
  forest : SameForest t' t
  crossed : t'.crossed ≡ t.crossed

-- The ends of held links fit by what is placed alone.
ends_same : (n : ℕ) (t t' : Tables) → placed t' ≡ placed t → (l : List Link) → T (ends_fit n t l) → T (ends_fit n t' l)
unfolding ends_fit
ends_same n t t' e [] x = tt
ends_same n t t' e ((a, b) ∷ l) x =
    let test : (ℕ → Bool) → Bool = λ p. ltb a b && (ltb b n && (not (p a) && not (p b))) in
    and_intro (test (placed t')) (ends_fit n t' l)
    (subst (λ (p : ℕ → Bool). T (test p)) (sym e) (and_l (test (placed t)) (ends_fit n t l) x))
    (ends_same n t t' e l (and_r (test (placed t)) (ends_fit n t l) x))

module _ {n : ℕ} {t t' : Tables} (F : SameForest t' t) (D : Tidy n t) where
  tidy_same : t'.mark ≡ t.mark → T (ends_fit n t t'.held) → Tidy n t'
  tidy_same e x = record {
    ends_fit_lem = ends_same n t t' (same_placed F) t'.held x;
    bits = bits_same t' t e D.bits;
    mark_loose = λ v l. elim (D.mark_loose v l) [ inl z ↦ inl (same_mark_of t' t e v ∙ z) | inr z ↦ inr (same_rank F v ∙ z) ];
  }

module _ {n k a b : ℕ} (ha : a < n) (hb : b < n) (d : a ≢ b) {t : Tables} (U : Underway n k t) (D : Tidy n t) where
  -- A new held link goes smaller end first.
  ends_held : Loose t a → Loose t b → T (ends_fit n t (t.held ++ ((min a b, max a b) ∷ [])))
  ends_held la lb = ends_more n t t.held (min a b) (max a b) D.ends_fit_lem
      (record { less = omega arith; inside = omega arith; one = sorted (λ x y. Loose t x) a b la lb; two = sorted (λ x y. Loose t y) a b lb la })

  -- The piece of an unplaced fragment is marked at an unplaced one.
  tidy_mark : (m : ℕ) → Loose t m → Tidy n (put_mark m t)
  unfolding put_mark rank
  tidy_mark m z = record {
    ends_fit_lem = ends_same n t (put_mark m t) (same_placed (put_mark_forest t m)) t.held D.ends_fit_lem;
    bits = mark_bits m t D.bits;
    mark_loose = λ v l. elim (ℕ_discrete v m) [
      | yes e ↦ inr (rw e z)
      | no e ↦ elim (D.mark_loose v l) [ inl o ↦ inl (mark_of_put_mark_other m t v e ∙ o) | inr o ↦ inr o ]
    ];
  }

  tidy_step : {t' : Tables} → Step n k a b t t' → Tidy n t' × Beside t t'
  unfolding note_link hold put_note put_held put_mark
  tidy_step (skips s) = (D, record { forest = forest_refl t; crossed = refl })
  tidy_step (notes u p s l q) = (tidy_same (put_note_forest t u _) D refl D.ends_fit_lem, record { forest = put_note_forest t u _; crossed = refl })
  tidy_step (holds la lb new r) = (tidy_same (put_held_forest t _) D refl (ends_held la lb), record { forest = put_held_forest t _; crossed = refl })
  tidy_step (marks la lb e f) = (tidy_mark _ (joined_loose n k t U.holding a _ (label_joined n t.held (λ u v s. ((U.holding.ends u v s).0, (U.holding.ends u v s).1)) a ha) la), record { forest = put_mark_forest t _; crossed = refl })

beside_trans : {r s t : Tables} → Beside r s → Beside s t → Beside r t
beside_trans p q = record { forest = forest_trans q.forest p.forest; crossed = q.crossed ∙ p.crossed }

-- A list told.
tidy_list : {n k : ℕ} {t : Tables} (g : List Link) → Among n (linked g) → Underway n k t → Tidy n t → Tidy n (build_links n k t g) × Beside t (build_links n k t g)
unfolding build_links
tidy_list {n} {k} {t} [] A U D = (D, record { forest = forest_refl t; crossed = refl })
tidy_list {n} {k} {t} ((a, b) ∷ g) A U D =
    let i : (a < n) × (b < n) × (a ≢ b) = A a b (linked_head (a, b) g a b (between_here a b)) in
    let (D', B) = tidy_step i.0 i.1 i.2 U D (link_step n k a b t) in
    let (D'', C) = tidy_list {t = build_link n k t (a, b)} g (λ u v s. A u v (linked_tail (a, b) g u v s)) (building_kept i.0 i.1 i.2 U) D' in
    (D'', beside_trans B C)

-- Building is no other stage.
building_alone : (g : Stage) → T (is_building g) → T (is_built g || (is_reading g || is_read g)) → ⊥
building_alone Building b x = x
building_alone Built b x = b
building_alone Reading b x = b
building_alone Read b x = b

-- A state in Building.
module _ (s : State) (t : Tables) (a : Agrees s t) (b : T (is_building s.stage)) where
  in_building : Underway s.n s.k t
  in_building = underway s t a b

  not_reading : T (is_reading s.stage || is_read s.stage) → ⊥
  not_reading x = building_alone s.stage b (or_r (is_built s.stage) _ x)

  not_built : T (is_built s.stage) → ⊥
  not_built x = building_alone s.stage b (or_l (is_built s.stage) _ x)

  pub build_agrees : (g : List Link) → Among s.n (linked g) → (e : ℕ) → e ≤ entries_most
      → Agrees (moved s.stage s.passes e (build_links s.n s.k t g) s) (build_links s.n s.k t g)
  unfolding moved done
  build_agrees g A e few =
      let t' = build_links s.n s.k t g in
      let U : Underway s.n s.k t' = list_kept g A in_building in
      let (D, B) = tidy_list g A in_building (record { ends_fit_lem = a.ends_fit_lem; bits = a.mark_bit; mark_loose = a.mark_loose b }) in
      record {
        standing = U.standing;
        as_many = refl;
        as_crossed = refl;
        ends_fit_lem = D.ends_fit_lem;
        holding = U.holding;
        held_room = held_few s.n s.k t' U.holding;
        entries_few = few;
        passes_few = rw (same_placed B.forest) a.passes_few;
        mark_bit = D.bits;
        loose_parent = λ v l z. same_parent_of B.forest v ∙ a.loose_parent v l (sym (same_rank B.forest v) ∙ z);
        unfinished = λ x y. a.unfinished b (rw (same_placed B.forest) at y);
        noting = λ x. U.noting;
        mark_loose = λ x. D.mark_loose;
        all_placed = λ x. absurd (x b);
        none_held = λ x. absurd (x b);
        rested = λ x. absurd (not_built x);
        no_entries = λ x. absurd (not_built x);
        low = λ x. absurd (not_reading x);
        mark_child = λ x. absurd (not_reading x);
        whole = λ x. absurd (not_reading (or_r (is_reading s.stage) (is_read s.stage) x));
        uncrossed = λ x. B.crossed ∙ sym a.as_crossed ∙ a.uncrossed x;
      }

  -- A close leaves one more placed, and so room for its count.
  pub close_agrees : 1 ≤ s.k → (g : Stage) → (T (is_building g) → T (done s.n (close_building s.n t)) → ⊥)
      → ((T (is_building g) → ⊥) → T (done s.n (close_building s.n t))) → (T (is_read g) → ⊥)
      → Agrees (moved g (suc s.passes) 0 (close_building s.n t) s) (close_building s.n t)
  unfolding moved done
  close_agrees some g u w r =
      let t' = close_building s.n t in
      let R = close_rests in_building in
      let (v, l, f) = every_fails (placed t) s.n (a.unfinished b) in
      rested_agrees (moved g (suc s.passes) 0 t' s) t' (close_stands in_building) R some (ap length R.no_held) R.no_cross refl
      (omega (arith, a.passes_few, close_adds in_building v l (not_placed t v f)))
      (λ v l z. let (e, y) = close_loose in_building v z in e ∙ a.loose_parent v l y)
      u (λ x v l. every_at (placed t') s.n (w x) v l) r
