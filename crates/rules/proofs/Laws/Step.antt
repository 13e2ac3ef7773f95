-- What one told link does: it is passed over, noted, held, or marks its piece lost. What holds at every moment of a pass is kept.
-- Assumes nothing.
use Rattle.std.specs.Prelude.{ℕ, zero, suc, ◌-◌, ◌*◌, ◌<◌, ◌≤◌, min, max, ◌≡◌, refl, false, ◌&&◌, List, [], ◌∷◌, ◌++◌, ◌⊎◌, ◌≢◌, length, T, eqb, ltb}
use Rattle.std.proofs.Common.{sym, ap, ◌∙◌, eqb→eq}
use Rattle.std.proofs.Math.Logic.{inl, inr}
use native.Mathlib.Omega.{arith}
use Rattle.std.proofs.Math.Nat.{suc_inj}
use Rattle.std.proofs.Math.Decide.{ℕ_discrete, dec_lt}
use Rattle.std.proofs.Math.Dec.{eqb-suc-zero}
use Rattle.base.specs.Pick.{pick_true, pick_false, tests}
use Rattle.base.specs.Truth.{and_l, T_dec, T_true, T_false}
use Rattle.base.specs.Link.{Link}
use Rattle.rules.specs.Links.{between, linked, Among}
use Rattle.rules.specs.Tables.{Tables, rank, note_of, placed, put_note, put_mark, put_held}
use Rattle.rules.specs.Building.{pieces, size_of, held_in, better, note_link, hold, fill, hold_link, build_link, build_links}
use Rattle.rules.specs.Facts.{Standing, Rested, Loose, Holding, Underway}
use Rattle.rules.proofs.Laws.Partial.{label}
use Rattle.rules.proofs.Laws.Links.{between_here, between_turn, linked_nil, linked_turn, snoc_cases, linked_head, linked_tail}
use Rattle.rules.proofs.Laws.Tables.{SameForest, forest_refl, placed_loose, placed_or_loose, note_of_put_note_same, note_of_put_note_other, standing_same, put_note_forest, put_mark_forest, put_held_forest, put_note_length, put_mark_length, rested_note}
use Rattle.rules.proofs.Laws.Split.{tally_nil, by_between, between_both}
use Rattle.rules.proofs.Laws.Quota.{sorted, Once, Quota, quota_nil, quota_join, quota_fill, once_more}

-- The ways of B2 and B3.
pub data Step (n k a b : ℕ) (t : Tables) : Tables → Type 0 where
  -- both ends placed, or held already
  skips : (T (placed t a) × T (placed t b)) ⊎ T (linked t.held a b) → Step n k a b t t
  notes : (u p : ℕ) → T (between (a, b) u p) → Loose t u → T (placed t p) → Step n k a b t (note_link u p t)
  -- it joins two pieces, or its piece has room
  holds : Loose t a → Loose t b → (T (linked t.held a b) → ⊥) →
      (label n t a ≢ label n t b) ⊎
      ((label n t a ≡ label n t b) × (suc (suc (held_in (pieces n t.held) t.held (label n t a))) ≤ k * size_of n (pieces n t.held) (label n t a))) →
      Step n k a b t (hold a b t)
  marks : Loose t a → Loose t b → label n t a ≡ label n t b →
      k * size_of n (pieces n t.held) (label n t a) ≤ suc (held_in (pieces n t.held) t.held (label n t a)) →
      Step n k a b t (put_mark (label n t a) t)

-- The ladder of tests, followed.
module _ (n k a b : ℕ) (t : Tables) where
  loose_not : (v : ℕ) → Loose t v → placed t v ≡ false
  loose_not v e = T_false (placed t v) (λ q. placed_loose t v q e)

  fill_step : Loose t a → Loose t b → (T (linked t.held a b) → ⊥) → label n t a ≡ label n t b → Step n k a b t (fill n k a b (pieces n t.held) t)
  unfolding fill
  fill_step la lb new same = elim (dec_lt (held_in (pieces n t.held) t.held (label n t a)) (k * size_of n (pieces n t.held) (label n t a) - 1)) [
    | yes h ↦ simp tests (holds la lb new (inr (same, omega arith)))
    | no h ↦ let h' : k * size_of n (pieces n t.held) (label n t a) - 1 ≤ held_in (pieces n t.held) t.held (label n t a) = omega arith in simp tests (marks la lb same (omega arith))
  ]

  hold_step : Loose t a → Loose t b → Step n k a b t (hold_link n k a b t)
  unfolding hold_link
  hold_step la lb = elim (T_dec (linked t.held a b)) [
    | yes s ↦ rw (T_true (linked t.held a b) s, pick_true) (skips (inr s))
    | no s ↦ rw (T_false (linked t.held a b) s, pick_false) (elim (ℕ_discrete (label n t a) (label n t b)) [
      | yes e ↦ simp tests (fill_step la lb s e)
      | no e ↦ simp tests (holds la lb s (inl e))
    ])
  ]

  -- A told link takes one of the ways.
  pub link_step : Step n k a b t (build_link n k t (a, b))
  unfolding build_link
  link_step = elim (placed_or_loose t a) [
    | inl p ↦ elim (placed_or_loose t b) [
      | inl q ↦ rw (T_true (placed t a) p, T_true (placed t b) q) (simp pick_true (skips (inl (p, q))))
      | inr q ↦ rw (T_true (placed t a) p, loose_not b q, pick_true, pick_false) (notes b a (between_turn (a, b) a b (between_here a b)) q p)
    ]
    | inr p ↦ elim (placed_or_loose t b) [
      | inl q ↦ rw (loose_not a p, T_true (placed t b) q, pick_false, pick_true) (notes a b (between_here a b) p q)
      | inr q ↦ rw (loose_not a p, loose_not b q) (simp pick_false (hold_step p q))
    ]
  ]

-- The better of an old note and a new one is one of the two, and no less deep than either.
pub record Better (t : Tables) (old p q : ℕ) : Type 0 where
  pub either : (old ≡ suc q) ⊎ (q ≡ p)
  pub over_new : rank t p ≤ rank t q
  pub over_old : (o : ℕ) → old ≡ suc o → rank t o ≤ rank t q

better_new : (t : Tables) (o p : ℕ) → rank t o ≤ rank t p → Better t (suc o) p p
better_new t o p h = record { either = inr refl; over_new = omega arith; over_old = λ x e. rw (← suc_inj e) h }

better_old : (t : Tables) (o p : ℕ) → rank t p ≤ rank t o → Better t (suc o) p o
better_old t o p h = record { either = inl refl; over_new = h; over_old = λ x e. rw (suc_inj e) (omega arith) }

pub better_best : (t : Tables) (old p : ℕ) → (q : ℕ) × (better t old (suc p) ≡ suc q) × Better t old p q
unfolding better
better_best t zero p = (p, simp (tests, eqb-suc-zero), record { either = inr refl; over_new = omega arith; over_old = λ o e. absurd (omega arith) })
better_best t (suc o) p = elim (dec_lt (rank t o) (rank t p)) [
  | yes h ↦ (p, simp (tests, eqb-suc-zero), better_new t o p (omega arith))
  | no h ↦
      let g : rank t p ≤ rank t o = omega arith in
      elim (T_dec (eqb (rank t o) (rank t p) && ltb (suc p) (suc o))) [
        | yes s ↦
            let e : rank t o ≡ rank t p = eqb→eq _ _ (and_l (eqb (rank t o) (rank t p)) (ltb (suc p) (suc o)) s) in
            (p, rw (T_true (eqb (rank t o) (rank t p) && ltb (suc p) (suc o)) s) (simp (tests, eqb-suc-zero)), better_new t o p (omega arith))
        | no s ↦ (o, rw (T_false (eqb (rank t o) (rank t p) && ltb (suc p) (suc o)) s) (simp (tests, eqb-suc-zero)), better_old t o p g)
      ]
]

-- Held links stay in order through a note, a mark and a new held link.
module _ {n k a b : ℕ} (ha : a < n) (hb : b < n) (d : a ≢ b) {t : Tables} (H : Holding n k t) where
  holding_note : (u p : ℕ) → Holding n k (note_link u p t)
  unfolding note_link put_note rank
  holding_note u p = record { ends = H.ends; once = H.once; quota = H.quota }

  holding_mark : (m : ℕ) → Holding n k (put_mark m t)
  unfolding put_mark rank
  holding_mark m = record { ends = H.ends; once = H.once; quota = H.quota }

  ends_hold : Loose t a → Loose t b → (u v : ℕ) → T (linked (t.held ++ ((min a b, max a b) ∷ [])) u v) → (u < n) × (v < n) × (u ≢ v) × Loose t u × Loose t v
  ends_hold la lb u v s = elim (snoc_cases t.held (min a b, max a b) u v s) [
    | inl r ↦ H.ends u v r
    | inr r ↦ by_between (λ x y. (x < n) × (y < n) × (x ≢ y) × Loose t x × Loose t y) (λ x y (i, j, e, f, g). (j, i, λ q. e (sym q), g, f)) (min a b) (max a b) u v r
        (sorted (λ x y. (x < n) × (y < n) × (x ≢ y) × Loose t x × Loose t y) a b (ha, hb, d, la, lb) (hb, ha, (λ q. d (sym q)), lb, la))
  ]

  once_hold : (T (linked t.held a b) → ⊥) → Once (t.held ++ ((min a b, max a b) ∷ []))
  once_hold new = once_more t.held (min a b) (max a b) H.once (sorted (λ x y. T (linked t.held x y) → ⊥) a b new (λ s. new (linked_turn t.held b a s)))

  quota_apart : label n t a ≢ label n t b → Quota n k (t.held ++ ((min a b, max a b) ∷ []))
  quota_apart e = sorted (λ x y. Quota n k (t.held ++ ((x, y) ∷ []))) a b
      (quota_join n k a b t.held H.quota ha hb e)
      (quota_join n k b a t.held H.quota hb ha (λ q. e (sym q)))

  quota_room : label n t a ≡ label n t b → suc (suc (held_in (pieces n t.held) t.held (label n t a))) ≤ k * size_of n (pieces n t.held) (label n t a) → Quota n k (t.held ++ ((min a b, max a b) ∷ []))
  quota_room e r = sorted (λ x y. Quota n k (t.held ++ ((x, y) ∷ []))) a b
      (quota_fill n k a b t.held H.quota ha hb e r)
      (quota_fill n k b a t.held H.quota hb ha (sym e) (rw e at r))

  pub holding_step : {t' : Tables} → Step n k a b t t' → Holding n k t'
  unfolding hold put_held rank
  holding_step (skips s) = H
  holding_step (notes u p s l q) = holding_note u p
  holding_step (marks la lb e f) = holding_mark _
  holding_step (holds la lb new (inl e)) = record { ends = ends_hold la lb; once = once_hold new; quota = quota_apart e }
  holding_step (holds la lb new (inr (e, r))) = record { ends = ends_hold la lb; once = once_hold new; quota = quota_room e r }

-- The note after a link from u to p, and every other note as before.
module _ (u p : ℕ) (t : Tables) (h : u < length t.note) where
  pub note_best_step : (q : ℕ) × (note_of (note_link u p t) u ≡ suc q) × Better t (note_of t u) p q
  unfolding note_link
  note_best_step = let (q, e, i) = better_best t (note_of t u) p in (q, note_of_put_note_same u _ t h ∙ e, i)

  pub note_other : (v : ℕ) → v ≢ u → note_of (note_link u p t) v ≡ note_of t v
  unfolding note_link
  note_other v d = note_of_put_note_other u _ t v d

  -- What is noted was noted before, or is p, by u.
  pub note_cases : (v q : ℕ) → note_of (note_link u p t) v ≡ suc q → (note_of t v ≡ suc q) ⊎ ((u ≡ v) × (p ≡ q))
  note_cases v q e = elim (ℕ_discrete v u) [
    | yes i ↦
        let (r, f, B) = note_best_step in
        let g : r ≡ q = suc_inj (sym f ∙ (rw i at e)) in
        elim B.either [
          | inl o ↦ inl (rw i (o ∙ ap suc g))
          | inr o ↦ inr (sym i, sym o ∙ g)
        ]
    | no i ↦ inl (sym (note_other v i) ∙ e)
  ]

-- What holds at every moment of a pass holds after one more told link.
module _ {n k a b : ℕ} (ha : a < n) (hb : b < n) (d : a ≢ b) {t : Tables} (U : Underway n k t) where
  both_in : (u p : ℕ) → T (between (a, b) u p) → (u < n) × (p < n)
  both_in u p s = between_both (λ x. x < n) a b u p s ha hb

  underway_note : (u p : ℕ) → T (between (a, b) u p) → Loose t u → T (placed t p) → Underway n k (note_link u p t)
  unfolding note_link put_note rank placed
  underway_note u p s l q = record {
    standing = standing_same (put_note_forest t u _) (put_note_length u _ t ∙ U.standing.long_note) U.standing.long_mark U.standing;
    holding = holding_step ha hb d U.holding (notes u p s l q);
    noting = λ v r e. elim (note_cases u p t (rw U.standing.long_note (both_in u p s).0) v r e) [
      | inl f ↦ U.noting v r f
      | inr (i, j) ↦ rw (← i, ← j) ((both_in u p s).0, (both_in u p s).1, l, q)
    ];
  }

  step_kept : {t' : Tables} → Step n k a b t t' → Underway n k t'
  unfolding hold put_held put_mark note_of rank placed
  step_kept (skips s) = U
  step_kept (notes u p s l q) = underway_note u p s l q
  step_kept (marks la lb e f) = record {
    standing = standing_same (put_mark_forest t _) U.standing.long_note (put_mark_length _ t ∙ U.standing.long_mark) U.standing;
    holding = holding_step ha hb d U.holding (marks la lb e f);
    noting = U.noting;
  }
  step_kept (holds la lb new r) = record {
    standing = standing_same (put_held_forest t _) U.standing.long_note U.standing.long_mark U.standing;
    holding = holding_step ha hb d U.holding (holds la lb new r);
    noting = U.noting;
  }

  -- One more link told, in any state.
  pub building_kept : Underway n k (build_link n k t (a, b))
  building_kept = step_kept (link_step n k a b t)

-- A list told, in any state.
pub list_kept : {n k : ℕ} {t : Tables} (g : List Link) → Among n (linked g) → Underway n k t → Underway n k (build_links n k t g)
unfolding build_links
list_kept [] A U = U
list_kept {n} {k} {t} ((a, b) ∷ g) A U =
    let i : (a < n) × (b < n) × (a ≢ b) = A a b (linked_head (a, b) g a b (between_here a b)) in
    list_kept {t = build_link n k t (a, b)} g (λ u v s. A u v (linked_tail (a, b) g u v s)) (building_kept i.0 i.1 i.2 U)

-- Where nothing is held, and so where a pass begins.
pub none_holding : (n k : ℕ) (t : Tables) → 1 ≤ k → t.held ≡ [] → Holding n k t
none_holding n k t h e = record {
  ends = λ u v s. absurd (linked_nil u v (rw e at s));
  once = λ u v. rw e (omega (arith, tally_nil (λ e. between e u v)));
  quota = λ v i. rw e (quota_nil n k h v i);
}

pub rested_holding : (n k : ℕ) (t : Tables) → 1 ≤ k → Rested n t → Holding n k t
rested_holding n k t h R = none_holding n k t h R.no_held

pub rested_underway : (n k : ℕ) (t : Tables) → 1 ≤ k → Standing n t → Rested n t → Underway n k t
rested_underway n k t h S R = record { standing = S; holding = rested_holding n k t h R; noting = λ u p e. absurd (omega (arith, rested_note R u)) }

-- A told link places nothing.
pub step_forest : {n k a b : ℕ} {t t' : Tables} → Step n k a b t t' → SameForest t' t
unfolding note_link hold
step_forest {t = t} (skips s) = forest_refl t
step_forest {t = t} (notes u p s l q) = put_note_forest t u _
step_forest {t = t} (holds la lb new r) = put_held_forest t _
step_forest {t = t} (marks la lb e f) = put_mark_forest t _
