-- What is asked of the numbers fragment by fragment is that they are the numbers of the forest.
-- Assumes nothing.
use Rattle.std.specs.Prelude.{ℕ, suc, ◌<◌, ◌≡◌, Bool, List, ◌⊎◌, ◌≢◌, eqb, ltb}
use Rattle.std.proofs.Common.{sym, ◌∙◌, lt→ltb, eq-eqb, ne_eqb}
use Rattle.std.proofs.Math.Path.{subst}
use Rattle.std.proofs.Math.Logic.{inl, inr}
use Rattle.std.proofs.Math.Decide.{ℕ_discrete}
use Rattle.std.proofs.Math.Dec.{T, eqb→eq, ltb→lt}
use Rattle.base.specs.Pick.{pick, pick_true, pick_false}
use Rattle.base.specs.Truth.{and_l, and_r, and_intro, or_l, or_r, or_cases, T_ext, eq_to_eqb}
use Rattle.rules.specs.Search.{every}
use Rattle.rules.specs.Forest.{Levels}
use Rattle.rules.specs.Tables.{Tables, parent_of, placed, par, lev}
use Rattle.rules.specs.Numbers.{turn, end, at_turn}
use Rattle.rules.proofs.Laws.Search.{every_at, every_intro}
use Rattle.rules.proofs.Laws.Tables.{par_placed}
use Rattle.rules.proofs.Laws.Fits.{Under, NextRoot, FitsAt, NumberedAt}
use Rattle.rules.proofs.Laws.Numbered.{fits_numbered}
use Rattle.rules.proofs.Laws.NumberedFits.{numbered_fits}
use Rattle.state.specs.Layout.{turn_in, end_in, whose_in}
use Rattle.state.specs.Test.{numbered_at}
use Rattle.testing.specs.Test.{under_at, comes_at, rises_to, root_fits, child_fits, words_fit}

module _ (n : ℕ) (t : Tables) (f : List ℕ) (all : (v : ℕ) → v < n → T (placed t v)) where
  abbrev P : ℕ → ℕ
  P = turn_in n f

  abbrev E : ℕ → ℕ
  E = end_in n f

  abbrev O : ℕ → ℕ
  O = whose_in n f

  is_par : (v : ℕ) → v < n → par t v ≡ parent_of t v
  is_par v h = par_placed t v (all v h)

  under_known : (p i : ℕ) → T (under_at n t f p i) → Under n t P E O p i
  unfolding under_at
  under_known p i x =
      let y = and_r (ltb i n) _ x in
      let h = ltb→lt (O i) n (and_l (ltb (O i) n) _ y) in
      record { early = ltb→lt i n (and_l (ltb i n) _ x); one = h; under = is_par (O i) h ∙ eqb→eq (parent_of t (O i)) p (and_r (ltb (O i) n) _ y) }

  under_made : (p i : ℕ) → Under n t P E O p i → T (under_at n t f p i)
  unfolding under_at
  under_made p i u =
      and_intro (ltb i n) _ (lt→ltb i n u.early)
      (and_intro (ltb (O i) n) _ (lt→ltb (O i) n u.one) (eq_to_eqb (parent_of t (O i)) p (sym (is_par (O i) u.one) ∙ u.under)))

  rises_known : (v p i : ℕ) → T (rises_to n t f v p i) → Under n t P E O p i × (v < O i)
  unfolding rises_to
  rises_known v p i x = (under_known p i (and_r (ltb v (O i)) _ x), ltb→lt v (O i) (and_l (ltb v (O i)) _ x))

  rises_made : (v p i : ℕ) → Under n t P E O p i → v < O i → T (rises_to n t f v p i)
  unfolding rises_to
  rises_made v p i u h = and_intro (ltb v (O i)) _ (lt→ltb v (O i) h) (under_made p i u)

  module _ (v : ℕ) (h : v < n) where
    -- What comes behind v, by its parent.
    root_known : T (root_fits n t f v) → (E v ≡ n) ⊎ NextRoot n t P E O v (E v)
    unfolding root_fits
    root_known x = elim (or_cases (eqb (E v) n) _ x) [
      | inl e ↦ inl (eqb→eq (E v) n e)
      | inr r ↦ let (u, l) = rises_known v (O (E v)) (E v) r in inr (record { early = u.early; one = u.one; root = u.under; rises = l })
    ]

    root_made : (E v ≡ n) ⊎ NextRoot n t P E O v (E v) → T (root_fits n t f v)
    unfolding root_fits
    root_made (inl e) = or_l (eqb (E v) n) _ (eq_to_eqb (E v) n e)
    root_made (inr r) = or_r (eqb (E v) n) _ (rises_made v (O (E v)) (E v) (record { early = r.early; one = r.one; under = r.root }) r.rises)

    abbrev Behind : ℕ → Type 0
    Behind p = (E v ≡ E p) ⊎ (Under n t P E O p (E v) × (v < O (E v)))

    child_known : (p : ℕ) → T (child_fits n t f p v) → (P p < P v) × Behind p
    unfolding child_fits
    child_known p x = (
      ltb→lt (P p) (P v) (and_l (ltb (P p) (P v)) _ x),
      elim (or_cases (eqb (E v) (E p)) _ (and_r (ltb (P p) (P v)) _ x)) [
        | inl e ↦ inl (eqb→eq (E v) (E p) e)
        | inr r ↦ inr (rises_known v p (E v) r)
      ],
    )

    child_made : (p : ℕ) → P p < P v → Behind p → T (child_fits n t f p v)
    unfolding child_fits
    child_made p l b = and_intro (ltb (P p) (P v)) _ (lt→ltb (P p) (P v) l) (elim b [
      | inl e ↦ or_l (eqb (E v) (E p)) _ (eq_to_eqb (E v) (E p) e)
      | inr (u, g) ↦ or_r (eqb (E v) (E p)) _ (rises_made v p (E v) u g)
    ])

    abbrev next : Bool
    next = pick (eqb (parent_of t v) v) (root_fits n t f v) (child_fits n t f (parent_of t v) v)

    next_at_root : par t v ≡ v → next ≡ root_fits n t f v
    next_at_root e = rw (eq-eqb (parent_of t v) v (sym (is_par v h) ∙ e)) (pick_true _ _)

    next_at_child : par t v ≢ v → next ≡ child_fits n t f (par t v) v
    next_at_child d = rw (is_par v h, ne_eqb (parent_of t v) v (λ e. d (is_par v h ∙ e))) (pick_false _ _)

    words_known : T (words_fit n t f v) → FitsAt n t P E O v
    unfolding words_fit comes_at
    words_known x =
        let c = and_l (comes_at n t f v) next x in
        let z = and_r (comes_at n t f v) next x in
        let c2 = and_r (ltb (P v) n) _ c in
        let c3 = and_r (eqb (O (P v)) v) _ c2 in
        let c4 = and_r (ltb (P v) (E v)) _ c3 in
        let kid : par t v ≢ v → (P (par t v) < P v) × Behind (par t v) = λ d. child_known (par t v) (subst T (next_at_child d) z) in
        record {
          inside = ltb→lt (P v) n (and_l (ltb (P v) n) _ c);
          back = eqb→eq (O (P v)) v (and_l (eqb (O (P v)) v) _ c2);
          wide = ltb→lt (P v) (E v) (and_l (ltb (P v) (E v)) _ c3);
          first_child = elim (or_cases (eqb (E v) (suc (P v))) _ c4) [ inl e ↦ inl (eqb→eq (E v) (suc (P v)) e) | inr u ↦ inr (under_known v (suc (P v)) u) ];
          next_root = λ e. root_known (subst T (next_at_root e) z);
          later = λ d. (kid d).0;
          next_child = λ d. (kid d).1;
        }

    words_made : FitsAt n t P E O v → T (words_fit n t f v)
    unfolding words_fit comes_at
    words_made F =
        and_intro (comes_at n t f v) next
        (and_intro (ltb (P v) n) _ (lt→ltb (P v) n F.inside)
        (and_intro (eqb (O (P v)) v) _ (eq_to_eqb (O (P v)) v F.back)
        (and_intro (ltb (P v) (E v)) _ (lt→ltb (P v) (E v) F.wide)
        (elim F.first_child [
          | inl e ↦ or_l (eqb (E v) (suc (P v))) _ (eq_to_eqb (E v) (suc (P v)) e)
          | inr u ↦ or_r (eqb (E v) (suc (P v))) _ (under_made v (suc (P v)) u)
        ]))))
        (elim (ℕ_discrete (par t v) v) [
          | yes e ↦ subst T (sym (next_at_root e)) (root_made (F.next_root e))
          | no d ↦ subst T (sym (next_at_child d)) (child_made (par t v) (F.later d) (F.next_child d))
        ])

    at_known : T (numbered_at n t f v) → NumberedAt n t P E O v
    unfolding numbered_at
    at_known x =
        let y = and_r (eqb (P v) (turn n t v)) _ x in
        record {
          turns = eqb→eq (P v) (turn n t v) (and_l (eqb (P v) (turn n t v)) _ x);
          ends = eqb→eq (E v) (end n t v) (and_l (eqb (E v) (end n t v)) _ y);
          whose = eqb→eq (O v) (at_turn n t v) (and_r (eqb (E v) (end n t v)) _ y);
        }

    at_made : NumberedAt n t P E O v → T (numbered_at n t f v)
    unfolding numbered_at
    at_made N =
        and_intro (eqb (P v) (turn n t v)) _ (eq_to_eqb (P v) (turn n t v) N.turns)
        (and_intro (eqb (E v) (end n t v)) _ (eq_to_eqb (E v) (end n t v) N.ends) (eq_to_eqb (O v) (at_turn n t v) N.whose))

  pub words_are : Levels n (par t) (lev t) → every (words_fit n t f) n ≡ every (numbered_at n t f) n
  words_are L =
      T_ext (every (words_fit n t f) n) (every (numbered_at n t f) n)
      (λ x. every_intro (numbered_at n t f) n (λ v h. at_made v h (fits_numbered n t P E O L (λ u g. words_known u g (every_at (words_fit n t f) n x u g)) v h)))
      (λ x. every_intro (words_fit n t f) n (λ v h. words_made v h (numbered_fits n t P E O L (λ u g. at_known u g (every_at (numbered_at n t f) n x u g)) v h)))
