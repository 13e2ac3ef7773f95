-- Laws of the better of two notes, of the deepest fragment that a piece noted, and of its top.
-- Assumes nothing.
use Prim.Native.Nat.{ℕ, zero, suc, ◌<◌, ◌≤◌}
use Rattle.std.specs.Prelude.{◌≡◌, ◌&&◌, List, ◌⊎◌, T}
use Rattle.std.proofs.Math.Path.{refl}
use Rattle.std.proofs.Common.{sym, ap, ◌∙◌, inl, inr, arith}
use Rattle.std.proofs.Math.Bool.{Bool}
use Rattle.std.proofs.Math.Dec.{eqb, eqb→eq, eqb-suc-zero}
use Rattle.base.specs.Pick.{pick}
use Rattle.base.specs.Truth.{and_intro, and_l, and_r, eq_to_eqb, T_dec, T_true, T_false}
use Rattle.rules.specs.Search.{first}
use Rattle.rules.specs.Tables.{Tables, rank, note_of}
use Rattle.rules.specs.Building.{member, better, noted, top_of}
use Rattle.rules.proofs.Laws.Step.{better_best}
use Rattle.rules.proofs.Laws.Search.{below_suc, first_below, first_passes}

-- The note x is of a fragment at least as deep as a.
abbrev pub Deep : Tables → ℕ → ℕ → Type 0
Deep t x a = (q : ℕ) × (x ≡ suc q) × (rank t a ≤ rank t q)

module _ (t : Tables) where
  better_none : (old : ℕ) → better t old 0 ≡ old
  unfolding better pick
  better_none old = refl

  -- The better of two notes is at least as deep as either,
  better_old : (old new a : ℕ) → Deep t old a → Deep t (better t old new) a
  better_old old zero a d = rw (better_none old) d
  better_old old (suc r) a (q, e, h) = let (x, f, b) = better_best t old r in (x, f, omega (arith, b.over_old q e))

  better_new : (old new a : ℕ) → Deep t new a → Deep t (better t old new) a
  better_new old new a (r, e, h) = let (x, f, b) = better_best t old r in rw e (x, f, omega (arith, b.over_new))

  -- and one of them.
  better_is : (old new : ℕ) → (better t old new ≡ old) ⊎ (better t old new ≡ new)
  better_is old zero = inl (better_none old)
  better_is old (suc r) = let (x, f, b) = better_best t old r in elim b.either [ inl e ↦ inl (f ∙ sym e) | inr e ↦ inr (f ∙ ap suc e) ]

  module _ (l : List ℕ) (p : ℕ) where
    noted_in : (m : ℕ) → T (member l p m) → noted t l p (suc m) ≡ better t (noted t l p m) (note_of t m)
    unfolding noted pick
    noted_in m c = rw (T_true (member l p m) c)

    noted_out : (m : ℕ) → (T (member l p m) → ⊥) → noted t l p (suc m) ≡ noted t l p m
    unfolding noted pick
    noted_out m c = rw (T_false (member l p m) c)

    noted_zero : noted t l p 0 ≡ 0
    unfolding noted
    noted_zero = refl

    -- What is noted of the members below a bound was noted by one of them,
    pub noted_by : (m q : ℕ) → noted t l p m ≡ suc q → (v : ℕ) × (v < m) × T (member l p v) × (note_of t v ≡ suc q)
    noted_by zero q e = absurd (omega (arith, noted_zero))
    noted_by (suc m) q e =
        let back : noted t l p m ≡ suc q → (v : ℕ) × (v < suc m) × T (member l p v) × (note_of t v ≡ suc q) = λ f. let (v, h, c, g) = noted_by m q f in (v, omega arith, c, g) in
        elim (T_dec (member l p m)) [
          | yes c ↦ elim (better_is (noted t l p m) (note_of t m)) [
            | inl f ↦ back (sym f ∙ sym (noted_in m c) ∙ e)
            | inr f ↦ (m, omega arith, c, sym f ∙ sym (noted_in m c) ∙ e)
          ]
          | no c ↦ back (sym (noted_out m c) ∙ e)
        ]

    -- and none noted a deeper one.
    pub noted_deep : (m v a : ℕ) → v < m → T (member l p v) → note_of t v ≡ suc a → Deep t (noted t l p m) a
    noted_deep zero v a h c e = absurd (omega arith)
    noted_deep (suc m) v a h c e = below_suc (λ w. T (member l p w) → note_of t w ≡ suc a → Deep t (noted t l p (suc m)) a) {n = m}
        (λ d f. rw (noted_in m d) (better_new (noted t l p m) (note_of t m) a (a, f, omega arith)))
        (λ w k d f. elim (T_dec (member l p m)) [
          | yes g ↦ rw (noted_in m g) (better_old (noted t l p m) (note_of t m) a (noted_deep m w a k d f))
          | no g ↦ rw (noted_out m g) (noted_deep m w a k d f)
        ])
        v h c e

    module _ (n : ℕ) where
      pub top_none : noted t l p n ≡ 0 → top_of n t l p ≡ p
      unfolding top_of pick
      top_none e = rw e

      pub top_noted : (q : ℕ) → noted t l p n ≡ suc q → (top_of n t l p < n) × T (member l p (top_of n t l p)) × (note_of t (top_of n t l p) ≡ suc q)
      unfolding top_of pick
      top_noted q e =
          let test : ℕ → Bool = λ v. member l p v && eqb (note_of t v) (suc q) in
          let (v, h, c, f) = noted_by n q e in
          let g : first test n < n = omega (arith, first_below test n v h (and_intro (member l p v) _ c (eq_to_eqb (note_of t v) (suc q) f))) in
          let k = first_passes test n g in
          rw (e, eqb-suc-zero q) (g, and_l (member l p (first test n)) _ k, eqb→eq (note_of t (first test n)) (suc q) (and_r (member l p (first test n)) _ k))
