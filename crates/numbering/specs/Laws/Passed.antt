-- Why a pass by rising number finds how many stand below the smaller ones beside each fragment.
-- Assumes nothing.
use Rattle.std.specs.Prelude.{ℕ, ◌+◌, ◌*◌, ◌≤◌, ◌<◌, ◌≡◌, refl, List, ◌≢◌, length, get_or, set, T}
use Rattle.std.proofs.Common.{sym, ap, ◌∙◌, arith, add-one, get_or-set_same, get_or-set_other}
use Rattle.std.proofs.Math.Decide.{ℕ_discrete}
use Rattle.std.proofs.Math.Dec.{eqb→eq}
use Rattle.base.specs.Pick.{tests}
use Rattle.base.specs.Truth.{T_dec, eq_to_eqb}
use Rattle.rules.specs.Forest.{Levels}
use Rattle.rules.specs.Search.{sum}
use Rattle.rules.specs.Tables.{Tables, par, lev}
use Rattle.rules.specs.Reading.{child_of}
use Rattle.rules.specs.Numbers.{below, below_if, beside, passed}
use Rattle.rules.proofs.Laws.Tally.{sum_most}
use Rattle.rules.proofs.Laws.Sums.{sum_zero, sum_suc, sum_same}
use Rattle.rules.proofs.Laws.Below.{beside_root, beside_child, below_if_yes, below_if_no}
use Rattle.rules.proofs.Laws.Reading.{child_facts}
use Rattle.rules.proofs.Laws.Up.{par_in}
use Rattle.state.specs.Layout.{forest_in}
use Rattle.testing.specs.Whole.{Whole}
use Rattle.testing.specs.Laws.Whole.{levels}
use Rattle.testing.specs.Laws.Only.{only_refl, only_more, only_forest, only_whole}
use Rattle.numbering.specs.Passes.{seat_of, sits, Sized, Passing}
use Rattle.numbering.specs.Laws.Sum.{if_same}
use Rattle.numbering.specs.Laws.Sizes.{below_most}

-- Those beside v have its seat.
module _ (n : ℕ) (t : Tables) where
  seat_root : (v : ℕ) → par t v ≡ v → seat_of n t v ≡ 6 * n
  unfolding seat_of
  seat_root v e = simp tests

  seat_child : (v : ℕ) → par t v ≢ v → seat_of n t v ≡ 5 * n + par t v
  unfolding seat_of
  seat_child v d = simp tests

  sits_at : (s v : ℕ) → T (sits n t s v) → seat_of n t v ≡ s
  unfolding sits
  sits_at s v h = eqb→eq (seat_of n t v) s h

  at_sits : (s v : ℕ) → seat_of n t v ≡ s → T (sits n t s v)
  unfolding sits
  at_sits s v e = eq_to_eqb (seat_of n t v) s e

  beside_sits : (v c : ℕ) → T (beside t v c) → T (sits n t (seat_of n t v) c)
  beside_sits v c h = at_sits (seat_of n t v) c (elim (ℕ_discrete (par t v) v) [
    | yes z ↦ seat_root c (eqb→eq (par t c) c (rw (beside_root n t v z) at h)) ∙ sym (seat_root v z)
    | no d ↦
        let k : T (child_of t (par t v) c) = rw (beside_child n t v d) at h in
        let (e, y) = (child_facts t (par t v) c).0 k in
        seat_child c (λ z. y (sym z ∙ e)) ∙ ap (λ (x : ℕ). 5 * n + x) e ∙ sym (seat_child v d)
  ])

  module _ (L : Levels n (par t) (lev t)) where
    sits_beside : (v c : ℕ) → v < n → c < n → T (sits n t (seat_of n t v) c) → T (beside t v c)
    sits_beside v c hv hc h =
        let e = sits_at (seat_of n t v) c h in
        elim (ℕ_discrete (par t v) v) [
          | yes z ↦ rw (beside_root n t v z) (elim (ℕ_discrete (par t c) c) [
            | yes y ↦ eq_to_eqb (par t c) c y
            | no y ↦ absurd (omega (arith, e, seat_root v z, seat_child c y, par_in L c hc))
          ])
          | no d ↦ rw (beside_child n t v d) (elim (ℕ_discrete (par t c) c) [
            | yes y ↦ absurd (omega (arith, e, seat_root c y, seat_child v d, par_in L v hv))
            | no y ↦
                let q : par t c ≡ par t v = omega (arith, e, seat_child c y, seat_child v d) in
                (child_facts t (par t v) c).1 (q, (λ x. y (q ∙ sym x)))
          ])
        ]

    passed_seat : (v : ℕ) → v < n → passed n t v ≡ sum (below_if n t (sits n t (seat_of n t v))) v
    unfolding passed
    passed_seat v h = sum_same (below_if n t (beside t v)) (below_if n t (sits n t (seat_of n t v))) v
        (λ c l. if_same n t (beside t v) (sits n t (seat_of n t v)) c (beside_sits v c) (sits_beside v c h (omega arith)))

  if_most : (s c : ℕ) → below_if n t (sits n t s) c ≤ n
  if_most s c = elim (T_dec (sits n t s c)) [ yes h ↦ omega (arith, below_if_yes n t (sits n t s) c h, below_most n t c) | no h ↦ omega (arith, below_if_no n t (sits n t s) c h) ]

-- The seat, as it is worked out.
module _ (n : ℕ) (f : List ℕ) (v p : ℕ) (h : v < n) (e : p ≡ par (forest_in n f) v) where
  -- r is v's seat.
  abbrev Seat : ℕ → Type 0
  Seat r = (r ≡ seat_of n (forest_in n f) v) × (5 * n ≤ r) × (r < 7 * n)

  pub seat_of_root : p ≡ v → Seat (6 * n)
  seat_of_root z = (sym (seat_root n (forest_in n f) v (sym e ∙ z)), omega arith, omega arith)

  pub seat_of_child : (p ≡ v → ⊥) → p < n → Seat (5 * n + p)
  seat_of_child d l = (ap (λ (x : ℕ). 5 * n + x) e ∙ sym (seat_child n (forest_in n f) v (λ z. d (e ∙ z))), omega arith, omega arith)

pub passing_none : (n : ℕ) (f : List ℕ) → Sized n f → Passing n 0 f f
passing_none n f z = record {
  only = only_refl (4 * n) (7 * n) f;
  each = λ v h. absurd (omega arith);
  seats = λ s a b. z.blank s (omega arith) b ∙ sym (sum_zero (below_if n (forest_in n f) (sits n (forest_in n f) s)));
}

module _ {n k : ℕ} {f g : List ℕ} (z : Sized n f) (p : Passing n k f g) where
  pub passing_whole : Whole n g
  passing_whole = only_whole n (omega arith) p.only z.whole

  module _ (h : k < n) where
    size_is : get_or g (9 * n + k) 0 + 1 ≡ below n (forest_in n f) k
    size_is = omega (arith, p.only.behind (9 * n + k) (omega arith), z.each k h)

    pub size_small : get_or g (9 * n + k) 0 < n
    size_small = omega (arith, size_is, below_most n (forest_in n f) k)

    pub seat_small : (s : ℕ) → 5 * n ≤ s → s < 7 * n → get_or g s 0 ≤ 1073741824
    seat_small s a b =
        let t = forest_in n f in
        omega (arith, p.seats s a b, z.whole.few, sum_most (below_if n t (sits n t s)) 32768 k (λ i l. omega (arith, if_most n t s i, z.whole.few)))

    module _ (s : ℕ) (e : s ≡ seat_of n (forest_in n g) k) where
      seat_own : s ≡ seat_of n (forest_in n f) k
      seat_own = e ∙ ap (λ t. seat_of n t k) (only_forest n (omega arith) p.only)

      passing_by : 5 * n ≤ s → s < 7 * n → (x y : ℕ) → x ≡ get_or g s 0 → y ≡ x + get_or g (9 * n + k) 0 + 1 → Passing n (k + 1) f (set (set g (4 * n + k) x) s y)
      passing_by a b x y ex ey =
          let t = forest_in n f in
          let L = levels z.whole in
          let long : s < length g = omega (arith, z.whole.long, p.only.long) in
          let one = only_more p.only (4 * n + k) x (omega arith) (omega arith) in
          let first : (u : ℕ) → u ≢ s → get_or (set (set g (4 * n + k) x) s y) u 0 ≡ get_or (set g (4 * n + k) x) u 0 = λ u d. get_or-set_other (set g (4 * n + k) x) s u y 0 (omega arith) in
          let own : x ≡ passed n t k = ex ∙ p.seats s a b ∙ rw seat_own (sym (passed_seat n t L k h)) in
          record {
            only = only_more one s y (omega arith) b;
            each = λ v l. first (4 * n + v) (omega arith) ∙ (elim (ℕ_discrete v k) [
              | yes q ↦ rw q (get_or-set_same g (4 * n + k) x 0 (omega arith) ∙ own)
              | no d ↦ get_or-set_other g (4 * n + k) (4 * n + v) x 0 (omega arith) ∙ p.each v (omega arith)
            ]);
            seats = λ r c d. rw (add-one k) (elim (ℕ_discrete r s) [
              | yes q ↦ rw q (get_or-set_same (set g (4 * n + k) x) s y 0 (omega (arith, one.long, p.only.long))
                  ∙ omega (arith, ey, ex, p.seats s a b, size_is, sum_suc (below_if n t (sits n t s)) k, below_if_yes n t (sits n t s) k (at_sits n t s k (sym seat_own))))
              | no q ↦ first r q ∙ get_or-set_other g (4 * n + k) r x 0 (omega arith)
                  ∙ omega (arith, p.seats r c d, sum_suc (below_if n t (sits n t r)) k, below_if_no n t (sits n t r) k (λ j. q (sym (sits_at n t r k j) ∙ sym seat_own)))
            ]);
          }

      pub passing_turn : 5 * n ≤ s → s < 7 * n → Passing n (k + 1) f (set (set g (4 * n + k) (get_or g s 0)) s (get_or g s 0 + get_or g (9 * n + k) 0 + 1))
      passing_turn a b = passing_by a b (get_or g s 0) _ refl refl

pub passing_all : {n k : ℕ} {f g : List ℕ} → k ≡ n → Passing n k f g → Passing n n f g
passing_all {n} {k} {f} {g} e p = rw e at p
