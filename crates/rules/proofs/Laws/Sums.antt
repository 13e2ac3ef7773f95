-- Sums below n: where they grow, a count as the sum of its parts, and that a turn for each leaves none out.
-- Assumes nothing.
use Prim.Native.Nat.{ℕ, zero, suc, ◌+◌, ◌-◌, ◌≤◌, ◌<◌}
use Rattle.std.specs.Prelude.{◌≡◌, Bool, ◌⊎◌, ◌≢◌, T}
use Rattle.std.proofs.Math.Path.{refl}
use Rattle.std.proofs.Common.{sym, ap, ◌∙◌, eqb→eq}
use Rattle.std.proofs.Math.Logic.{inl, inr}
use native.Mathlib.Omega.{arith}
use Rattle.std.proofs.Math.Decide.{ℕ_discrete}
use Rattle.std.proofs.Math.Dec.{eqb, eqb_refl}
use Rattle.base.specs.Pick.{pick, pick_all}
use Rattle.base.specs.Truth.{or_l, or_r, or_cases, T_dec, T_true, T_false, T_ext}
use Rattle.rules.specs.Search.{count, sum, some}
use Rattle.rules.proofs.Laws.Search.{some_elim, count_le, count_yes, count_no, count_zero, count_one_more}

pub sum_zero : (f : ℕ → ℕ) → sum f 0 ≡ 0
unfolding sum
sum_zero f = refl

pub sum_suc : (f : ℕ → ℕ) (n : ℕ) → sum f (suc n) ≡ f n + sum f n
unfolding sum
sum_suc f n = refl

-- A sum up to d holds what is at each c below d.
pub sum_step : (f : ℕ → ℕ) (d c : ℕ) → c < d → sum f c + f c ≤ sum f d
sum_step f zero c h = absurd (omega arith)
sum_step f (suc d) c h = elim (ℕ_discrete d c) [
  | yes e ↦ omega (arith, sum_suc f d, ap f e, ap (sum f) e)
  | no k ↦ omega (arith, sum_suc f d, sum_step f d c (omega arith))
]

pub sum_same : (f g : ℕ → ℕ) (m : ℕ) → ((c : ℕ) → c < m → f c ≡ g c) → sum f m ≡ sum g m
sum_same f g zero h = sum_zero f ∙ sym (sum_zero g)
sum_same f g (suc m) h = omega (arith, sum_suc f m, sum_suc g m, h m (omega arith), sum_same f g m (λ c l. h c (omega arith)))

sum_none : (f : ℕ → ℕ) (m : ℕ) → ((c : ℕ) → f c ≡ 0) → sum f m ≡ 0
sum_none f zero h = sum_zero f
sum_none f (suc m) h = omega (arith, sum_suc f m, h m, sum_none f m h)

-- Where one is greater by x and no other changes, so is the sum.
pub sum_more : (f g : ℕ → ℕ) (m d x : ℕ) → d < m → g d ≡ f d + x → ((c : ℕ) → c < m → c ≢ d → g c ≡ f c) → sum g m ≡ sum f m + x
sum_more f g zero d x l e h = absurd (omega arith)
sum_more f g (suc m) d x l e h = elim (ℕ_discrete m d) [
  | yes q ↦ omega (arith, sum_suc f m, sum_suc g m, ap f q, ap g q, sum_same g f m (λ c k. h c (omega arith) (omega arith)))
  | no q ↦ omega (arith, sum_suc f m, sum_suc g m, h m (omega arith) q, sum_more f g m d x (omega arith) e (λ c k. h c (omega arith)))
]

-- Where nothing is at what fails a test, the sum stays from k on up to the next that passes, or to the end.
pub sum_next : (test : ℕ → Bool) (f : ℕ → ℕ) (n : ℕ) → ((c : ℕ) → (T (test c) → ⊥) → f c ≡ 0) → (k : ℕ) → k ≤ n → (sum f n ≡ sum f k) ⊎ ((u : ℕ) × (k ≤ u) × (u < n) × T (test u) × (sum f u ≡ sum f k))
sum_next test f n z k h = go (n - k) k h refl
  where
    go : (j k : ℕ) → k ≤ n → n - k ≡ j → (sum f n ≡ sum f k) ⊎ ((u : ℕ) × (k ≤ u) × (u < n) × T (test u) × (sum f u ≡ sum f k))
    go zero k h e = inl (ap (sum f) (omega arith))
    go (suc j) k h e = elim (T_dec (test k)) [
      | yes q ↦ inr (k, omega arith, omega arith, q, refl)
      | no q ↦
          let s : sum f (suc k) ≡ sum f k = omega (arith, sum_suc f k, z k q) in
          elim (go j (suc k) (omega arith) (omega arith)) [
            | inl a ↦ inl (a ∙ s)
            | inr (u, l, hu, r, a) ↦ inr (u, omega arith, hu, r, a ∙ s)
          ]
    ]

-- What is counted of one part, where the part is one that passes.
abbrev pub part : (test : ℕ → Bool) (q : ℕ → ℕ → Bool) (n c : ℕ) → ℕ
part test q n c = pick (test c) (count (q c) n) 0

module _ (test : ℕ → Bool) (q : ℕ → ℕ → Bool) where
  part_none : (c : ℕ) → part test q 0 c ≡ 0
  part_none c = pick_all (λ (x : ℕ). x ≡ 0) (test c) (count (q c) 0) 0 (count_zero (q c)) refl

  part_in : (n c : ℕ) → T (test c) → T (q c n) → part test q (suc n) c ≡ suc (part test q n c)
  unfolding pick
  part_in n c s r = rw (T_true (test c) s) (count_yes (q c) n r)

  part_out : (n c : ℕ) → (T (test c) → T (q c n) → ⊥) → part test q n c ≡ part test q (suc n) c
  unfolding pick
  part_out n c f = elim (T_dec (test c)) [
    | yes s ↦ rw (T_true (test c) s) (sym (count_no (q c) n (f s)))
    | no s ↦ rw (T_false (test c) s) refl
  ]

  -- Where what passes p is in one part exactly, the parts add up to it.
  pub count_parts : (p : ℕ → Bool) (m n : ℕ) →
      ((u : ℕ) → u < n → T (p u) → (c : ℕ) × (c < m) × T (test c) × T (q c u)) →
      ((u c : ℕ) → u < n → T (test c) → T (q c u) → T (p u)) →
      ((u c d : ℕ) → u < n → T (test c) → T (q c u) → T (test d) → T (q d u) → c ≡ d) →
      count p n ≡ sum (part test q n) m
  count_parts p m zero f g o = count_zero p ∙ sym (sum_none (part test q 0) m part_none)
  count_parts p m (suc n) f g o =
      let s : count p n ≡ sum (part test q n) m = count_parts p m n (λ u l. f u (omega arith)) (λ u c l. g u c (omega arith)) (λ u c d l. o u c d (omega arith)) in
      elim (T_dec (p n)) [
        | yes t ↦
            let (d, hd, a, b) = f n (omega arith) t in
            omega (
              arith,
              count_yes p n t,
              sum_more (part test q n) (part test q (suc n)) m d 1 hd (omega (arith, part_in n d a b))
                  (λ c l k. sym (part_out n c (λ a' b'. k (o n c d (omega arith) a' b' a b)))),
            )
        | no t ↦ omega (arith, count_no p n t, sum_same (part test q n) (part test q (suc n)) m (λ c l. part_out n c (λ a b. t (g n c (omega arith) a b))))
      ]

count_none : (p : ℕ → Bool) (n : ℕ) → ((k : ℕ) → T (p k) → ⊥) → count p n ≡ 0
count_none p zero f = count_zero p
count_none p (suc n) f = count_no p n (f n) ∙ count_none p n f

pub count_all : (p : ℕ → Bool) (n : ℕ) → ((k : ℕ) → T (p k)) → count p n ≡ n
count_all p zero f = count_zero p
count_all p (suc n) f = count_yes p n (f n) ∙ ap suc (count_all p n f)

-- A count that is full leaves none out.
count_full : (p : ℕ → Bool) (n : ℕ) → count p n ≡ n → (k : ℕ) → k < n → T (p k)
count_full p zero e k h = absurd (omega arith)
count_full p (suc n) e k h = elim (T_dec (p n)) [
  | yes t ↦ elim (ℕ_discrete k n) [ yes q ↦ rw q t | no q ↦ count_full p n (omega (arith, count_yes p n t)) k (omega arith) ]
  | no t ↦ absurd (omega (arith, count_no p n t, count_le p n))
]

-- A function on the fragments below n that gives nothing twice gives each of them.
module _ (f : ℕ → ℕ) (n : ℕ) (inside : (u : ℕ) → u < n → f u < n) (once : (u v : ℕ) → u < n → v < n → f u ≡ f v → u ≡ v) where
  abbrev given : (m i : ℕ) → Bool
  given m i = some (λ u. eqb (f u) i) m

  given_count : (m : ℕ) → m ≤ n → count (given m) n ≡ m
  unfolding some
  given_count zero h = count_none (given 0) n (λ i t. t)
  given_count (suc m) h =
      omega (
        arith,
        given_count m (omega arith),
        count_one_more (given m) (given (suc m)) n (f m) (inside m h)
            (λ t. let (u, l, s) = some_elim (λ u. eqb (f u) (f m)) m t in omega (arith, once u m (omega arith) h (eqb→eq (f u) (f m) s)))
            (or_l (eqb (f m) (f m)) (given m (f m)) (eqb_refl (f m)))
            (λ k l d. T_ext (given m k) (given (suc m) k) (or_r (eqb (f m) k) (given m k))
            (λ t. elim (or_cases (eqb (f m) k) (given m k) t) [ inl s ↦ absurd (d (sym (eqb→eq (f m) k s))) | inr s ↦ s ])),
      )

  pub onto : (i : ℕ) → i < n → (u : ℕ) × (u < n) × (f u ≡ i)
  onto i h =
      let (u, l, t) = some_elim (λ u. eqb (f u) i) n (count_full (given n) n (given_count n (omega arith)) i h) in
      (u, l, eqb→eq (f u) i t)
