-- Laws of counting, searching, choosing the least and listing below n.
-- Assumes nothing.
use Rattle.std.specs.Prelude.{ℕ, zero, suc, ◌≤◌, ◌<◌, min, ◌≡◌, refl, Bool, true, false, cond, ◌||◌, [], ◌∷◌, ◌++◌, ◌⊎◌, ◌≢◌, T, length, get_or}
use Rattle.std.proofs.Common.{sym, ◌∙◌, subst, inl, inr, arith, length-append, lt-ltb, le-ltb}
use Rattle.std.proofs.Math.Decide.{ℕ_discrete, dec_lt, dec_le}
use Rattle.std.proofs.Math.ListN.{get_or-append}
use Rattle.std.proofs.lemmas.List.{get_or_at}
use Rattle.base.specs.Truth.{and_intro, and_l, and_r, or_l, or_r, or_cases, T_dec, T_true, T_false, true_T}
use Rattle.rules.specs.Search.{count, some, every, first, least, table}

-- Below suc n: n itself, or below n.
pub below_suc : (P : ℕ → Type 0) {n : ℕ} → P n → ((k : ℕ) → k < n → P k) → (k : ℕ) → k < suc n → P k
below_suc P {n} p f k h = elim (ℕ_discrete n k) [ yes e ↦ subst P e p | no d ↦ f k (omega arith) ]

-- A decidable property is searched for below n.
pub find : {P : ℕ → Type 0} → ((k : ℕ) → Dec (P k)) → (n : ℕ) → ((k : ℕ) × (k < n) × P k) ⊎ ((k : ℕ) → k < n → P k → ⊥)
find d zero = inr (λ k h p. omega arith)
find {P} d (suc n) = elim (d n) [
  | yes p ↦ inl (n, omega arith, p)
  | no q ↦ elim (find d n) [
    | inl f ↦ inl (f.0, omega (arith, f.1), f.2)
    | inr g ↦ inr (below_suc (λ k. P k → ⊥) q g)
  ]
]

pub some_intro : (p : ℕ → Bool) (n k : ℕ) → k < n → T (p k) → T (some p n)
unfolding some
some_intro p zero k h t = absurd (omega arith)
some_intro p (suc n) k h t = below_suc (λ j. T (p j) → T (p n || some p n)) {n = n} (or_l (p n) (some p n)) (λ j l s. or_r (p n) (some p n) (some_intro p n j l s)) k h t

pub some_elim : (p : ℕ → Bool) (n : ℕ) → T (some p n) → (k : ℕ) × (k < n) × T (p k)
unfolding some
some_elim p zero t = absurd t
some_elim p (suc n) t = elim (or_cases (p n) (some p n) t) [
  | inl s ↦ (n, omega arith, s)
  | inr s ↦ let (k, h, r) = some_elim p n s in (k, omega arith, r)
]

pub every_at : (p : ℕ → Bool) (n : ℕ) → T (every p n) → (k : ℕ) → k < n → T (p k)
unfolding every
every_at p zero t k h = absurd (omega arith)
every_at p (suc n) t k h = below_suc (λ j. T (p j)) {n = n} (and_l (p n) (every p n) t) (every_at p n (and_r (p n) (every p n) t)) k h

pub every_intro : (p : ℕ → Bool) (n : ℕ) → ((k : ℕ) → k < n → T (p k)) → T (every p n)
unfolding every
every_intro p zero f = tt
every_intro p (suc n) f = and_intro (p n) (every p n) (f n (omega arith)) (every_intro p n (λ k h. f k (omega arith)))

first_zero : (p : ℕ → Bool) → first p 0 ≡ 0
unfolding first
first_zero p = refl

-- The first below suc n is the first below n where there is one, else n if it passes.
first_step : (p : ℕ → Bool) (n : ℕ) → ((first p n < n) × (first p (suc n) ≡ first p n)) ⊎ ((n ≤ first p n) × T (p n) × (first p (suc n) ≡ n)) ⊎ ((n ≤ first p n) × (T (p n) → ⊥) × (first p (suc n) ≡ suc n))
unfolding first
first_step p n = elim (dec_lt (first p n) n) [
  | yes l ↦ inl (l, rw (lt-ltb _ _ l))
  | no l ↦ let g : n ≤ first p n = omega arith in elim (T_dec (p n)) [
    | yes t ↦ inr (inl (g, t, rw (le-ltb _ _ g, T_true (p n) t)))
    | no t ↦ inr (inr (g, t, rw (le-ltb _ _ g, T_false (p n) t)))
  ]
]

pub first_le : (p : ℕ → Bool) (n : ℕ) → first p n ≤ n
first_le p zero = rw first_zero (omega arith)
first_le p (suc n) = elim (first_step p n) [
  | inl a ↦ omega (arith, a)
  | inr (inl a) ↦ omega (arith, a)
  | inr (inr a) ↦ omega (arith, a)
]

-- Where one passes, the first does.
pub first_passes : (p : ℕ → Bool) (n : ℕ) → first p n < n → T (p (first p n))
first_passes p zero h = absurd (omega arith)
first_passes p (suc n) h = elim (first_step p n) [
  | inl a ↦ rw a.1 (first_passes p n a.0)
  | inr (inl a) ↦ rw a.2 a.1
  | inr (inr a) ↦ absurd (omega (arith, a.2))
]

-- Nothing below the first passes.
pub first_least : (p : ℕ → Bool) (n k : ℕ) → k < first p n → T (p k) → ⊥
first_least p zero k h t = omega (arith, first_zero p)
first_least p (suc n) k h t = elim (first_step p n) [
  | inl a ↦ first_least p n k (omega (arith, a.1)) t
  | inr (inl a) ↦ first_least p n k (omega (arith, a.2)) t
  | inr (inr a) ↦ below_suc (λ j. T (p j) → ⊥) {n = n} a.1 (λ j l. first_least p n j (omega (arith, a.0))) k (omega (arith, a.2)) t
]

-- The first is no greater than any that passes.
pub first_below : (p : ℕ → Bool) (n k : ℕ) → k < n → T (p k) → first p n ≤ k
first_below p n k h t = elim (dec_le (first p n) k) [ yes l ↦ l | no l ↦ absurd (first_least p n k (omega arith) t) ]

pub least_default : (p : ℕ → Bool) (f : ℕ → ℕ) (d n : ℕ) → least p f d n ≤ d
unfolding least
least_default p f d zero = omega arith
least_default p f d (suc n) = elim (p n) as (λ b. cond b (min (f n) (least p f d n)) (least p f d n) ≤ d) [
  | true ↦ omega (arith, least_default p f d n)
  | false ↦ least_default p f d n
]

pub least_le : (p : ℕ → Bool) (f : ℕ → ℕ) (d n k : ℕ) → k < n → T (p k) → least p f d n ≤ f k
unfolding least
least_le p f d zero k h t = absurd (omega arith)
least_le p f d (suc n) k h t = below_suc (λ j. T (p j) → cond (p n) (min (f n) (least p f d n)) (least p f d n) ≤ f j) {n = n}
    (λ s. rw (T_true (p n) s) (omega arith))
    (λ j l s. elim (p n) as (λ b. cond b (min (f n) (least p f d n)) (least p f d n) ≤ f j) [
      | true ↦ omega (arith, least_le p f d n j l s)
      | false ↦ least_le p f d n j l s
    ])
    k h t

-- The least is the default, or the value of one that passes.
pub least_hit : (p : ℕ → Bool) (f : ℕ → ℕ) (d n : ℕ) → (least p f d n ≡ d) ⊎ ((k : ℕ) × (k < n) × T (p k) × (least p f d n ≡ f k))
unfolding least
least_hit p f d zero = inl refl
least_hit p f d (suc n) = go (p n) refl (least_hit p f d n)
  where
    go : (b : Bool) → p n ≡ b → (least p f d n ≡ d) ⊎ ((k : ℕ) × (k < n) × T (p k) × (least p f d n ≡ f k)) → (cond b (min (f n) (least p f d n)) (least p f d n) ≡ d) ⊎ ((k : ℕ) × (k < suc n) × T (p k) × (cond b (min (f n) (least p f d n)) (least p f d n) ≡ f k))
    go true e h = elim (dec_le (f n) (least p f d n)) [
      | yes l ↦ inr (n, omega arith, true_T (p n) e, omega arith)
      | no l ↦ elim h [
        | inl q ↦ inl (omega arith)
        | inr r ↦ inr (r.0, omega (arith, r.1), r.2, omega (arith, r.3))
      ]
    ]
    go false e h = elim h [
      | inl q ↦ inl q
      | inr r ↦ inr (r.0, omega (arith, r.1), r.2, r.3)
    ]

pub count_le : (p : ℕ → Bool) (n : ℕ) → count p n ≤ n
unfolding count
count_le p zero = omega arith
count_le p (suc n) = elim (p n) as (λ b. cond b (suc (count p n)) (count p n) ≤ suc n) [
  | true ↦ omega (arith, count_le p n)
  | false ↦ omega (arith, count_le p n)
]

pub count_yes : (p : ℕ → Bool) (n : ℕ) → T (p n) → count p (suc n) ≡ suc (count p n)
unfolding count
count_yes p n t = rw (T_true (p n) t)

pub count_no : (p : ℕ → Bool) (n : ℕ) → (T (p n) → ⊥) → count p (suc n) ≡ count p n
unfolding count
count_no p n t = rw (T_false (p n) t)

pub count_zero : (p : ℕ → Bool) → count p 0 ≡ 0
unfolding count
count_zero p = refl

-- Where more pass, more are counted.
pub count_mono : (p q : ℕ → Bool) (n : ℕ) → ((k : ℕ) → k < n → T (p k) → T (q k)) → count p n ≤ count q n
count_mono p q zero f = omega (arith, count_zero p)
count_mono p q (suc n) f =
    let h : count p n ≤ count q n = count_mono p q n (λ k l. f k (omega arith)) in
    elim (T_dec (p n)) [
      | yes t ↦ omega (arith, count_yes p n t, count_yes q n (f n (omega arith) t))
      | no t ↦ elim (T_dec (q n)) [
        | yes s ↦ omega (arith, count_no p n t, count_yes q n s)
        | no s ↦ omega (arith, count_no p n t, count_no q n s)
      ]
    ]

pub count_same : (p q : ℕ → Bool) (n : ℕ) → ((k : ℕ) → k < n → p k ≡ q k) → count p n ≡ count q n
count_same p q n f = omega (arith, count_mono p q n (λ k h t. rw (f k h) at t), count_mono q p n (λ k h t. rw (sym (f k h)) at t))

-- Where one more passes and no other changes, the count is one more.
pub count_one_more : (p q : ℕ → Bool) (n v : ℕ) → v < n → (T (p v) → ⊥) → T (q v) → ((k : ℕ) → k < n → k ≢ v → p k ≡ q k) → count q n ≡ suc (count p n)
count_one_more p q zero v h a b f = absurd (omega arith)
count_one_more p q (suc n) v h a b f = elim (ℕ_discrete n v) [
  | yes e ↦ omega (arith, count_no p n (λ t. a (rw e at t)), count_yes q n (rw e b), count_same p q n (λ k l. f k (omega arith) (omega arith)))
  | no d ↦
      let h : count q n ≡ suc (count p n) = count_one_more p q n v (omega arith) a b (λ k l. f k (omega arith)) in
      let e : p n ≡ q n = f n (omega arith) d in
      elim (T_dec (p n)) [
        | yes t ↦ omega (arith, count_yes p n t, count_yes q n (rw e at t))
        | no t ↦ omega (arith, count_no p n t, count_no q n (λ s. t (rw e s)))
      ]
]

-- Who is counted is there.
pub count_some : (p : ℕ → Bool) (n : ℕ) → 0 < count p n → (k : ℕ) × (k < n) × T (p k)
count_some p zero h = absurd (omega (arith, count_zero p))
count_some p (suc n) h = elim (T_dec (p n)) [
  | yes t ↦ (n, omega arith, t)
  | no t ↦ let (k, g, s) = count_some p n (omega (arith, count_no p n t)) in (k, omega arith, s)
]

pub some_count : (p : ℕ → Bool) (n k : ℕ) → k < n → T (p k) → 0 < count p n
some_count p zero k h t = absurd (omega arith)
some_count p (suc n) k h t = elim (T_dec (p n)) [
  | yes s ↦ omega (arith, count_yes p n s)
  | no s ↦ elim (ℕ_discrete n k) [
    | yes e ↦ absurd (s (rw e t))
    | no d ↦ omega (arith, count_no p n s, some_count p n k (omega arith) t)
  ]
]

-- Two are counted exactly where two different ones are there.
pub count_two : (p : ℕ → Bool) (n : ℕ) → 2 ≤ count p n → (i : ℕ) × (j : ℕ) × (i < j) × (j < n) × T (p i) × T (p j)
count_two p zero h = absurd (omega (arith, count_zero p))
count_two p (suc n) h = elim (T_dec (p n)) [
  | yes t ↦ let (k, g, s) = count_some p n (omega (arith, count_yes p n t)) in (k, n, g, omega arith, s, t)
  | no t ↦ let (i, j, g, l, s, r) = count_two p n (omega (arith, count_no p n t)) in (i, j, g, omega arith, s, r)
]

two_rising : (p : ℕ → Bool) (n i j : ℕ) → i < j → j < n → T (p i) → T (p j) → 2 ≤ count p n
two_rising p zero i j g h s t = absurd (omega arith)
two_rising p (suc n) i j g h s t = elim (ℕ_discrete n j) [
  | yes e ↦ omega (arith, count_yes p n (rw e t), some_count p n i (omega arith) s)
  | no d ↦
      let r : 2 ≤ count p n = two_rising p n i j g (omega arith) s t in
      elim (T_dec (p n)) [ yes k ↦ omega (arith, count_yes p n k) | no k ↦ omega (arith, count_no p n k) ]
]

pub two_count : (p : ℕ → Bool) (n i j : ℕ) → i ≢ j → i < n → j < n → T (p i) → T (p j) → 2 ≤ count p n
two_count p n i j d hi hj s t = elim (dec_lt i j) [
  | yes g ↦ two_rising p n i j g hj s t
  | no g ↦ two_rising p n j i (omega arith) hi t s
]

pub table_length : {A : Type 0} (f : ℕ → A) (n : ℕ) → length (table f n) ≡ n
unfolding table
table_length f zero = refl
table_length f (suc n) = length-append (table f n) (f n ∷ []) ∙ omega (arith, table_length f n)

pub table_at : {A : Type 0} (f : ℕ → A) (n k : ℕ) (d : A) → k < n → get_or (table f n) k d ≡ f k
unfolding table
table_at f zero k d h = absurd (omega arith)
table_at f (suc n) k d h = below_suc (λ j. get_or (table f n ++ (f n ∷ [])) j d ≡ f j) {n = n}
    (get_or_at (table f n) (f n) [] d n (table_length f n))
    (λ j l. get_or-append (table f n) (f n ∷ []) d j (omega (arith, table_length f n)) ∙ table_at f n j d l)
    k h
