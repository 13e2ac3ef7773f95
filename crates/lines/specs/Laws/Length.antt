-- How long the report is.
-- Assumes nothing.
use Prim.Native.Nat.{ℕ, zero, suc, ◌+◌, ◌*◌, ◌<◌, ◌≤◌}
use Rattle.std.proofs.Math.Bool.{Bool, false}
use Rattle.std.specs.Prelude.{◌||◌, ◌&&◌, ◌≡◌, T, ltb, eqb}
use mathlib.Core.List.{List, [], ◌∷◌}
use Rattle.std.proofs.Math.Logic.{inl, inr}
use Rattle.std.proofs.Math.Path.{refl}
use Rattle.std.proofs.Common.{◌∙◌, mul-suc, lt→ltb, length-append}
use native.Mathlib.Omega.{arith}
use Rattle.std.proofs.Math.Decide.{dec_lt}
use Rattle.std.proofs.Math.Dec.{ltb→lt, eqb→eq}
use Rattle.std.proofs.Math.ListN.{length}
use Rattle.base.specs.Pick.{pick_false, pick_all}
use Rattle.base.specs.Truth.{and_intro, and_l, and_r, or_l, or_r, or_cases, T_dec, T_false, eq_to_eqb}
use Rattle.rules.specs.Search.{count}
use Rattle.rules.specs.Tables.{Tables, par}
use Rattle.rules.specs.Reading.{child_of, sole_below, sole}
use Rattle.rules.proofs.Laws.Search.{count_le, count_yes, count_no, count_zero}
use Rattle.rules.proofs.Laws.Split.{bit, bit_yes, bit_parts, count_suc, count_parts}
use Rattle.text.specs.Lines.{decimal, item, cut_word, first_line, fragment_line, sole_line}
use Rattle.text.specs.Laws.Put.{digits_few}
use Rattle.lines.specs.Report.{sole_at, lines_to, soles_from}

pub digits_5 : (x : ℕ) → x < 100000 → length (decimal x) ≤ 5
digits_5 x h = digits_few 4 x (omega arith)

pub sole_line_few : (a b : ℕ) → a < 100000 → b < 100000 → length (sole_line a b) ≤ 17
unfolding sole_line item
sole_line_few a b h k = simp length-append (omega (arith, digits_5 a h, digits_5 b k))

module _ (n : ℕ) (t : Tables) (few : n < 100000) where
  -- b is the greater, and a's child or a's parent.
  abbrev down : ℕ → ℕ → Bool
  down a b = ltb a b && eqb (par t b) a

  abbrev rise : ℕ → ℕ → Bool
  rise a b = ltb a b && eqb (par t a) b

  child_parent : (a b : ℕ) → T (sole_below n t a b) → T (eqb (par t b) a)
  unfolding sole_below child_of
  child_parent a b x = and_l (eqb (par t b) a) _ (and_l (child_of t a b) _ x)

  -- No line where it is neither.
  sole_near : (a b : ℕ) → (T (down a b) → ⊥) → (T (rise a b) → ⊥) → length (sole_at n t a b) ≡ 0
  unfolding sole_at sole
  sole_near a b c d =
      let e : (ltb a b && (sole_below n t a b || sole_below n t b a)) ≡ false = T_false (ltb a b && (sole_below n t a b || sole_below n t b a)) (λ x.
      let l = and_l (ltb a b) _ x in
      elim (or_cases (sole_below n t a b) (sole_below n t b a) (and_r (ltb a b) _ x)) [
        | inl y ↦ c (and_intro (ltb a b) _ l (child_parent a b y))
        | inr y ↦ d (and_intro (ltb a b) _ l (child_parent b a y))
      ]) in
      rw (e, pick_false) refl

  sole_most : (a b : ℕ) → a < n → b < n → length (sole_at n t a b) ≤ 17
  unfolding sole_at
  sole_most a b h k = pick_all (λ (x : List ℕ). length x ≤ 17) (ltb a b && sole n t a b) (sole_line a b) [] (sole_line_few a b (omega arith) (omega arith)) (omega arith)

  -- The lines of one smaller end, by its children and its parent below k.
  from_few : (a k : ℕ) → a < n → k ≤ n → length (lines_to (sole_at n t a) k) ≤ 17 * (count (down a) k + count (rise a) k)
  unfolding lines_to
  from_few a zero h l = omega arith
  from_few a (suc k) h l =
      let r = from_few a k h (omega arith) in
      let p = down a in
      let q = rise a in
      rw (length-append (lines_to (sole_at n t a) k) (sole_at n t a k)) (elim (T_dec (p k)) [
        | yes x ↦ elim (T_dec (q k)) [
          | yes y ↦ omega (arith, r, count_yes p k x, count_yes q k y, sole_most a k h (omega arith))
          | no y ↦ omega (arith, r, count_yes p k x, count_no q k y, sole_most a k h (omega arith))
        ]
        | no x ↦ elim (T_dec (q k)) [
          | yes y ↦ omega (arith, r, count_no p k x, count_yes q k y, sole_most a k h (omega arith))
          | no y ↦ omega (arith, r, count_no p k x, count_no q k y, sole_near a k x y)
        ]
      ])

  -- One parent, and only where it is greater.
  rises : ℕ → Bool
  rises a = ltb a (par t a)

  one_parent : (a k : ℕ) → (count (rise a) k ≤ bit (rises a)) × (k ≤ par t a → count (rise a) k ≡ 0)
  unfolding rises
  one_parent a zero = (omega (arith, count_zero (rise a)), λ h. count_zero (rise a))
  one_parent a (suc k) =
      let q = rise a in
      let (r, z) = one_parent a k in
      elim (T_dec (q k)) [
        | yes y ↦
            let e : par t a ≡ k = eqb→eq (par t a) k (and_r (ltb a k) _ y) in
            let l : a < k = ltb→lt a k (and_l (ltb a k) _ y) in
            (omega (arith, count_yes q k y, z (omega arith), bit_yes (ltb a (par t a)) (lt→ltb a (par t a) (omega arith))), λ h. absurd (omega arith))
        | no y ↦ (omega (arith, count_no q k y, r), λ h. count_no q k y ∙ z (omega arith))
      ]

  -- The fragments with a smaller parent, which is below k.
  falls : (k b : ℕ) → Bool
  falls k b = ltb (par t b) k && ltb (par t b) b

  falls_is : (k b : ℕ) → T (falls k b) → (par t b < k) × (par t b < b)
  unfolding falls
  falls_is k b x = (ltb→lt (par t b) k (and_l (ltb (par t b) k) _ x), ltb→lt (par t b) b (and_r (ltb (par t b) k) _ x))

  is_falls : (k b : ℕ) → par t b < k → par t b < b → T (falls k b)
  unfolding falls
  is_falls k b l m = and_intro (ltb (par t b) k) _ (lt→ltb (par t b) k l) (lt→ltb (par t b) b m)

  down_is : (k b : ℕ) → T (down k b) → (k < b) × (par t b ≡ k)
  down_is k b x = (ltb→lt k b (and_l (ltb k b) _ x), eqb→eq (par t b) k (and_r (ltb k b) _ x))

  falls_suc : (k : ℕ) → count (falls (suc k)) n ≡ count (falls k) n + count (down k) n
  falls_suc k = count_parts (falls (suc k)) (falls k) (down k) n (λ b h. bit_parts (falls (suc k) b) (falls k b) (down k b)
      (λ e. elim (dec_lt (par t b) k) [
        | yes i ↦ inl (is_falls k b i (falls_is (suc k) b e).1)
        | no i ↦ inr (and_intro (ltb k b) _ (lt→ltb k b (omega (arith, falls_is (suc k) b e))) (eq_to_eqb (par t b) k (omega (arith, falls_is (suc k) b e))))
      ])
      (λ e. is_falls (suc k) b (omega (arith, falls_is k b e)) (falls_is k b e).1)
      (λ e. is_falls (suc k) b (omega (arith, down_is k b e)) (omega (arith, down_is k b e)))
      (λ e i. omega (arith, falls_is k b e, down_is k b i)))

  soles_by : (k : ℕ) → k ≤ n → length (lines_to (soles_from n t) k) ≤ 17 * (count (falls k) n + count rises k)
  unfolding lines_to soles_from
  soles_by zero h = omega arith
  soles_by (suc k) h =
      rw (length-append (lines_to (soles_from n t) k) (lines_to (sole_at n t k) n))
      (omega (arith, soles_by k (omega arith), from_few k n (omega arith) (omega arith), (one_parent k n).0, falls_suc k, count_suc rises k))

  -- A fragment's parent is smaller or greater.
  either : count (falls n) n + count rises n ≤ n
  unfolding rises
  either =
      let r : ℕ → Bool = λ b. falls n b || rises b in
      omega (
        arith,
        count_le r n,
        count_parts r (falls n) rises n (λ b h. bit_parts (falls n b || rises b) (falls n b) (rises b)
            (or_cases (falls n b) (rises b)) (or_l (falls n b) (rises b)) (or_r (falls n b) (rises b))
            (λ x y. omega (arith, falls_is n b x, ltb→lt b (par t b) y))),
      )

  -- Each sole link is the one of a fragment to its parent, so there are at most n.
  pub soles_few : length (lines_to (soles_from n t) n) ≤ 17 * n
  soles_few = omega (arith, soles_by n (omega arith), either)

-- A line of a fragment.
pub fragment_line_few : (v p q : ℕ) (c : Bool) → v < 100000 → p < 100000 → q < 100000 → length (fragment_line v p q c) ≤ 39
unfolding fragment_line item cut_word
fragment_line_few v p q c h k l =
    simp length-append (omega (arith, digits_5 v h, digits_5 p k, digits_5 q l, pick_all (λ (x : List ℕ). length x ≤ 9) c (32 ∷ 99 ∷ 117 ∷ 116 ∷ 32 ∷ 121 ∷ 101 ∷ 115 ∷ 10 ∷ []) (32 ∷ 99 ∷ 117 ∷ 116 ∷ 32 ∷ 110 ∷ 111 ∷ 10 ∷ []) (omega arith) (omega arith)))

pub first_line_few : (n entries passes : ℕ) → n < 100000 → entries < 100000000 → passes < 100000 → length (first_line n entries passes) ≤ 44
unfolding first_line item
first_line_few n entries passes h k l = simp length-append (omega (arith, digits_5 n h, digits_few 7 entries (omega arith), digits_5 passes l))

pub lines_few : (line : ℕ → List ℕ) (most n : ℕ) → ((v : ℕ) → v < n → length (line v) ≤ most) → length (lines_to line n) ≤ most * n
unfolding lines_to
lines_few line most zero f = omega arith
lines_few line most (suc n) f = rw (length-append (lines_to line n) (line n)) (omega (arith, f n (omega arith), lines_few line most n (λ v h. f v (omega arith)), mul-suc most n))
