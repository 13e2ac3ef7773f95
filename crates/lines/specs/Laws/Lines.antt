-- The steps from line to line.
-- Assumes nothing.
use Rattle.std.specs.Prelude.{ℕ, zero, suc, ◌+◌, ◌<◌, ◌≤◌, min, ◌||◌, ◌&&◌, not, List, [], ◌++◌, ◌≡◌, refl, T, ltb, eqb, length}
use Rattle.std.proofs.Math.Bool.{true, false}
use Rattle.std.proofs.Common.{append-nil, sym, ap, ◌∙◌, arith, add-one, length-append}
use Rattle.std.proofs.Math.Logic.{inl, inr}
use Rattle.std.proofs.Math.Decide.{ℕ_discrete, dec_lt}
use Rattle.base.specs.Pick.{pick_true, pick_false}
use Rattle.base.specs.Truth.{and_l, and_r, and_intro, or_l, or_r, or_cases, T_true, T_false}
use Rattle.rules.specs.Tables.{Tables, parent_of}
use Rattle.rules.specs.Reading.{piece, cut, sole, sole_below}
use Rattle.reaches.specs.Spread.{cut_at}
use Rattle.reaches.specs.Laws.Judged.{flag_some}
use Rattle.text.specs.Lines.{fragment_line, sole_line}
use Rattle.text.specs.Put.{Put, Line, ample, within}
use Rattle.text.specs.Laws.Put.{put_none, put_then, put_is, line_then, line_less, within_back}
use Rattle.lines.specs.Report.{fragment_at, sole_at, lines_to, soles_from}
use Rattle.lines.specs.Threads.{child_sole, parent_sole, Next}

-- The lines of the numbers below v, and the next.
pub lines_none : (line : ℕ → List ℕ) (at : ℕ) (out : List ℕ) → Line (lines_to line 0) 0 at out at out
unfolding lines_to
lines_none line at out = record { put = put_none at out; short = omega arith }

pub lines_next : (line : ℕ → List ℕ) (v : ℕ) {m k b at r q : ℕ} {out mid after : List ℕ} → m + k ≤ b → Line (lines_to line v) m at out r mid → Line (line v) k r mid q after
    → Line (lines_to line (v + 1)) b at out q after
unfolding lines_to
lines_next line v h p q = rw (add-one v) (line_less h (line_then p q))

pub lines_end : (line : ℕ → List ℕ) {v n m b at r : ℕ} {out after : List ℕ} → v ≡ n → m ≤ b → Line (lines_to line v) m at out r after → Line (lines_to line n) b at out r after
lines_end line e h p = rw e at (line_less h p)

-- The same without a bound.
pub puts_none : (line : ℕ → List ℕ) (at : ℕ) (out : List ℕ) → Put (lines_to line 0) at out at out
unfolding lines_to
puts_none line at out = put_none at out

pub puts_next : (line : ℕ → List ℕ) (v : ℕ) {at r q : ℕ} {out mid after : List ℕ} → Put (lines_to line v) at out r mid → Put (line v) r mid q after → Put (lines_to line (v + 1)) at out q after
unfolding lines_to
puts_next line v p q = rw (add-one v) (put_then p q)

pub puts_end : (line : ℕ → List ℕ) {v n at r : ℕ} {out after : List ℕ} → v ≡ n → Put (lines_to line v) at out r after → Put (lines_to line n) at out r after
puts_end line e p = rw e at p

-- Numbers without a line.
pub lines_suc : (line : ℕ → List ℕ) (k : ℕ) → lines_to line (suc k) ≡ lines_to line k ++ line k
unfolding lines_to
lines_suc line k = refl

lines_skip : (line : ℕ → List ℕ) (m y : ℕ) → m ≤ y → ((j : ℕ) → m ≤ j → j < y → line j ≡ []) → lines_to line m ≡ lines_to line y
lines_skip line m zero h f = ap (lines_to line) (omega arith)
lines_skip line m (suc y) h f = elim (ℕ_discrete m (suc y)) [
  | yes e ↦ ap (lines_to line) e
  | no d ↦ lines_skip line m y (omega arith) (λ j a b. f j a (omega arith)) ∙ sym (lines_suc line y ∙ ap (λ (x : List ℕ). lines_to line y ++ x) (f y (omega arith) (omega arith)) ∙ append-nil (lines_to line y))
]

-- Fewer lines are no longer.
lines_up : (line : ℕ → List ℕ) (k n : ℕ) → k ≤ n → length (lines_to line k) ≤ length (lines_to line n)
lines_up line k zero h = let e : k ≡ 0 = omega arith in rw e (omega arith)
lines_up line k (suc n) h = elim (ℕ_discrete k (suc n)) [
  | yes e ↦ rw e (omega arith)
  | no d ↦ rw (lines_suc line n, length-append (lines_to line n) (line n)) (omega (arith, lines_up line k n (omega arith)))
]

-- The next lines have room before the end of them all.
pub puts_room : (line : ℕ → List ℕ) {v n from at : ℕ} {out after : List ℕ} → v < n → Put (lines_to line v) from out at after → from + length (lines_to line n) ≤ ample → at + length (line v) ≤ ample
puts_room line {v} {n} h p l = omega (arith, l, p.end, lines_up line (suc v) n h, ap length (lines_suc line v) ∙ length-append (lines_to line v) (line v))

-- The line of a fragment; x is its word in the section of cuts.
pub fragment_put : (n : ℕ) (t : Tables) (v p q x : ℕ) {at r : ℕ} {out after : List ℕ} → at ≤ ample → p ≡ parent_of t v → q ≡ piece n t v → x ≡ cut_at n t v
    → Line (within at (fragment_line v p q (not (eqb x 0)))) 200 at out r after → Line (fragment_at n t v) 200 at out r after
unfolding fragment_at cut_at
fragment_put n t v p q x h e f g l = (rw (e, f, g, flag_some (cut n t v)) at (within_back h l))

-- The line of a link, or none.
module _ (n : ℕ) (t : Tables) (a b : ℕ) where
  no_line : (T (child_sole n t a b) → ⊥) → (T (parent_sole n t a b) → ⊥) → sole_at n t a b ≡ []
  unfolding sole_at child_sole parent_sole sole
  no_line c p =
      let e : (ltb a b && (sole_below n t a b || sole_below n t b a)) ≡ false = T_false (ltb a b && (sole_below n t a b || sole_below n t b a)) (λ x.
      let l = and_l (ltb a b) _ x in
      elim (or_cases (sole_below n t a b) (sole_below n t b a) (and_r (ltb a b) _ x)) [
        | inl y ↦ c (and_intro (ltb a b) _ l y)
        | inr y ↦ p (and_intro (ltb a b) _ l y)
      ]) in
      rw (e, pick_false)

  child_line : T (child_sole n t a b) → sole_at n t a b ≡ sole_line a b
  unfolding sole_at child_sole sole
  child_line c =
      let e : (ltb a b && (sole_below n t a b || sole_below n t b a)) ≡ true = T_true (ltb a b && (sole_below n t a b || sole_below n t b a)) (and_intro (ltb a b) _ (and_l (ltb a b) _ c) (or_l (sole_below n t a b) _ (and_r (ltb a b) _ c))) in
      rw (e, pick_true)

  parent_line : T (parent_sole n t a b) → sole_at n t a b ≡ sole_line a b
  unfolding sole_at parent_sole sole
  parent_line c =
      let e : (ltb a b && (sole_below n t a b || sole_below n t b a)) ≡ true = T_true (ltb a b && (sole_below n t a b || sole_below n t b a)) (and_intro (ltb a b) _ (and_l (ltb a b) _ c) (or_r (sole_below n t a b) _ (and_r (ltb a b) _ c))) in
      rw (e, pick_true)

-- The lines of the sole links of a: those below b are written, c is the next child and u the next parent from b on.
pub record Soling (n : ℕ) (t : Tables) (a from : ℕ) (out₀ : List ℕ) (at c u b : ℕ) (out : List ℕ) : Type 0 where
  pub put : Put (lines_to (sole_at n t a) b) from out₀ at out
  pub child : Next (child_sole n t a) n b c
  pub parent : Next (parent_sole n t a) n b u
  pub lesser : b ≡ min c u

-- From m on to the lesser of the two.
soling_on : (n : ℕ) (t : Tables) (a from : ℕ) (out₀ : List ℕ) (at c u b m : ℕ) (out : List ℕ) → Put (lines_to (sole_at n t a) m) from out₀ at out → Next (child_sole n t a) n m c → Next (parent_sole n t a) n m u → b ≡ min c u
    → Soling n t a from out₀ at c u b out
soling_on n t a from out₀ at c u b m out p q r e = record {
  put = put_is (lines_skip (sole_at n t a) m b (omega (arith, q.far, r.far)) (λ j h k. no_line n t a j (q.clear j h (omega arith)) (r.clear j h (omega arith)))) p;
  child = record { far = omega arith; most = q.most; clear = λ j h k. q.clear j (omega (arith, q.far, r.far)) k; hit = q.hit };
  parent = record { far = omega arith; most = r.most; clear = λ j h k. r.clear j (omega (arith, q.far, r.far)) k; hit = r.hit };
  lesser = e;
}

pub soling_starts : (n : ℕ) (t : Tables) (a from : ℕ) (out : List ℕ) (c u b : ℕ) → Next (child_sole n t a) n 0 c → Next (parent_sole n t a) n 0 u → b ≡ min c u → Soling n t a from out from c u b out
soling_starts n t a from out c u b q r e = soling_on n t a from out from c u b 0 out (puts_none (sole_at n t a) from out) q r e

module _ {n : ℕ} {t : Tables} {a from : ℕ} {out₀ : List ℕ} {at c u b : ℕ} {out : List ℕ} (s : Soling n t a from out₀ at c u b out) where
  -- A line has room before the end of them all.
  pub soling_room : from + length (soles_from n t a) ≤ ample → at ≤ ample
  unfolding soles_from
  soling_room h = omega (arith, h, s.put.end, lines_up (sole_at n t a) b n (omega (arith, s.child.far, s.child.most)))

  pub soling_ends : n ≤ b → Put (soles_from n t a) from out₀ at out
  unfolding soles_from
  soling_ends h = puts_end (sole_at n t a) (omega (arith, s.child.far, s.child.most)) s.put

  soling_line : b < n → sole_at n t a b ≡ sole_line a b
  soling_line h = elim (dec_lt u c) [
    | yes l ↦ let e : u ≡ b = omega (arith, s.lesser) in parent_line n t a b (rw e at (s.parent.hit (omega arith)))
    | no l ↦ let e : c ≡ b = omega (arith, s.lesser) in child_line n t a b (rw e at (s.child.hit (omega arith)))
  ]

  pub soling_turn : b < n → at ≤ ample → (r : ℕ) (after : List ℕ) → Line (within at (sole_line a b)) 100 at out r after
      → (c' u' b' : ℕ) → Next (child_sole n t a) n (suc b) c' → Next (parent_sole n t a) n (suc b) u' → b' ≡ min c' u' → Soling n t a from out₀ r c' u' b' after
  soling_turn h i r after l c' u' b' q p e =
      let w : Put (sole_at n t a b) at out r after = rw (soling_line h) (within_back i l).put in
      soling_on n t a from out₀ r c' u' b' (suc b) after (rw (add-one b) at (puts_next (sole_at n t a) b s.put w)) q p e
