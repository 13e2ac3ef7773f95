-- What stands below a fragment: the parts of a forest, and the rows in which they take their turns.
-- Assumes nothing.
use Prim.Native.Nat.{ℕ, suc, ◌+◌, ◌≤◌, ◌<◌}
use Rattle.std.specs.Prelude.{◌≡◌, Bool, true, ◌&&◌, not, ◌⊎◌, ◌≢◌, ◌↔◌, eqb}
use Rattle.std.proofs.Math.Path.{refl, sym, ap}
use Rattle.std.proofs.Common.{◌∙◌, subst, inl, inr, arith, eqb→eq, T_not, eq-eqb, ne_eqb}
use Rattle.std.proofs.Math.Dec.{T, not_T}
use Rattle.base.specs.Pick.{pick}
use Rattle.base.specs.Truth.{and_intro, and_l, and_r, T_true, T_false, T_ext, eq_to_eqb}
use Rattle.rules.specs.Forest.{up, Levels, Over}
use Rattle.rules.specs.Search.{count, sum}
use Rattle.rules.specs.Tables.{Tables, par, lev}
use Rattle.rules.specs.Reading.{above, child_of}
use Rattle.rules.specs.Numbers.{below, below_if, beside, passed, turn_at, turn, end}
use Rattle.rules.proofs.Laws.Search.{count_one_more}
use Rattle.rules.proofs.Laws.Up.{root_lev, child_lev, level_arrives, up_over, over_refl, over_in, over_lev, over_same, over_meet, over_child, over_par_of, up_in}
use Rattle.rules.proofs.Laws.Reading.{above_test, child_facts}
use Rattle.rules.proofs.Laws.Sums.{count_all, count_parts, sum_zero, sum_suc, sum_step, sum_next}

-- The test of a root.
abbrev pub is_root : Tables → ℕ → Bool
is_root t c = eqb (par t c) c

module _ (n : ℕ) (t : Tables) where
  pub below_if_yes : (test : ℕ → Bool) (c : ℕ) → T (test c) → below_if n t test c ≡ below n t c
  unfolding below_if pick
  below_if_yes test c s = rw (T_true (test c) s)

  pub below_if_no : (test : ℕ → Bool) (c : ℕ) → (T (test c) → ⊥) → below_if n t test c ≡ 0
  unfolding below_if pick
  below_if_no test c s = rw (T_false (test c) s)

  -- Those that pass a test take their turns in a row from s to e, each with what stands below it.
  pub record Row (test : ℕ → Bool) (s e : ℕ) : Type 0 where
    pub turns : (c : ℕ) → c < n → T (test c) → turn n t c ≡ s + sum (below_if n t test) c
    pub whole : s + sum (below_if n t test) n ≡ e

  module _ {test : ℕ → Bool} {s e : ℕ} (R : Row test s e) where
    pub row_first : (s ≡ e) ⊎ ((u : ℕ) × (u < n) × T (test u) × (turn n t u ≡ s))
    row_first = elim (sum_next test (below_if n t test) n (below_if_no test) 0 (omega arith)) [
      | inl a ↦ inl (omega (arith, R.whole, sum_zero (below_if n t test)))
      | inr (u, l, hu, r, a) ↦ inr (u, hu, r, omega (arith, R.turns u hu r, sum_zero (below_if n t test)))
    ]

    module _ (c : ℕ) (h : c < n) (q : T (test c)) where
      pub row_start : s ≤ turn n t c
      row_start = omega (arith, R.turns c h q)

      row_end : end n t c ≡ s + sum (below_if n t test) (suc c)
      unfolding end
      row_end = omega (arith, R.turns c h q, sum_suc (below_if n t test) c, below_if_yes test c q)

      pub row_within : end n t c ≤ e
      unfolding end
      row_within = omega (arith, R.whole, R.turns c h q, sum_step (below_if n t test) n c h, below_if_yes test c q)

      pub row_rise : (d : ℕ) → d < n → T (test d) → c < d → end n t c ≤ turn n t d
      unfolding end
      row_rise d hd qd l = omega (arith, R.turns c h q, R.turns d hd qd, sum_step (below_if n t test) d c l, below_if_yes test c q)

      pub row_next : (end n t c ≡ e) ⊎ ((u : ℕ) × (u < n) × T (test u) × (c < u) × (turn n t u ≡ end n t c))
      row_next = elim (sum_next test (below_if n t test) n (below_if_no test) (suc c) h) [
        | inl a ↦ inl (omega (arith, row_end, R.whole))
        | inr (u, l, hu, r, a) ↦ inr (u, hu, r, l, omega (arith, row_end, R.turns u hu r))
      ]

  pub beside_root : (v : ℕ) → par t v ≡ v → beside t v ≡ is_root t
  unfolding beside pick
  beside_root v e = ap {B = ℕ → Bool} (λ (b : Bool) (c : ℕ). pick b (eqb (par t c) c) (child_of t (par t v) c)) (eq-eqb (par t v) v e)

  pub beside_child : (v : ℕ) → par t v ≢ v → beside t v ≡ child_of t (par t v)
  unfolding beside pick
  beside_child v d = ap {B = ℕ → Bool} (λ (b : Bool) (c : ℕ). pick b (eqb (par t c) c) (child_of t (par t v) c)) (ne_eqb (par t v) v d)

  passed_is : (v : ℕ) (test : ℕ → Bool) → beside t v ≡ test → passed n t v ≡ sum (below_if n t test) v
  unfolding passed
  passed_is v test e = rw e refl

  module _ (L : Levels n (par t) (lev t)) where
    pub turn_root : (v : ℕ) → v < n → par t v ≡ v → turn n t v ≡ passed n t v
    unfolding turn turn_at
    turn_root v h e = rw (root_lev L v h e) refl

    pub turn_child : (v : ℕ) → v < n → par t v ≢ v → turn n t v ≡ suc (turn n t (par t v)) + passed n t v
    unfolding turn turn_at
    turn_child v h d = rw (child_lev L v h d) refl

    -- Of two on one level only one is above u.
    above_one : (u c d : ℕ) → u < n → T (above t c u) → T (above t d u) → lev t c ≡ lev t d → c ≡ d
    above_one u c d h a b e = over_same L c d (over_meet L c d u h ((above_test t c u).0 a) ((above_test t d u).0 b) (omega arith)) e

    above_in_lem : (c u : ℕ) → u < n → T (above t c u) → c < n
    above_in_lem c u h a = over_in L c u h ((above_test t c u).0 a)

    -- Each is below one root.
    below_roots : sum (below_if n t (is_root t)) n ≡ n
    unfolding below_if below
    below_roots =
        let level : (u c : ℕ) → u < n → T (is_root t c) → T (above t c u) → lev t c ≡ 0 = λ u c h q a. root_lev L c (above_in_lem c u h a) (eqb→eq (par t c) c q) in
        sym (count_parts (is_root t) (above t) (λ u. true) n n
        (λ u h q. let r = up (par t) (lev t u) u in (r, up_in L (lev t u) u h, eq_to_eqb (par t r) r (level_arrives L u h), (above_test t r u).1 (up_over L (lev t u) u h)))
        (λ u c h q a. tt)
        (λ u c d h q a r b. above_one u c d h a b (level u c h q a ∙ sym (level u d h r b))))
        ∙ count_all (λ u. true) n (λ u. tt)

    pub child_level : (v c : ℕ) → c < n → T (child_of t v c) → lev t c ≡ suc (lev t v)
    child_level v c h q = let (e, d) = (child_facts t v c).0 q in omega (arith, ap (lev t) e, child_lev L c h (λ k. d (sym k ∙ e)))

    -- u is below v and another.
    abbrev under : (v u : ℕ) → Bool
    under v u = above t v u && not (eqb u v)

    under_facts : (v u : ℕ) → T (under v u) ↔ (Over (par t) (lev t) v u × (u ≢ v))
    under_facts v u =
        let a = above t v u in
        let b = eqb u v in (
          (λ q. ((above_test t v u).0 (and_l a (not b) q), (λ e. T_not b (and_r a (not b) q) (eq_to_eqb u v e)))),
          (λ (o, d). and_intro a (not b) ((above_test t v u).1 o) (not_T b (λ q. d (eqb→eq u v q)))),
        )

    under_count : (v : ℕ) → v < n → count (above t v) n ≡ suc (count (under v) n)
    under_count v h =
        count_one_more (under v) (above t v) n v h
        (λ q. ((under_facts v v).0 q).1 refl)
        ((above_test t v v).1 (over_refl L v))
        (λ u l d. T_ext (under v u) (above t v u) (and_l (above t v u) (not (eqb u v))) (λ a. (under_facts v u).1 ((above_test t v u).0 a, d)))

    -- v itself, and what stands below its children.
    pub below_children : (v : ℕ) → v < n → below n t v ≡ suc (sum (below_if n t (child_of t v)) n)
    unfolding below_if below
    below_children v h =
        let level : (u c : ℕ) → u < n → T (child_of t v c) → T (above t c u) → lev t c ≡ suc (lev t v) = λ u c l q a. child_level v c (above_in_lem c u l a) q in
        under_count v h
        ∙ ap suc (count_parts (child_of t v) (above t) (under v) n n
        (λ u l q.
        let (a, d) = (under_facts v u).0 q in
        let (c, hc, e, m, o) = over_child L v u l a (λ k. d (sym k)) in
        (c, hc, (child_facts t v c).1 (e, (λ k. omega (arith, ap (lev t) k))), (above_test t c u).1 o))
        (λ u c l q a.
        let o : Over (par t) (lev t) c u = (above_test t c u).0 a in
        (under_facts v u).1
        (subst (λ (x : ℕ). Over (par t) (lev t) x u) ((child_facts t v c).0 q).0 (over_par_of L c u l o), (λ k. omega (arith, ap (lev t) k, level u c l q a, over_lev L c u l o))))
        (λ u c d l q a r b. above_one u c d l a b (level u c l q a ∙ sym (level u d l r b))))

    pub row_roots : Row (is_root t) 0 n
    row_roots = record {
      turns = λ c h q. let e : par t c ≡ c = eqb→eq (par t c) c q in omega (arith, turn_root c h e, passed_is c (is_root t) (beside_root c e));
      whole = omega (arith, below_roots);
    }

    pub row_children : (v : ℕ) → v < n → Row (child_of t v) (suc (turn n t v)) (end n t v)
    unfolding end
    row_children v h = record {
      turns = λ c hc q.
          let (e, d) = (child_facts t v c).0 q in
          let k : par t c ≢ c = λ k. d (sym k ∙ e) in
          omega (arith, turn_child c hc k, ap (turn n t) e, passed_is c (child_of t v) (beside_child c k ∙ ap {B = ℕ → Bool} (child_of t) e));
      whole = omega (arith, below_children v h);
    }
