-- Words that fit are the numbers of the forest: the children of each fragment, and the roots, are queues without a gap, so their sizes add up as what stands below them does.
-- Assumes nothing.
use Rattle.std.specs.Prelude.{ℕ, zero, suc, ◌-◌, ◌≤◌, ◌<◌, ◌≡◌, refl, Bool, ◌≢◌, T}
use Rattle.std.proofs.Common.{sym, ap, ◌∙◌, subst, inl, inr, arith, eqb→eq}
use Rattle.std.proofs.Math.Decide.{ℕ_discrete}
use Rattle.base.specs.Pick.{pick}
use Rattle.base.specs.Truth.{T_dec, T_true, T_false, eq_to_eqb}
use Rattle.rules.specs.Forest.{Levels, Over}
use Rattle.rules.specs.Search.{sum}
use Rattle.rules.specs.Tables.{Tables, par, lev}
use Rattle.rules.specs.Reading.{child_of}
use Rattle.rules.specs.Numbers.{below, below_if, turn, end, at_turn}
use Rattle.rules.proofs.Laws.Up.{par_in, root_par, root_lev, child_lev, over_refl, over_par, over_trans, over_same}
use Rattle.rules.proofs.Laws.Reading.{child_facts}
use Rattle.rules.proofs.Laws.Sums.{sum_same, onto}
use Rattle.rules.proofs.Laws.Queue.{Queue, size_if, queue_end, queue_cover, queue_begins, queue_sum}
use Rattle.rules.proofs.Laws.Fits.{FitsAt, NumberedAt}
use Rattle.rules.proofs.Laws.Below.{is_root, child_level, below_children, row_roots, row_children}
use Rattle.rules.proofs.Laws.Numbers.{at_turn_lem}

-- The same in sizes as in what stands below.
same_size : (n : ℕ) (t : Tables) (P E : ℕ → ℕ) (test : ℕ → Bool) (c : ℕ) → (T (test c) → E c - P c ≡ below n t c) → size_if P E test c ≡ below_if n t test c
unfolding size_if below_if pick
same_size n t P E test c f = elim (T_dec (test c)) [
  | yes q ↦ rw (T_true (test c) q) (f q)
  | no q ↦ rw (T_false (test c) q)
]

module _ {n : ℕ} {t : Tables} {P E O : ℕ → ℕ} (F : (v : ℕ) → v < n → FitsAt n t P E O v) where
  -- No two have one turn.
  one : (c d : ℕ) → c < n → d < n → P c ≡ P d → c ≡ d
  one c d hc hd e = sym (F c hc).back ∙ ap O e ∙ (F d hd).back

  -- Whose turn is i, its turn is i.
  whose_turn : (i : ℕ) → i < n → P (O i) ≡ i
  whose_turn i h =
      let (u, hu, e) = onto P n (λ v g. (F v g).inside) one i h in
      ap P (ap O (sym e) ∙ (F u hu).back) ∙ e

  children : (p : ℕ) → p < n → Queue n P E (child_of t p) (suc (P p)) (E p)
  children p hp = record {
    wide = λ c h. (F c h).wide;
    same = one;
    low = λ c h q.
        let (e, d) = (child_facts t p c).0 q in
        rw e at ((F c h).later (λ r. d (sym r ∙ e)));
    start = elim (F p hp).first_child [
      | inl e ↦ inl (sym e)
      | inr U ↦
          let e : P (O (suc (P p))) ≡ suc (P p) = whose_turn (suc (P p)) U.early in
          inr (O (suc (P p)), U.one, (child_facts t p (O (suc (P p)))).1 (U.under, λ r. omega (arith, ap P r)), e)
    ];
    next = λ c h q.
        let (e, d) = (child_facts t p c).0 q in
        let s : par t c ≢ c = λ r. d (sym r ∙ e) in
        elim ((F c h).next_child s) [
          | inl g ↦ inl (g ∙ ap E e)
          | inr (U, l) ↦
              let g : P (O (E c)) ≡ E c = whose_turn (E c) U.early in
              inr (O (E c), U.one, (child_facts t p (O (E c))).1 (U.under ∙ e, λ r. omega (arith, ap P r, (F c h).wide, rw e at ((F c h).later s))), l, g)
        ];
  }

  roots : Queue n P E (is_root t) 0 n
  roots = record {
    wide = λ c h. (F c h).wide;
    same = one;
    low = λ c h q. omega arith;
    start = elim (ℕ_discrete 0 n) [
      | yes e ↦ inl e
      | no d ↦
          let (w, h, e) = onto P n (λ v g. (F v g).inside) one 0 (omega arith) in
          elim (ℕ_discrete (par t w) w) [
            | yes r ↦ inr (w, h, eq_to_eqb (par t w) w r, e)
            | no r ↦ absurd (omega (arith, (F w h).later r))
          ]
    ];
    next = λ c h q. elim ((F c h).next_root (eqb→eq (par t c) c q)) [
      | inl e ↦ inl e
      | inr U ↦ inr (O (E c), U.one, eq_to_eqb (par t (O (E c))) (O (E c)) U.root, U.rises, whose_turn (E c) U.early)
    ];
  }

  module _ (L : Levels n (par t) (lev t)) where
    -- What comes between the turn of v and its end is below v.
    range_by : (k v u : ℕ) → v < n → u < n → E v - P v ≤ k → P v ≤ P u → P u < E v → Over (par t) (lev t) v u
    range_by zero v u hv hu g a b = absurd (omega arith)
    range_by (suc k) v u hv hu g a b = elim (ℕ_discrete (P v) (P u)) [
      | yes e ↦ subst (λ (x : ℕ). Over (par t) (lev t) v x) (one v u hv hu e) (over_refl L v)
      | no d ↦
          let Q = children v hv in
          let (c, h, q, i, j) = queue_cover Q (P u) (omega arith) b in
          let o : Over (par t) (lev t) v c = rw ((child_facts t v c).0 q).0 at (over_par L c h) in
          over_trans L v c u hu o (range_by k c u h hu (omega (arith, Q.low c h q, queue_end Q c h q)) i j)
    ]

    -- Two on one level do not overlap.
    apart : (c d : ℕ) → c < n → d < n → lev t c ≡ lev t d → P c ≤ P d → P d < E c → c ≡ d
    apart c d hc hd e a b = over_same L c d (range_by (E c - P c) c d hc hd (omega arith) a b) e

    apart_children : (p c d : ℕ) → c < n → d < n → T (child_of t p c) → T (child_of t p d) → P c ≤ P d → P d < E c → c ≡ d
    apart_children p c d hc hd qc qd = apart c d hc hd (child_level n t L p c hc qc ∙ sym (child_level n t L p d hd qd))

    apart_roots : (c d : ℕ) → c < n → d < n → T (is_root t c) → T (is_root t d) → P c ≤ P d → P d < E c → c ≡ d
    apart_roots c d hc hd qc qd = apart c d hc hd (root_lev L c hc (eqb→eq (par t c) c qc) ∙ sym (root_lev L d hd (eqb→eq (par t d) d qd)))

    -- From its turn to its end v has as many places as stand below it.
    size_by : (k v : ℕ) → v < n → E v - P v ≤ k → E v - P v ≡ below n t v
    size_by zero v h g = absurd (omega (arith, (F v h).wide))
    size_by (suc k) v h g =
        let Q = children v h in
        let s : sum (size_if P E (child_of t v)) n ≡ sum (below_if n t (child_of t v)) n = sum_same (size_if P E (child_of t v)) (below_if n t (child_of t v)) n
        (λ c l. same_size n t P E (child_of t v) c (λ q. size_by k c l (omega (arith, Q.low c l q, queue_end Q c l q)))) in
        omega (arith, queue_sum Q (apart_children v), s, below_children n t L v h)

    size : (v : ℕ) → v < n → E v - P v ≡ below n t v
    size v h = size_by (E v - P v) v h (omega arith)

    sizes : (test : ℕ → Bool) (v : ℕ) → v < n → sum (size_if P E test) v ≡ sum (below_if n t test) v
    sizes test v h = sum_same (size_if P E test) (below_if n t test) v (λ c l. same_size n t P E test c (λ q. size c (omega arith)))

    turn_by : (k v : ℕ) → v < n → lev t v ≡ k → P v ≡ turn n t v
    turn_by zero v h e =
        let q : T (is_root t v) = eq_to_eqb (par t v) v (root_par L v h e) in
        omega (arith, queue_begins roots apart_roots v h q, sizes (is_root t) v h, (row_roots n t L).turns v h q)
    turn_by (suc k) v h e =
        let p = par t v in
        let hp : p < n = par_in L v h in
        let d : p ≢ v = λ r. omega (arith, root_lev L v h r) in
        let q : T (child_of t p v) = (child_facts t p v).1 (refl, λ r. d (sym r)) in
        omega (
          arith,
          queue_begins (children p hp) (apart_children p) v h q,
          sizes (child_of t p) v h,
          (row_children n t L p hp).turns v h q,
          turn_by k p hp (omega (arith, child_lev L v h d)),
        )

    fits_turn : (v : ℕ) → v < n → P v ≡ turn n t v
    fits_turn v h = turn_by (lev t v) v h refl

    whose_at : (i : ℕ) → i < n → O i ≡ at_turn n t i
    whose_at i h =
        let (u, hu, e) = onto P n (λ v g. (F v g).inside) one i h in
        let g : O i ≡ u = ap O (sym e) ∙ (F u hu).back in
        g ∙ sym (at_turn_lem n t L u hu) ∙ ap (at_turn n t) (sym (fits_turn u hu) ∙ e)

    ends_end : (v : ℕ) → v < n → E v ≡ end n t v
    unfolding end
    ends_end v h = omega (arith, fits_turn v h, size v h, (F v h).wide)

pub fits_numbered : (n : ℕ) (t : Tables) (P E O : ℕ → ℕ) → Levels n (par t) (lev t) → ((v : ℕ) → v < n → FitsAt n t P E O v) → (v : ℕ) → v < n → NumberedAt n t P E O v
fits_numbered n t P E O L F v h = record { turns = fits_turn F L v h; ends = ends_end F L v h; whose = whose_at F L v h }
