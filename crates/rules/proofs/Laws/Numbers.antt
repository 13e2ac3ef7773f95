-- The numbers of a forest: who is above whom is a comparison of turns, and each turn is one fragment's.
-- Assumes nothing.
use Prim.Native.Nat.{ℕ, zero, suc, ◌≤◌, ◌<◌}
use Rattle.std.specs.Prelude.{◌≡◌, refl, ◌⊎◌, ◌≢◌, ◌↔◌, T}
use Rattle.std.proofs.Common.{sym, ap, ◌∙◌, subst, inl, inr, arith, eqb→eq}
use Rattle.std.proofs.Math.Bool.{Bool}
use Rattle.std.proofs.Math.Decide.{ℕ_discrete, dec_lt}
use Rattle.std.proofs.Math.Dec.{eqb, eqb_refl}
use Rattle.base.specs.Truth.{eq_to_eqb}
use Rattle.rules.specs.Forest.{up, Levels, Over}
use Rattle.rules.specs.Search.{first}
use Rattle.rules.specs.Tables.{Tables, par, lev}
use Rattle.rules.specs.Reading.{above, child_of}
use Rattle.rules.specs.Numbers.{below, beside, turn, end, at_turn}
use Rattle.rules.proofs.Laws.Search.{first_passes, first_below, some_count}
use Rattle.rules.proofs.Laws.Up.{par_in, root_par, root_lev, child_lev, level_arrives, up_in, up_over, over_refl, over_in, over_lev, over_same, over_antisym, over_child, over_par, over_up, over_down, over_dec}
use Rattle.rules.proofs.Laws.Reading.{above_test, child_facts}
use Rattle.rules.proofs.Laws.Sums.{onto}
use Rattle.rules.proofs.Laws.Below.{row_first, row_start, row_within, row_rise, row_next, row_roots, row_children, beside_root, beside_child}
pub use Rattle.rules.proofs.Laws.Below.{turn_root, turn_child, below_children}

module _ (n : ℕ) (t : Tables) (L : Levels n (par t) (lev t)) where
  -- v itself stands below v.
  pub turn_end : (v : ℕ) → v < n → turn n t v < end n t v
  unfolding end below
  turn_end v h = omega (arith, some_count (above t v) n v h ((above_test t v v).1 (over_refl L v)))

  own_child : (v : ℕ) → par t v ≢ v → T (child_of t (par t v) v)
  own_child v d = (child_facts t (par t v) v).1 (refl, (λ e. d (sym e)))

  -- A child's turns lie within its parent's, behind the first.
  pub child_turn : (v : ℕ) → v < n → par t v ≢ v → (turn n t (par t v) < turn n t v) × (end n t v ≤ end n t (par t v))
  child_turn v h d =
      let R = row_children n t L (par t v) (par_in L v h) in
      (row_start n t R v h (own_child v d), row_within n t R v h (own_child v d))

  pub root_end : (v : ℕ) → v < n → par t v ≡ v → end n t v ≤ n
  root_end v h e = row_within n t (row_roots n t L) v h (eq_to_eqb (par t v) v e)

  -- Of two beside each other the smaller one's turns come first.
  pub beside_turn : (c d : ℕ) → c < n → d < n → T (beside t d c) → c < d → end n t c ≤ turn n t d
  beside_turn c d hc hd b l = elim (ℕ_discrete (par t d) d) [
    | yes e ↦ row_rise n t (row_roots n t L) c hc (rw (beside_root n t d e) at b) d hd (eq_to_eqb (par t d) d e) l
    | no k ↦ row_rise n t (row_children n t L (par t d) (par_in L d hd)) c hc (rw (beside_child n t d k) at b) d hd (own_child d k) l
  ]

  -- What is strictly above b makes it a child.
  over_above : (a b : ℕ) → b < n → Over (par t) (lev t) a b → a ≢ b → par t b ≢ b
  over_above a b h o d e = d (over_same L a b o (omega (arith, root_lev L b h e, over_lev L a b h o)))

  -- The turns of b lie within those of each above it.
  pub over_turn : (a b : ℕ) → b < n → Over (par t) (lev t) a b → (turn n t a ≤ turn n t b) × (end n t b ≤ end n t a)
  over_turn a b h o = go (lev t b) b h o refl
    where
      go : (k b : ℕ) → b < n → Over (par t) (lev t) a b → lev t b ≡ k → (turn n t a ≤ turn n t b) × (end n t b ≤ end n t a)
      go zero b h o e = rw (over_same L a b o (omega (arith, over_lev L a b h o))) (omega arith, omega arith)
      go (suc k) b h o e = elim (ℕ_discrete a b) [
        | yes q ↦ rw q (omega arith, omega arith)
        | no d ↦
            let i : par t b ≢ b = over_above a b h o d in
            let (x, y) = child_turn b h i in
            let (x', y') = go k (par t b) (par_in L b h) (over_up L a b h o d) (omega (arith, child_lev L b h i)) in
            (omega arith, omega arith)
      ]

  -- Strictly above b is an earlier turn.
  over_earlier : (a b : ℕ) → b < n → Over (par t) (lev t) a b → a ≢ b → turn n t a < turn n t b
  over_earlier a b h o d =
      omega (arith, over_turn a (par t b) (par_in L b h) (over_up L a b h o d), child_turn b h (over_above a b h o d))

  beside_roots : (c d : ℕ) → par t c ≡ c → par t d ≡ d → T (beside t c d)
  beside_roots c d e f = rw (beside_root n t c e) (eq_to_eqb (par t d) d f)

  beside_children : (c d : ℕ) → par t c ≢ c → par t d ≢ d → par t c ≡ par t d → T (beside t c d)
  beside_children c d k l e = rw (beside_child n t c k) ((child_facts t (par t c) d).1 (sym e, (λ q. l (sym e ∙ sym q))))

  -- Two beside each other, one above a and one above b.
  pub record Fork (a b : ℕ) : Type 0 where
    pub left : ℕ
    pub right : ℕ
    pub over_left : Over (par t) (lev t) left a
    pub over_right : Over (par t) (lev t) right b
    pub apart : left ≢ right
    pub left_right : T (beside t left right)
    pub right_left : T (beside t right left)

  fork_roots : (a b : ℕ) → b < n → par t a ≡ a → (Over (par t) (lev t) a b → ⊥) → Fork a b
  fork_roots a b h e f =
      let r = up (par t) (lev t b) b in
      let o : Over (par t) (lev t) r b = up_over L (lev t b) b h in
      let i : par t r ≡ r = level_arrives L b h in
      record {
        left = a;
        right = r;
        over_left = over_refl L a;
        over_right = o;
        apart = λ q. f (subst (λ (x : ℕ). Over (par t) (lev t) x b) (sym q) o);
        left_right = beside_roots a r e i;
        right_left = beside_roots r a i e;
      }

  -- a's parent is above b, but a is not, nor b above a.
  fork_children : (a b : ℕ) → a < n → b < n → par t a ≢ a → Over (par t) (lev t) (par t a) b → (Over (par t) (lev t) a b → ⊥) → (Over (par t) (lev t) b a → ⊥) → Fork a b
  fork_children a b ha hb k o f g =
      let (d, hd, e, m, q) = over_child L (par t a) b hb o (λ i. g (subst (λ (x : ℕ). Over (par t) (lev t) x a) i (over_par L a ha))) in
      let l : par t d ≢ d = λ i. omega (arith, ap (lev t) (sym i ∙ e)) in
      record {
        left = a;
        right = d;
        over_left = over_refl L a;
        over_right = q;
        apart = λ i. f (subst (λ (x : ℕ). Over (par t) (lev t) x b) (sym i) q);
        left_right = beside_children a d k l (sym e);
        right_left = beside_children d a l k e;
      }

  fork_up : (a b : ℕ) → a < n → Fork (par t a) b → Fork a b
  fork_up a b h F = record {
    left = F.left;
    right = F.right;
    over_left = over_down L F.left a h F.over_left;
    over_right = F.over_right;
    apart = F.apart;
    left_right = F.left_right;
    right_left = F.right_left;
  }

  -- Where neither is above the other, their ways to the root come from two beside each other.
  pub fork : (a b : ℕ) → a < n → b < n → (Over (par t) (lev t) a b → ⊥) → (Over (par t) (lev t) b a → ⊥) → Fork a b
  fork a b ha hb f g = go (lev t a) a ha refl f g
    where
      go : (k a : ℕ) → a < n → lev t a ≡ k → (Over (par t) (lev t) a b → ⊥) → (Over (par t) (lev t) b a → ⊥) → Fork a b
      go zero a h e f g = fork_roots a b hb (root_par L a h e) f
      go (suc k) a h e f g =
          let i : par t a ≢ a = λ q. omega (arith, root_lev L a h q) in
          elim (over_dec (par t) (lev t) (par t a) b) [
            | yes o ↦ fork_children a b h hb i o f g
            | no o ↦ fork_up a b h (go k (par t a) (par_in L a h) (omega (arith, child_lev L a h i)) o (λ q. g (over_down L b a h q)))
          ]

  -- Where neither is above the other, all turns of one come before those of the other.
  apart_turns : (a b : ℕ) → a < n → b < n → Fork a b → (end n t a ≤ turn n t b) ⊎ (end n t b ≤ turn n t a)
  apart_turns a b ha hb F =
      let hl : F.left < n = over_in L F.left a ha F.over_left in
      let hr : F.right < n = over_in L F.right b hb F.over_right in
      elim (dec_lt F.left F.right) [
        | yes l ↦ inl (omega (arith, beside_turn F.left F.right hl hr F.right_left l, over_turn F.left a ha F.over_left, over_turn F.right b hb F.over_right))
        | no l ↦ inr (omega (arith, beside_turn F.right F.left hr hl F.left_right (omega (arith, F.apart)), over_turn F.left a ha F.over_left, over_turn F.right b hb F.over_right))
      ]

  -- Those below a have the turns from a's own up to where they end.
  pub above_range : (a b : ℕ) → a < n → b < n → T (above t a b) ↔ ((turn n t a ≤ turn n t b) × (turn n t b < end n t a))
  above_range a b ha hb = (
    (λ q. let (x, y) = over_turn a b hb ((above_test t a b).0 q) in (x, omega (arith, turn_end b hb))),
    (λ (x, y). (above_test t a b).1 (elim (over_dec (par t) (lev t) a b) [
      | yes o ↦ o
      | no f ↦ absurd (elim (over_dec (par t) (lev t) b a) [
        | yes o ↦ omega (arith, over_earlier b a ha o (λ e. f (subst (λ (z : ℕ). Over (par t) (lev t) a z) (sym e) (over_refl L a))))
        | no g ↦ elim (apart_turns a b ha hb (fork a b ha hb f g)) [ inl q ↦ omega arith | inr q ↦ omega (arith, turn_end b hb) ]
      ])
    ])),
  )

  pub turn_in_lem : (v : ℕ) → v < n → turn n t v < n
  turn_in_lem v h =
      let r = up (par t) (lev t v) v in
      omega (arith, turn_end v h, (over_turn r v h (up_over L (lev t v) v h)).1, root_end r (up_in L (lev t v) v h) (level_arrives L v h))

  pub turn_one : (u v : ℕ) → u < n → v < n → turn n t u ≡ turn n t v → u ≡ v
  turn_one u v hu hv e =
      let a : T (above t u v) = (above_range u v hu hv).1 (omega arith, omega (arith, turn_end u hu)) in
      let b : T (above t v u) = (above_range v u hv hu).1 (omega arith, omega (arith, turn_end v hv)) in
      over_antisym L u v hu hv ((above_test t u v).0 a) ((above_test t v u).0 b)

  pub at_turn_lem : (v : ℕ) → v < n → at_turn n t (turn n t v) ≡ v
  unfolding at_turn
  at_turn_lem v h =
      let p : ℕ → Bool = λ u. eqb (turn n t u) (turn n t v) in
      let l : first p n < n = omega (arith, first_below p n v h (eqb_refl (turn n t v))) in
      turn_one (first p n) v l h (eqb→eq (turn n t (first p n)) (turn n t v) (first_passes p n l))

  pub turn_at_lem : (i : ℕ) → i < n → (at_turn n t i < n) × (turn n t (at_turn n t i) ≡ i)
  turn_at_lem i h =
      let (u, l, e) = onto (turn n t) n turn_in_lem turn_one i h in
      subst (λ (j : ℕ). (at_turn n t j < n) × (turn n t (at_turn n t j) ≡ j)) e (rw (at_turn_lem u l) (l, refl))

  -- Where the turns of v end, the next one beside it comes, or those of its parent end too, or all end.
  pub next_root : (v : ℕ) → v < n → par t v ≡ v → (end n t v ≡ n) ⊎ ((u : ℕ) × (u < n) × (par t u ≡ u) × (v < u) × (turn n t u ≡ end n t v))
  next_root v h e = elim (row_next n t (row_roots n t L) v h (eq_to_eqb (par t v) v e)) [
    | inl a ↦ inl a
    | inr (u, l, q, r, a) ↦ inr (u, l, eqb→eq (par t u) u q, r, a)
  ]

  pub next_child : (v : ℕ) → v < n → par t v ≢ v → (end n t v ≡ end n t (par t v)) ⊎ ((u : ℕ) × (u < n) × (par t u ≡ par t v) × (v < u) × (turn n t u ≡ end n t v))
  next_child v h d = elim (row_next n t (row_children n t L (par t v) (par_in L v h)) v h (own_child v d)) [
    | inl a ↦ inl a
    | inr (u, l, q, r, a) ↦ inr (u, l, ((child_facts t (par t v) u).0 q).0, r, a)
  ]

  -- Behind v its first child comes, where it has one.
  pub first_child : (v : ℕ) → v < n → (end n t v ≡ suc (turn n t v)) ⊎ ((u : ℕ) × (u < n) × (par t u ≡ v) × (u ≢ v) × (turn n t u ≡ suc (turn n t v)))
  first_child v h = elim (row_first n t (row_children n t L v h)) [
    | inl a ↦ inl (sym a)
    | inr (u, l, q, a) ↦ let (e, d) = (child_facts t v u).0 q in inr (u, l, e, d, a)
  ]
