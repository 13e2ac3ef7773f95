-- Laws of the walks over the turns of those below a fragment: its reach, and its children.
-- Assumes nothing.
use Rattle.std.specs.Prelude.{ℕ, ◌+◌, ◌≤◌, ◌<◌, min, ◌≡◌, refl, true, false, ◌≢◌, leb, ltb}
use Rattle.std.proofs.Math.Path.{sym, ap}
use Rattle.std.proofs.Common.{◌∙◌, eq-eqb, ne_eqb, le→leb, ltb→lt, lt→ltb}
use Rattle.std.proofs.Math.Logic.{inl, inr}
use native.Mathlib.Omega.{arith}
use Rattle.std.proofs.Math.Decide.{ℕ_discrete, dec_lt, dec_le}
use Rattle.std.proofs.Math.Dec.{T, leb→le}
use Rattle.base.specs.Pick.{pick_true, pick_false}
use Rattle.base.specs.Truth.{and_l, and_r, and_intro, T_ext, T_true, T_false}
use Rattle.rules.specs.Forest.{up, Levels}
use Rattle.rules.specs.Search.{count, some}
use Rattle.rules.specs.Tables.{Tables, par, lev}
use Rattle.rules.specs.Reading.{above, lowest, reach, child_of, cut}
use Rattle.rules.specs.Numbers.{turn, end, at_turn}
use Rattle.rules.proofs.Laws.Search.{some_intro, some_elim, least_le, least_hit, count_two, two_count}
use Rattle.rules.proofs.Laws.Up.{up_in, up_over, over_refl, over_same, level_arrives, child_lev}
use Rattle.rules.proofs.Laws.Reading.{above_test, child_facts}
use Rattle.rules.proofs.Laws.Numbers.{turn_one, at_turn_lem, turn_at_lem, above_range, turn_end, child_turn, root_end, over_turn, next_child, first_child}
use Rattle.asking.specs.Ranges.{shut, Reached, Walked}

module _ (n : ℕ) (t : Tables) (L : Levels n (par t) (lev t)) where
  pub end_in_lem : (v : ℕ) → v < n → end n t v ≤ n
  end_in_lem v h =
      let r = up (par t) (lev t v) v in
      omega (arith, (over_turn n t L r v h (up_over L (lev t v) v h)).1, root_end n t L r (up_in L (lev t v) v h) (level_arrives L v h))

  above_self : (v : ℕ) → T (above t v v)
  above_self v = (above_test t v v).1 (over_refl L v)

  module _ (v : ℕ) (h : v < n) where
    -- The reach, one turn at a time.
    pub reach_starts : (i x : ℕ) → i ≡ turn n t v + 1 → x ≡ lowest t v → Reached n t v i x
    reach_starts i x ei ex = record {
      behind = omega arith;
      most = λ u k a l.
          let e : turn n t u ≡ turn n t v = omega (arith, (above_range n t L v u h k).0 a) in
          rw (turn_one n t L u v k h e, ex) (omega arith);
      hit = (v, h, above_self v, ex);
    }

    pub reach_on : (i x y : ℕ) → Reached n t v i x → i < end n t v → y ≡ min (lowest t (at_turn n t i)) x → Reached n t v (i + 1) y
    reach_on i x y R l e =
        let (k, et) = turn_at_lem n t L i (omega (arith, end_in_lem v h)) in
        let w = at_turn n t i in
        let a : T (above t v w) = (above_range n t L v w h k).1 (omega (arith, R.behind), omega arith) in
        record {
          behind = omega (arith, R.behind);
          most = λ u ku au lu. elim (ℕ_discrete (turn n t u) i) [
            | yes q ↦ let z : u ≡ w = turn_one n t L u w ku k (q ∙ sym et) in rw z (omega arith)
            | no q ↦ omega (arith, R.most u ku au (omega arith))
          ];
          hit = elim (dec_le x (lowest t w)) [
            | yes q ↦ let (u, ku, au, eu) = R.hit in (u, ku, au, omega arith)
            | no q ↦ (w, k, a, omega arith)
          ];
        }

    pub reach_done : (i x : ℕ) → Reached n t v i x → end n t v ≤ i → x ≡ reach n t v
    unfolding reach
    reach_done i x R l =
        let (u, k, a, e) = R.hit in
        let most : (w : ℕ) → w < n → T (above t v w) → x ≤ lowest t w = λ w g b. R.most w g b (omega (arith, (above_range n t L v w h g).0 b)) in
        let least = least_le (above t v) (lowest t) (lowest t v) n u k a in
        elim (least_hit (above t v) (lowest t) (lowest t v) n) [
          | inl q ↦ omega (arith, most v h (above_self v))
          | inr (w, g, b, q) ↦ omega (arith, most w g b)
        ]

    shut_child : (c : ℕ) → T (shut n t v c) → T (child_of t v c)
    unfolding shut
    shut_child c x = and_l (child_of t v c) _ x

    -- A child's turns lie within v's, behind the first.
    child_range : (c : ℕ) → c < n → T (child_of t v c) → (turn n t v < turn n t c) × (end n t c ≤ end n t v)
    child_range c k x =
        let (e, d) = (child_facts t v c).0 x in
        let (p, q) = child_turn n t L c k (λ z. d (sym z ∙ e)) in
        (omega (arith, ap (turn n t) e), omega (arith, ap (end n t) e))

    -- Of two children neither is above the other.
    child_above : (c d : ℕ) → c < n → d < n → T (child_of t v c) → T (child_of t v d) → T (above t c d) → c ≡ d
    child_above c d kc kd x y a =
        let (ec, nc) = (child_facts t v c).0 x in
        let (ed, nd) = (child_facts t v d).0 y in
        let lc = child_lev L c kc (λ z. nc (sym z ∙ ec)) in
        let ld = child_lev L d kd (λ z. nd (sym z ∙ ed)) in
        over_same L c d ((above_test t c d).0 a) (omega (arith, ap (lev t) ec, ap (lev t) ed))

    -- Behind the turns of v's child c the next child comes, or those below v end.
    behind_child : (c : ℕ) → c < n → T (child_of t v c) → end n t c < end n t v → T (child_of t v (at_turn n t (end n t c)))
    behind_child c k x l =
        let (e, d) = (child_facts t v c).0 x in
        let i : par t c ≢ c = λ z. d (sym z ∙ e) in
        elim (next_child n t L c k i) [
          | inl q ↦ absurd (omega (arith, ap (end n t) e))
          | inr (u, g, p, m, q) ↦
              let z : u ≢ v = λ w. omega (arith, ap (turn n t) w, child_range c k x, turn_end n t L c k) in
              rw (← q, at_turn_lem n t L u g) ((child_facts t v u).1 (p ∙ e, z))
        ]

    -- The walk over the children, one child at a time.
    pub walk_starts : (i : ℕ) → i ≡ turn n t v + 1 → Walked n t v i
    walk_starts i e = record {
      later = λ c k x. omega (arith, child_range c k (shut_child c x));
      next = λ l. elim (first_child n t L v h) [
        | inl q ↦ absurd (omega arith)
        | inr (u, g, p, d, q) ↦
            let z : i ≡ turn n t u = omega arith in
            rw (z, at_turn_lem n t L u g) ((child_facts t v u).1 (p, d))
      ];
    }

    module _ (i : ℕ) (W : Walked n t v i) (l : i < end n t v) (c : ℕ) (ec : c ≡ at_turn n t i) where
      -- The child whose turn is i.
      pub walk_child : (c < n) × (turn n t c ≡ i) × T (child_of t v c)
      walk_child = let (k, e) = turn_at_lem n t L i (omega (arith, end_in_lem v h)) in rw ec (k, e, W.next l)

      pub walk_found : lev t v ≤ reach n t c → true ≡ some (shut n t v) n
      unfolding shut
      walk_found g =
          let (k, e, x) = walk_child in
          sym (T_true (some (shut n t v) n) (some_intro (shut n t v) n c k (and_intro (child_of t v c) _ x (le→leb (lev t v) (reach n t c) g))))

      pub walk_on : reach n t c < lev t v → (j : ℕ) → j ≡ end n t c → Walked n t v j
      unfolding shut
      walk_on g j ej =
          let (k, e, x) = walk_child in
          record {
            later = λ d kd s.
                let r : i ≤ turn n t d = W.later d kd s in
                let y : T (child_of t v d) = and_l (child_of t v d) _ s in
                elim (dec_le j (turn n t d)) [
                  | yes b ↦ b
                  | no b ↦
                      let z : c ≡ d = child_above c d k kd x y ((above_range n t L c d k kd).1 (omega arith, omega arith)) in
                      absurd (omega (arith, leb→le (lev t v) (reach n t d) (and_r (child_of t v d) _ s), ap (reach n t) z))
                ];
            next = λ b. rw ej (behind_child c k x (omega arith));
          }

    pub walk_done : (i : ℕ) → Walked n t v i → end n t v ≤ i → false ≡ some (shut n t v) n
    walk_done i W l = sym (T_false (some (shut n t v) n) (λ s.
        let (c, k, x) = some_elim (shut n t v) n s in
        omega (arith, W.later c k x, child_range c k (shut_child c x), turn_end n t L c k)))

    -- Two children or more: the first one's turns end before v's.
    pub two_none : end n t v ≤ turn n t v + 1 → false ≡ leb 2 (count (child_of t v) n)
    two_none l = sym (T_false (leb 2 (count (child_of t v) n)) (λ s.
        let (a, b, g, kb, x, y) = count_two (child_of t v) n (leb→le 2 (count (child_of t v) n) s) in
        omega (arith, child_range b kb y, turn_end n t L b kb)))

    pub two_first : turn n t v + 1 < end n t v → (c : ℕ) → c ≡ at_turn n t (turn n t v + 1) → ltb (end n t c) (end n t v) ≡ leb 2 (count (child_of t v) n)
    two_first l c ec =
        let (k, e, x) = walk_child (turn n t v + 1) (walk_starts (turn n t v + 1) refl) l c ec in
        let only : end n t v ≤ end n t c → (d : ℕ) → d < n → T (child_of t v d) → c ≡ d =
        λ m d kd y. child_above c d k kd x y ((above_range n t L c d k kd).1 (omega (arith, child_range d kd y), omega (arith, child_range d kd y, turn_end n t L d kd))) in
        T_ext (ltb (end n t c) (end n t v)) (leb 2 (count (child_of t v) n))
        (λ s.
        let m : end n t c < end n t v = ltb→lt (end n t c) (end n t v) s in
        let (kd, ed) = turn_at_lem n t L (end n t c) (omega (arith, end_in_lem v h)) in
        let d = at_turn n t (end n t c) in
        le→leb 2 (count (child_of t v) n) (two_count (child_of t v) n c d (λ z. omega (arith, ap (turn n t) z, turn_end n t L c k)) k kd x (behind_child c k x m)))
        (λ s.
        let (a, b, g, kb, y, z) = count_two (child_of t v) n (leb→le 2 (count (child_of t v) n) s) in
        elim (dec_lt (end n t c) (end n t v)) [
          | yes m ↦ lt→ltb (end n t c) (end n t v) m
          | no m ↦ absurd (omega (arith, only (omega arith) a (omega arith) y, only (omega arith) b kb z))
        ])

-- Cut, by the children of a root and by those of any other.
module _ (n : ℕ) (t : Tables) where
  pub cut_root : (v : ℕ) → par t v ≡ v → leb 2 (count (child_of t v) n) ≡ cut n t v
  unfolding cut
  cut_root v e = rw (eq-eqb (par t v) v e, pick_true)

  pub cut_other : (v : ℕ) → (par t v ≡ v → ⊥) → some (shut n t v) n ≡ cut n t v
  unfolding cut shut
  cut_other v d = rw (ne_eqb (par t v) v d, pick_false)
