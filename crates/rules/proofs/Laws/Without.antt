-- Lists with a link or a fragment taken away, as sets; and that sole, cut and piece depend on the set alone.
-- Assumes nothing.
use Rattle.std.specs.Prelude.{ℕ, ◌≡◌, Bool, not, List, ◌⊎◌, ◌↔◌, T, eqb}
use Rattle.std.proofs.Common.{sym, ◌∙◌, inl, inr, arith, eqb→eq, T_not}
use Rattle.std.proofs.Math.Dec.{not_T}
use Rattle.base.specs.Truth.{or_l, or_r, or_cases, eq_to_eqb}
use Rattle.base.specs.Link.{Link}
use Rattle.rules.specs.Links.{SameSet, linked, between, Joined, JoinedBy}
use Rattle.rules.specs.Removal.{touches, without_link, without_fragment, Sole, Parts, Cut, Piece}
use Rattle.rules.proofs.Laws.Chain.{wider}
use Rattle.rules.proofs.Laws.Links.{between_elim, between_turn, linked_turn, joined_turn, keep_told, keep_in, keep_out}
use Rattle.rules.proofs.Laws.Removal.{Other, Off}

-- The list without a link tells the other links; without a fragment, those that do not end there.
without_link_lem : (a b : ℕ) (g : List Link) (u v : ℕ) → T (linked (without_link a b g) u v) ↔ Other (linked g) a b u v
without_link_lem a b g u v = (
  (λ q. (
    keep_told p g u v q,
    (λ e f. keep_out p g u v (λ l m k. T_not (between l a b) k (rw (e, f) at m)) q),
    (λ e f. keep_out p g u v (λ l m k. T_not (between l a b) k (between_turn l b a (rw (e, f) at m))) q),
  )),
  (λ (r, i, j). keep_in p g u v (λ (x, y) m. not_T (between (x, y) a b) (λ k. elim (between_elim x y u v m) [
    | inl (c, d) ↦ elim (between_elim x y a b k) [ inl (e, f) ↦ i (sym c ∙ e) (sym d ∙ f) | inr (e, f) ↦ j (sym c ∙ e) (sym d ∙ f) ]
    | inr (c, d) ↦ elim (between_elim x y a b k) [ inl (e, f) ↦ j (sym d ∙ f) (sym c ∙ e) | inr (e, f) ↦ i (sym d ∙ f) (sym c ∙ e) ]
  ])) r),
)
  where
    p : Link → Bool
    p l = not (between l a b)

touches_facts : (v x y : ℕ) → T (touches v (x, y)) ↔ ((x ≡ v) ⊎ (y ≡ v))
unfolding touches
touches_facts v x y = (
  (λ q. elim (or_cases (eqb x v) (eqb y v) q) [ inl a ↦ inl (eqb→eq x v a) | inr a ↦ inr (eqb→eq y v a) ]),
  (λ c. elim c [ inl e ↦ or_l (eqb x v) (eqb y v) (eq_to_eqb x v e) | inr e ↦ or_r (eqb x v) (eqb y v) (eq_to_eqb y v e) ]),
)

without_fragment_lem : (v : ℕ) (g : List Link) (u w : ℕ) → T (linked (without_fragment v g) u w) ↔ Off (linked g) v u w
without_fragment_lem v g u w = (
  (λ q. (
    keep_told p g u w q,
    (λ e. keep_out p g u w (λ l m k. T_not (touches v l) k (ends l m (inl e))) q),
    (λ e. keep_out p g u w (λ l m k. T_not (touches v l) k (ends l m (inr e))) q),
  )),
  (λ (r, i, j). keep_in p g u w (λ (x, y) m. not_T (touches v (x, y)) (λ k. elim (between_elim x y u w m) [
    | inl (c, d) ↦ elim ((touches_facts v x y).0 k) [ inl e ↦ i (sym c ∙ e) | inr e ↦ j (sym d ∙ e) ]
    | inr (c, d) ↦ elim ((touches_facts v x y).0 k) [ inl e ↦ j (sym c ∙ e) | inr e ↦ i (sym d ∙ e) ]
  ])) r),
)
  where
    p : Link → Bool
    p l = not (touches v l)

    ends : (l : Link) → T (between l u w) → (u ≡ v) ⊎ (w ≡ v) → T (touches v l)
    ends (x, y) m c = (touches_facts v x y).1 (elim (between_elim x y u w m) [
      | inl (i, j) ↦ elim c [ inl e ↦ inl (i ∙ e) | inr e ↦ inr (j ∙ e) ]
      | inr (i, j) ↦ elim c [ inl e ↦ inr (j ∙ e) | inr e ↦ inl (i ∙ e) ]
    ])

-- Chains without a link, or without a fragment.
pub chain_link : (a b : ℕ) (g : List Link) {u v : ℕ} → JoinedBy (linked (without_link a b g)) u v ↔ Joined (Other (linked g) a b) u v
chain_link a b g = ((λ c. wider (λ x y q. (without_link_lem a b g x y).0 q) c), (λ c. wider (λ x y q. (without_link_lem a b g x y).1 q) c))

pub chain_fragment : (v : ℕ) (g : List Link) {u w : ℕ} → JoinedBy (linked (without_fragment v g)) u w ↔ Joined (Off (linked g) v) u w
chain_fragment v g = ((λ c. wider (λ x y q. (without_fragment_lem v g x y).0 q) c), (λ c. wider (λ x y q. (without_fragment_lem v g x y).1 q) c))

pub sole_turn : (g : List Link) (a b : ℕ) → Sole g a b → Sole g b a
sole_turn g a b z = record {
  listed = linked_turn g a b z.listed;
  alone = λ c. z.alone (joined_turn (without_link a b g) ((chain_link a b g).1 (wider (λ x y (r, i, j). (r, j, i)) ((chain_link b a g).0 c))));
}

-- Lists of one set have the same sole links, cut fragments and pieces.
other_same : (g h : List Link) → SameSet g h → (a b : ℕ) {u v : ℕ} → Joined (Other (linked g) a b) u v → Joined (Other (linked h) a b) u v
other_same g h E a b c = wider (λ x y (r, i, j). ((rw (E x y) at r), i, j)) c

off_same : (g h : List Link) → SameSet g h → (v : ℕ) {u w : ℕ} → Joined (Off (linked g) v) u w → Joined (Off (linked h) v) u w
off_same g h E v c = wider (λ x y (r, i, j). ((rw (E x y) at r), i, j)) c

pub set_sole : (g h : List Link) → SameSet g h → (a b : ℕ) → Sole g a b → Sole h a b
set_sole g h E a b z = record {
  listed = rw (E a b) at z.listed;
  alone = λ c. z.alone ((chain_link a b g).1 (other_same h g (λ u v. sym (E u v)) a b ((chain_link a b h).0 c)));
}

set_parts : (g h : List Link) → SameSet g h → (v a b : ℕ) → Parts g v a b → Parts h v a b
set_parts g h E v a b z = record {
  joined = wider (λ x y r. (rw (E x y) at r)) z.joined;
  through = λ c. z.through ((chain_fragment v g).1 (off_same h g (λ u w. sym (E u w)) v ((chain_fragment v h).0 c)));
}

pub set_cut : (g h : List Link) → SameSet g h → (v : ℕ) → Cut g v → Cut h v
set_cut g h E v z = record { one = z.one; two = z.two; other_one = z.other_one; other_two = z.other_two; parts = set_parts g h E v z.one z.two z.parts }

pub set_piece : (g h : List Link) → SameSet g h → (v p q : ℕ) → Piece g v p → Piece h v q → p ≡ q
set_piece g h E v p q x y = omega (arith, x.smallest q (wider (λ u w r. (rw (sym (E u w)) at r)) y.joined), y.smallest p (wider (λ u w r. (rw (E u w) at r)) x.joined))
