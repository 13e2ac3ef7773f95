-- Laws of links between fragments, of the set that a list tells, and of the entries kept by a test.
-- Assumes nothing.
use Rattle.std.specs.Prelude.{ℕ, ◌<◌, ◌≡◌, refl, Bool, ◌&&◌, List, [], ◌∷◌, ◌++◌, ◌⊎◌, ◌≢◌, T, eqb}
use Rattle.std.proofs.Common.{sym, ◌∙◌, inl, inr, arith, eqb→eq}
use Rattle.base.specs.Truth.{and_intro, and_l, and_r, or_l, or_r, or_cases, T_dec, T_true, T_false, eq_to_eqb}
use Rattle.base.specs.Link.{Link}
use Rattle.rules.specs.Links.{between, linked, Among, JoinedBy}
use Rattle.rules.specs.Removal.{keep}
use Rattle.rules.proofs.Laws.Chain.{back}

pub between_elim : (a b u v : ℕ) → T (between (a, b) u v) → ((a ≡ u) × (b ≡ v)) ⊎ ((a ≡ v) × (b ≡ u))
unfolding between
between_elim a b u v t = elim (or_cases (eqb a u && eqb b v) (eqb a v && eqb b u) t) [
  | inl s ↦ inl (eqb→eq a u (and_l (eqb a u) (eqb b v) s), eqb→eq b v (and_r (eqb a u) (eqb b v) s))
  | inr s ↦ inr (eqb→eq a v (and_l (eqb a v) (eqb b u) s), eqb→eq b u (and_r (eqb a v) (eqb b u) s))
]

pub between_here : (a b : ℕ) → T (between (a, b) a b)
unfolding between
between_here a b = or_l (eqb a a && eqb b b) (eqb a b && eqb b a) (and_intro (eqb a a) (eqb b b) (eq_to_eqb a a refl) (eq_to_eqb b b refl))

pub between_turn : (l : Link) (u v : ℕ) → T (between l u v) → T (between l v u)
unfolding between
between_turn (a, b) u v t = elim (or_cases (eqb a u && eqb b v) (eqb a v && eqb b u) t) [
  | inl s ↦ or_r (eqb a v && eqb b u) (eqb a u && eqb b v) s
  | inr s ↦ or_l (eqb a v && eqb b u) (eqb a u && eqb b v) s
]

pub linked_nil : (u v : ℕ) → T (linked [] u v) → ⊥
unfolding linked
linked_nil u v t = t

pub linked_cases : (l : Link) (g : List Link) (u v : ℕ) → T (linked (l ∷ g) u v) → T (between l u v) ⊎ T (linked g u v)
unfolding linked
linked_cases l g u v t = or_cases (between l u v) (linked g u v) t

pub linked_head : (l : Link) (g : List Link) (u v : ℕ) → T (between l u v) → T (linked (l ∷ g) u v)
unfolding linked
linked_head l g u v t = or_l (between l u v) (linked g u v) t

pub linked_tail : (l : Link) (g : List Link) (u v : ℕ) → T (linked g u v) → T (linked (l ∷ g) u v)
unfolding linked
linked_tail l g u v t = or_r (between l u v) (linked g u v) t

pub linked_turn : (g : List Link) (u v : ℕ) → T (linked g u v) → T (linked g v u)
linked_turn [] u v t = absurd (linked_nil u v t)
linked_turn (l ∷ g) u v t = elim (linked_cases l g u v t) [
  | inl s ↦ linked_head l g v u (between_turn l u v s)
  | inr s ↦ linked_tail l g v u (linked_turn g u v s)
]

-- Two lists one after the other tell both sets.
pub append_cases : (g h : List Link) (u v : ℕ) → T (linked (g ++ h) u v) → T (linked g u v) ⊎ T (linked h u v)
append_cases [] h u v t = inr t
append_cases (l ∷ g) h u v t = elim (linked_cases l (g ++ h) u v t) [
  | inl s ↦ inl (linked_head l g u v s)
  | inr s ↦ elim (append_cases g h u v s) [
    | inl r ↦ inl (linked_tail l g u v r)
    | inr r ↦ inr r
  ]
]

pub append_left : (g h : List Link) (u v : ℕ) → T (linked g u v) → T (linked (g ++ h) u v)
append_left [] h u v t = absurd (linked_nil u v t)
append_left (l ∷ g) h u v t = elim (linked_cases l g u v t) [
  | inl s ↦ linked_head l (g ++ h) u v s
  | inr s ↦ linked_tail l (g ++ h) u v (append_left g h u v s)
]

pub append_right : (g h : List Link) (u v : ℕ) → T (linked h u v) → T (linked (g ++ h) u v)
append_right [] h u v t = t
append_right (l ∷ g) h u v t = linked_tail l (g ++ h) u v (append_right g h u v t)

-- A list and one entry more.
pub snoc_cases : (g : List Link) (l : Link) (u v : ℕ) → T (linked (g ++ (l ∷ [])) u v) → T (linked g u v) ⊎ T (between l u v)
snoc_cases g l u v t = elim (append_cases g (l ∷ []) u v t) [
  | inl s ↦ inl s
  | inr s ↦ elim (linked_cases l [] u v s) [ inl r ↦ inr r | inr r ↦ absurd (linked_nil u v r) ]
]

pub snoc_last : (g : List Link) (l : Link) (u v : ℕ) → T (between l u v) → T (linked (g ++ (l ∷ [])) u v)
snoc_last g l u v t = append_right g (l ∷ []) u v (linked_head l [] u v t)

pub joined_turn : (g : List Link) {u v : ℕ} → JoinedBy (linked g) u v → JoinedBy (linked g) v u
joined_turn g c = back (linked_turn g) c

-- The entries that a test keeps.
keep_yes : (p : Link → Bool) (l : Link) (g : List Link) → T (p l) → keep p (l ∷ g) ≡ l ∷ keep p g
unfolding keep
keep_yes p l g t = rw (T_true (p l) t)

keep_no : (p : Link → Bool) (l : Link) (g : List Link) → (T (p l) → ⊥) → keep p (l ∷ g) ≡ keep p g
unfolding keep
keep_no p l g t = rw (T_false (p l) t)

keep_nil : (p : Link → Bool) (u v : ℕ) → T (linked (keep p []) u v) → ⊥
unfolding keep linked
keep_nil p u v t = t

pub keep_told : (p : Link → Bool) (g : List Link) (u v : ℕ) → T (linked (keep p g) u v) → T (linked g u v)
keep_told p [] u v t = absurd (keep_nil p u v t)
keep_told p (l ∷ g) u v t = elim (T_dec (p l)) [
  | yes s ↦ elim (linked_cases l (keep p g) u v (rw (keep_yes p l g s) at t)) [
    | inl r ↦ linked_head l g u v r
    | inr r ↦ linked_tail l g u v (keep_told p g u v r)
  ]
  | no s ↦ linked_tail l g u v (keep_told p g u v (rw (keep_no p l g s) at t))
]

-- A link whose every entry passes stays, one whose every entry fails goes.
pub keep_in : (p : Link → Bool) (g : List Link) (u v : ℕ) → ((l : Link) → T (between l u v) → T (p l)) → T (linked g u v) → T (linked (keep p g) u v)
keep_in p [] u v f t = absurd (linked_nil u v t)
keep_in p (l ∷ g) u v f t = elim (T_dec (p l)) [
  | yes s ↦ rw (keep_yes p l g s) (elim (linked_cases l g u v t) [
    | inl r ↦ linked_head l (keep p g) u v r
    | inr r ↦ linked_tail l (keep p g) u v (keep_in p g u v f r)
  ])
  | no s ↦ rw (keep_no p l g s) (elim (linked_cases l g u v t) [
    | inl r ↦ absurd (s (f l r))
    | inr r ↦ keep_in p g u v f r
  ])
]

pub keep_out : (p : Link → Bool) (g : List Link) (u v : ℕ) → ((l : Link) → T (between l u v) → T (p l) → ⊥) → T (linked (keep p g) u v) → ⊥
keep_out p [] u v f t = keep_nil p u v t
keep_out p (l ∷ g) u v f t = elim (T_dec (p l)) [
  | yes s ↦ elim (linked_cases l (keep p g) u v (rw (keep_yes p l g s) at t)) [
    | inl r ↦ f l r s
    | inr r ↦ keep_out p g u v f r
  ]
  | no s ↦ keep_out p g u v f (rw (keep_no p l g s) at t)
]

-- A list whose every entry is between two fragments tells a set among them.
pub among_nil : (n : ℕ) → Among n (linked [])
among_nil n u v t = absurd (linked_nil u v t)

pub among_cons : (n a b : ℕ) (g : List Link) → a < n → b < n → a ≢ b → Among n (linked g) → Among n (linked ((a, b) ∷ g))
among_cons n a b g ha hb d f u v t = elim (linked_cases (a, b) g u v t) [
  | inl s ↦ elim (between_elim a b u v s) [
    | inl (e, q) ↦ (omega arith, omega arith, λ r. d (e ∙ r ∙ sym q))
    | inr (e, q) ↦ (omega arith, omega arith, λ r. d (e ∙ sym r ∙ sym q))
  ]
  | inr s ↦ f u v s
]
