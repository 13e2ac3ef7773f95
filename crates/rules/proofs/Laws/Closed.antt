-- What a close keeps: the building invariant; and that it places at least one fragment. Part of a depth-first forest that leaves nothing
-- unplaced is one.
-- Assumes nothing.
use Rattle.std.specs.Prelude.{ℕ, zero, suc, ◌-◌, ◌<◌, ◌≤◌, ◌≡◌, refl, Bool, ◌⊎◌, ◌≢◌, T}
use Rattle.std.proofs.Common.{subst, inl, inr, arith}
use Rattle.std.proofs.Math.Decide.{ℕ_discrete}
use Rattle.base.specs.Truth.{T_dec}
use Rattle.rules.specs.Links.{Links, Among, Joined}
use Rattle.rules.specs.Forest.{DepthFirst, Over}
use Rattle.rules.specs.Search.{count}
use Rattle.rules.specs.Tables.{Tables, rank, placed, par, lev}
use Rattle.rules.specs.Building.{pieces, lost, done}
use Rattle.rules.specs.Facts.{Standing, Loose, OneWay, Free, Partial}
use Rattle.rules.proofs.Laws.Facts.{Learnt}
use Rattle.rules.proofs.Laws.Chain.{carry, wider}
use Rattle.rules.proofs.Laws.Search.{every_at, count_mono, count_yes, count_no}
use Rattle.rules.proofs.Laws.Up.{par_in, level_arrives, over_refl, over_lev, over_same, over_trans}
use Rattle.rules.proofs.Laws.Tables.{placed_loose, placed_or_loose, lev_rank, standing_levels}
use Rattle.rules.proofs.Laws.Kept.{kept_placed, kept_par, over_kept}
use Rattle.rules.proofs.Laws.Partial.{Of, label, Treated, Closing}
use Rattle.rules.proofs.Laws.Close.{placed_in, not_placed, one_way_kept, of_joined, joined_of, of_loose, label_of}

-- Where more pass, and one that did not, more are counted.
count_more : (p q : ℕ → Bool) (n v : ℕ) → v < n → (T (p v) → ⊥) → T (q v) → ((j : ℕ) → j < n → T (p j) → T (q j)) → count p n < count q n
count_more p q zero v h a b f = absurd (omega arith)
count_more p q (suc n) v h a b f = elim (ℕ_discrete v n) [
  | yes e ↦ omega (arith, count_no p n (rw e at a), count_yes q n (rw e at b), count_mono p q n (λ j l. f j (omega arith)))
  | no e ↦
      let r = count_more p q n v (omega arith) a b (λ j l. f j (omega arith)) in
      elim (T_dec (p n)) [
        | yes c ↦ omega (arith, count_yes p n c, count_yes q n (f n (omega arith) c))
        | no c ↦ elim (T_dec (q n)) [
          | yes d ↦ omega (arith, count_no p n c, count_yes q n d)
          | no d ↦ omega (arith, count_no p n c, count_no q n d)
        ]
      ]
]

-- All pieces of the told tables t are treated in s.
module _ {n k : ℕ} {E : Links} {t s : Tables} (S : Standing n t) (D : Learnt n k E t) (C : Closing n E t n s) where
  -- What became of an unplaced fragment's piece.
  treated_of : {p v : ℕ} → Of n t p v → Loose t v → Treated n E t s p
  treated_of {p} {v} (h, e) f =
      let o = label_of S D v h in
      subst (Treated n E t s) e (C.treated (label n t v) o.0 o.1 (of_loose S D (h, refl) o f))

  still_loose : (v : ℕ) → Loose s v → Loose t v
  still_loose v f = not_placed t v (λ p. placed_loose s v (kept_placed C.kept v p) f)

  -- An unplaced fragment is left only where its piece is lost.
  pub left_lost : (v : ℕ) → v < n → Loose s v → T (lost n t (pieces n t.held) (label n t v))
  left_lost v h f = elim (treated_of (h, refl) (still_loose v f)).shape [
    | inl (_, all, _) ↦ absurd (placed_loose s v (all v (h, refl)) f)
    | inr (c, _) ↦ c
  ]

  -- Where one is unplaced, one more is placed.
  pub close_grows : (v : ℕ) → v < n → Loose t v → count (placed t) n < count (placed s) n
  close_grows v h f =
      let R = treated_of (h, refl) f in
      count_more (placed t) (placed s) n R.top R.top_in.0
      (λ p. placed_loose t R.top p (of_loose S D (h, refl) R.top_in f)) R.top_placed (λ j l p. kept_placed C.kept j p)

  -- The invariant, for the links that were told.
  module _ (among : Among n E) (turn : (u v : ℕ) → T (E u v) → T (E v u)) (P : Partial n E t) where
    free_held : {p u v : ℕ} → Of n t p u → Of n t p v → Joined (Free E t) u v
    free_held o r = wider (λ x y h. let (_, _, _, f, g) = D.holding.ends x y h in (D.held_told x y h, f, g)) (of_joined S D o r)

    -- A placed neighbour of a piece is above all that is newly placed of it.
    above_new : {p u w : ℕ} (a : ℕ) → Of n t p u → Loose t u → T (placed s u) → Of n t p w → T (E w a) → T (placed t a) → Over (par s) (lev s) a u
    above_new {p} {u} {w} a ou fu pu ow e pa =
        let R = treated_of ou fu in
        let L = standing_levels C.standing in
        elim R.hangs [
          | inl f ↦ absurd (f w a ow e pa)
          | inr (q, H) ↦
              over_trans L a R.top u ou.0
              (over_trans L a q R.top R.top_in.0
              (over_kept S C.kept a q (placed_in S q H.hook_placed) H.hook_placed
              (higher a q (placed_in S a pa) (H.deepest w a ow e pa)
              (P.one_way w H.friend a q (free_held ow H.friend_in) (of_loose S D ou ow fu) e pa H.friend_link H.hook_placed)))
              H.hook_over)
              (R.under u ou pu)
        ]
      where
        higher : (a q : ℕ) → a < n → rank t a ≤ rank t q → OneWay t a q → Over (par t) (lev t) a q
        higher a q h g w = elim w [
          | inl o ↦ o
          | inr o ↦
              let L = standing_levels S in
              let same : q ≡ a = over_same L q a o (omega (arith, lev_rank t a, lev_rank t q, over_lev L q a h o)) in
              rw same (over_refl L a)
        ]

    own_piece : (v : ℕ) → T (placed s v) → Of n t (label n t v) v
    own_piece v p = (placed_in C.standing v p, refl)

    close_tree : (v : ℕ) → T (placed s v) → par s v ≢ v → T (E v (par s v))
    close_tree v p d = elim (placed_or_loose t v) [
      | inl q ↦ let e = kept_par C.kept v q in rw e (P.tree v q (rw e at d))
      | inr f ↦ (treated_of (own_piece v p) f).tree v (own_piece v p) p d
    ]

    -- Two newly placed fragments of one piece.
    inner : {p u v : ℕ} → Of n t p u → Of n t p v → Loose t u → Loose t v → T (E u v) → T (placed s u) → T (placed s v) → OneWay s u v
    inner {p} {u} {v} o r f g e pu pv = elim (treated_of o f).shape [
      | inl (c, _, spans) ↦ elim (D.told_held u v e f g) [
        | inl h ↦ spans u v o r h
        | inr h ↦ absurd (c (subst (λ (x : ℕ). T (lost n t (pieces n t.held) x)) o.1 h))
      ]
      | inr (_, path) ↦ path u v o r pu pv
    ]

    -- What is linked with a member is placed already, or a member.
    beside : {p u : ℕ} (a : ℕ) → Of n t p u → Loose t u → T (E u a) → T (placed t a) ⊎ (Of n t p a × Loose t a)
    beside {p} {u} a o f e = elim (placed_or_loose t a) [
      | inl q ↦ inl q
      | inr g ↦ inr (joined_of S D o (D.told_joined u a e f g), g)
    ]

    close_spans : (u v : ℕ) → T (E u v) → T (placed s u) → T (placed s v) → OneWay s u v
    close_spans u v e p q = elim (placed_or_loose t u) [
      | inl a ↦ elim (placed_or_loose t v) [
        | inl b ↦ one_way_kept S C.kept u v a b (P.spans u v e a b)
        | inr g ↦ inl (above_new u (own_piece v q) g q (own_piece v q) (turn u v e) a)
      ]
      | inr f ↦ let o = own_piece u p in elim (beside v o f e) [
        | inl b ↦ inr (above_new v o f p o e b)
        | inr (r, g) ↦ inner o r f g e p q
      ]
    ]

    close_one_way : (u v a b : ℕ) → Joined (Free E s) u v → Loose s u → T (E u a) → T (placed s a) → T (E v b) → T (placed s b) → OneWay s a b
    close_one_way u v a b c f ea pa eb pb =
        let o : Of n t (label n t u) u = ((among u a ea).0, refl) in
        let r : Of n t (label n t u) v = carry (Of n t (label n t u)) (λ x y (e, fx, fy) ox. joined_of S D ox (D.told_joined x y e (still_loose x fx) (still_loose y fy))) c o in
        let fu : Loose t u = still_loose u f in
        let fv : Loose t v = of_loose S D o r fu in
        let chain : Joined (Free E t) u v = wider (λ x y (e, fx, fy). (e, still_loose x fx, still_loose y fy)) c in
        elim (beside a o fu ea) [
          | inl qa ↦ elim (beside b r fv eb) [
            | inl qb ↦ one_way_kept S C.kept a b qa qb (P.one_way u v a b chain fu ea qa eb qb)
            | inr (rb, fb) ↦ inl (above_new a rb fb pb o ea qa)
          ]
          | inr (ra, fa) ↦ elim (beside b r fv eb) [
            | inl qb ↦ inr (above_new b ra fa pa r eb qb)
            | inr (rb, fb) ↦ elim (treated_of o fu).shape [
              | inl (_, all, _) ↦ absurd (placed_loose s u (all u o) f)
              | inr (_, path) ↦ path a b ra rb pa pb
            ]
          ]
        ]

    pub close_keeps : Partial n E s
    close_keeps = record { standing = C.standing; tree = close_tree; spans = close_spans; one_way = close_one_way }

-- Part of a depth-first forest where nothing is unplaced is one.
pub whole_forest : {n : ℕ} {E : Links} {t : Tables} → Among n E → Partial n E t → T (done n t) → DepthFirst n (par t) E
unfolding done
whole_forest {n} {E} {t} A P d =
    let L = standing_levels P.standing in
    record {
      inside = λ v h. par_in L v h;
      rooted = λ v h. (lev t v, level_arrives L v h);
      tree = λ v h e. P.tree v (every_at (placed t) n d v h) e;
      spans = λ u v e. let (h, g, _) = A u v e in elim (P.spans u v e (every_at (placed t) n d u h) (every_at (placed t) n d v g)) [
        | inl o ↦ inl (lev t v - lev t u, o)
        | inr o ↦ inr (lev t u - lev t v, o)
      ];
    }
