-- Quotas of held links: sizes and counts through a held link, none held twice, and how many are held in all.
-- Assumes nothing.
use Prim.Native.Nat.{ℕ, zero, suc, ◌+◌, ◌*◌, ◌<◌, ◌≤◌, min, max}
use Rattle.std.specs.Prelude.{◌≡◌, refl, ◌&&◌, List, [], ◌∷◌, ◌++◌, ◌⊎◌, ◌≢◌, length, get_or, T, ltb}
use Rattle.std.proofs.Math.Path.{sym}
use Rattle.std.proofs.Common.{◌∙◌, inl, inr, arith, mul-add, mul-le-mul_left, mul-le-mul, T_not}
use Rattle.std.proofs.Math.Bool.{not}
use Rattle.std.proofs.Math.Decide.{ℕ_discrete, dec_le, dec_lt}
use Rattle.std.proofs.Math.Dec.{ltb→lt, lt→ltb, not_T}
use Rattle.base.specs.Truth.{and_intro, and_l, and_r, T_dec, T_ext}
use Rattle.base.specs.Link.{Link}
use Rattle.rules.specs.Links.{between, linked, tally, JoinedBy, Inside}
use Rattle.rules.specs.Search.{count}
use Rattle.rules.specs.Tables.{Tables, placed}
use Rattle.rules.specs.Facts.{Loose, Holding}
use Rattle.rules.proofs.Laws.Partial.{label}
use Rattle.rules.proofs.Laws.Chain.{carry}
use Rattle.rules.proofs.Laws.Tables.{placed_loose, placed_or_loose}
use Rattle.rules.specs.Building.{merged, pieces, member, size_of, held_in}
use Rattle.rules.proofs.Laws.Split.{bit, bit_yes, bit_no, bit_most, bit_parts, bit_under, count_suc, count_parts, tally_nil, tally_snoc, tally_parts, tally_same, tally_all, tally_none, by_between, between_flip}
use Rattle.rules.proofs.Laws.Search.{count_same, count_zero, count_le, some_count}
use Rattle.rules.proofs.Laws.Links.{linked_turn}
use Rattle.rules.proofs.Laws.Pieces.{merged_larger, merged_other, merged_one, merged_two, merged_inside, merged_keeps, pieces_snoc, member_intro, member_elim, label_in, label_joins, label_own}

-- A link's ends, smaller first.
pub sorted : (P : ℕ → ℕ → Type 0) (a b : ℕ) → P a b → P b a → P (min a b) (max a b)
sorted P a b p q = elim (dec_le a b) [
  | yes h ↦
      let e : min a b ≡ a = omega arith in
      let f : max a b ≡ b = omega arith in
      rw (e, f) p
  | no h ↦
      let e : min a b ≡ b = omega arith in
      let f : max a b ≡ a = omega arith in
      rw (e, f) q
]

-- A link that joins two pieces: its piece has the members and the held links of both, and no other piece changes.
module _ (a b : ℕ) (l : List ℕ) (apart : get_or l a 0 ≢ get_or l b 0) where
  -- Its label is one of the two that a member had.
  merged_either : (v : ℕ) → get_or (merged (a, b) l) v 0 ≡ min (get_or l a 0) (get_or l b 0) → (get_or l v 0 ≡ get_or l a 0) ⊎ (get_or l v 0 ≡ get_or l b 0)
  merged_either v e = elim (ℕ_discrete (get_or l v 0) (get_or l a 0)) [
    | yes q ↦ inl q
    | no q ↦ elim (ℕ_discrete (get_or l v 0) (max (get_or l a 0) (get_or l b 0))) [
      | yes r ↦ inr (omega arith)
      | no r ↦ inr (omega (arith, merged_other a b l v r))
    ]
  ]

  pub member_join : (v : ℕ) → bit (member (merged (a, b) l) (min (get_or l a 0) (get_or l b 0)) v) ≡ bit (member l (get_or l a 0) v) + bit (member l (get_or l b 0) v)
  member_join v =
      bit_parts _ _ _
      (λ t. elim (merged_either v (member_elim (merged (a, b) l) _ v t)) [ inl e ↦ inl (member_intro l _ v e) | inr e ↦ inr (member_intro l _ v e) ])
      (λ t. member_intro (merged (a, b) l) _ v (merged_keeps a b l v a (member_elim l _ v t) ∙ merged_one a b l))
      (λ t. member_intro (merged (a, b) l) _ v (merged_keeps a b l v b (member_elim l _ v t) ∙ merged_two a b l))
      (λ s t. apart (sym (member_elim l _ v s) ∙ member_elim l _ v t))

  pub member_other : (p v : ℕ) → p ≢ get_or l a 0 → p ≢ get_or l b 0 → member (merged (a, b) l) p v ≡ member l p v
  member_other p v f g = elim (ℕ_discrete (get_or l v 0) (max (get_or l a 0) (get_or l b 0))) [
    | yes q ↦ T_ext _ _
        (λ t. absurd (omega (arith, merged_larger a b l v q, member_elim (merged (a, b) l) p v t)))
        (λ t. absurd (omega (arith, member_elim l p v t)))
    | no q ↦ T_ext _ _
        (λ t. member_intro l p v (sym (merged_other a b l v q) ∙ member_elim (merged (a, b) l) p v t))
        (λ t. member_intro (merged (a, b) l) p v (merged_other a b l v q ∙ member_elim l p v t))
  ]

  pub size_join : (n : ℕ) → size_of n (merged (a, b) l) (min (get_or l a 0) (get_or l b 0)) ≡ size_of n l (get_or l a 0) + size_of n l (get_or l b 0)
  unfolding size_of
  size_join n = count_parts _ _ _ n (λ v h. member_join v)

  pub size_other : (n p : ℕ) → p ≢ get_or l a 0 → p ≢ get_or l b 0 → size_of n (merged (a, b) l) p ≡ size_of n l p
  unfolding size_of
  size_other n p f g = count_same _ _ n (λ v h. member_other p v f g)

  pub held_in_join : (held : List Link) → held_in (merged (a, b) l) held (min (get_or l a 0) (get_or l b 0)) ≡ held_in l held (get_or l a 0) + held_in l held (get_or l b 0)
  unfolding held_in
  held_in_join held = tally_parts _ _ _ held (λ e h. member_join e.0)

  pub held_in_other : (held : List Link) (p : ℕ) → p ≢ get_or l a 0 → p ≢ get_or l b 0 → held_in (merged (a, b) l) held p ≡ held_in l held p
  unfolding held_in
  held_in_other held p f g = tally_same _ _ held (λ e h. member_other p e.0 f g)

-- One more held link counts in the piece of its first end, and in no other.
pub held_in_more : (l : List ℕ) (held : List Link) (a b p : ℕ) → get_or l a 0 ≡ p → held_in l (held ++ ((a, b) ∷ [])) p ≡ suc (held_in l held p)
unfolding held_in
held_in_more l held a b p e = omega (arith, tally_snoc (λ e. member l p e.0) held (a, b), bit_yes (member l p a) (member_intro l p a e))

pub held_in_as : (l : List ℕ) (held : List Link) (a b p : ℕ) → get_or l a 0 ≢ p → held_in l (held ++ ((a, b) ∷ [])) p ≡ held_in l held p
unfolding held_in
held_in_as l held a b p d = omega (arith, tally_snoc (λ e. member l p e.0) held (a, b), bit_no (member l p a) (λ t. d (member_elim l p a t)))

-- No link is held twice.
abbrev pub Once : List Link → Type 0
Once held = (u v : ℕ) → tally (λ e. between e u v) held ≤ 1

-- 'at most k·s - 1 in a piece of s'
abbrev pub Quota : ℕ → ℕ → List Link → Type 0
Quota n k held = (v : ℕ) → v < n → suc (held_in (pieces n held) held (get_or (pieces n held) v 0)) ≤ k * size_of n (pieces n held) (get_or (pieces n held) v 0)

-- Nothing held: every piece has room for one link less than k for each member.
pub quota_nil : (n k : ℕ) → 1 ≤ k → Quota n k []
unfolding held_in size_of
quota_nil n k h v i =
    let l : List ℕ = pieces n [] in
    let s : 1 ≤ count (member l (get_or l v 0)) n = some_count _ n v i (member_intro l _ v refl) in
    omega (arith, tally_nil (λ e. member l (get_or l v 0) e.0), mul-le-mul h s)

module _ (n k a b : ℕ) (held : List Link) (quota : Quota n k held) (ha : a < n) (hb : b < n) where
  -- A link between two pieces fits always.
  pub quota_join : get_or (pieces n held) a 0 ≢ get_or (pieces n held) b 0 → Quota n k (held ++ ((a, b) ∷ []))
  quota_join apart v hv =
      let l : List ℕ = pieces n held in
      let L : List ℕ = merged (a, b) l in
      rw pieces_snoc (elim (ℕ_discrete (get_or L v 0) (min (get_or l a 0) (get_or l b 0))) [
        | yes q ↦ rw (q, held_in_more L held a b _ (merged_one a b l), held_in_join a b l apart held, size_join a b l apart n, mul-add) (omega (arith, quota a ha, quota b hb))
        | no q ↦
            let d : get_or l v 0 ≢ max (get_or l a 0) (get_or l b 0) = λ e. q (merged_larger a b l v e) in
            let e : get_or L v 0 ≡ get_or l v 0 = merged_other a b l v d in
            let f : get_or l v 0 ≢ get_or l a 0 = omega arith in
            let g : get_or l v 0 ≢ get_or l b 0 = omega arith in
            rw (e, held_in_as L held a b _ (λ r. q (e ∙ sym r ∙ merged_one a b l)), held_in_other a b l apart held _ f g, size_other a b l apart n _ f g) (quota v hv)
      ])

  -- A link inside a piece fits where there is room.
  pub quota_fill : get_or (pieces n held) a 0 ≡ get_or (pieces n held) b 0 → suc (suc (held_in (pieces n held) held (get_or (pieces n held) a 0))) ≤ k * size_of n (pieces n held) (get_or (pieces n held) a 0) → Quota n k (held ++ ((a, b) ∷ []))
  quota_fill same room v hv = rw pieces_snoc (rw (merged_inside a b (pieces n held) same) (elim (ℕ_discrete (get_or (pieces n held) a 0) (get_or (pieces n held) v 0)) [
    | yes q ↦ rw (held_in_more (pieces n held) held a b _ q) (rw (← q) room)
    | no q ↦ rw (held_in_as (pieces n held) held a b _ q) (quota v hv)
  ]))

-- A link that is not held may be.
pub once_more : (held : List Link) (a b : ℕ) → Once held → (T (linked held a b) → ⊥) → Once (held ++ ((a, b) ∷ []))
once_more held a b once new u v = elim (T_dec (between (a, b) u v)) [
  | yes t ↦ omega (arith, tally_snoc (λ e. between e u v) held (a, b), bit_most (between (a, b) u v), tally_none (λ e. between e u v) held (λ (c, d) h s. new (by_between (λ x y. T (linked held x y)) (linked_turn held) u v a b (between_flip a b u v t) (by_between (λ x y. T (linked held x y)) (linked_turn held) c d u v s h))))
  | no t ↦ omega (arith, tally_snoc (λ e. between e u v) held (a, b), bit_no (between (a, b) u v) t, once u v)
]

-- A label below suc m is below m or m.
next_label : (l : List ℕ) (m v : ℕ) → bit (ltb (get_or l v 0) (suc m)) ≡ bit (ltb (get_or l v 0) m) + bit (member l m v)
next_label l m v =
    let x : ℕ = get_or l v 0 in
    bit_parts _ _ _
    (λ s. elim (dec_lt x m) [ yes h ↦ inl (lt→ltb x m h) | no h ↦ inr (member_intro l m v (omega (arith, ltb→lt x (suc m) s))) ])
    (λ s. lt→ltb x (suc m) (omega (arith, ltb→lt x m s)))
    (λ s. lt→ltb x (suc m) (omega (arith, member_elim l m v s)))
    (λ r s. omega (arith, ltb→lt x m r, member_elim l m v s))

-- The whole table: the links of the pieces with labels below a bound.
module _ (n k : ℕ) (t : Tables) (H : Holding n k t) where
  inside : Inside n t.held
  inside u v s = ((H.ends u v s).0, (H.ends u v s).1)

  -- What is joined with an unplaced fragment is unplaced.
  pub joined_loose : (u v : ℕ) → JoinedBy (linked t.held) u v → Loose t u → Loose t v
  joined_loose u v c e = carry (λ w. Loose t w) (λ x y s i. (H.ends x y s).4) c e

  below : ℕ → ℕ
  below m = tally (λ e. ltb (label n t e.0) m) t.held

  members : ℕ → ℕ
  members m = count (λ v. not (placed t v) && ltb (label n t v) m) n

  firsts : ℕ → ℕ
  firsts m = count (λ v. not (placed t v) && member (pieces n t.held) v v) m

  here_members : ℕ → ℕ
  here_members m = count (λ v. not (placed t v) && member (pieces n t.held) m v) n

  below_zero : below 0 ≡ 0
  unfolding below
  below_zero = tally_none _ t.held (λ e h s. omega (arith, ltb→lt (label n t e.0) 0 s))

  below_all : below n ≡ length t.held
  unfolding below
  below_all = tally_all _ t.held (λ e h. lt→ltb _ n (label_in n t.held inside e.0 (inside e.0 e.1 h).0))

  members_all : members n ≡ count (λ v. not (placed t v)) n
  unfolding members
  members_all = count_same _ _ n (λ v h. T_ext _ _
      (and_l (not (placed t v)) (ltb (label n t v) n))
      (λ s. and_intro (not (placed t v)) (ltb (label n t v) n) s (lt→ltb _ n (label_in n t.held inside v h))))

  below_suc : (m : ℕ) → below (suc m) ≡ below m + held_in (pieces n t.held) t.held m
  unfolding below held_in
  below_suc m = tally_parts _ _ _ t.held (λ e h. next_label (pieces n t.held) m e.0)

  members_suc : (m : ℕ) → members (suc m) ≡ members m + here_members m
  unfolding members here_members
  members_suc m = count_parts _ _ _ n (λ v h. bit_under (not (placed t v)) _ _ _ (next_label (pieces n t.held) m v))

  -- A piece of unplaced fragments keeps its quota; where m is no such piece's label, nothing is held for it.
  piece_size : (m : ℕ) → m < n → Loose t m → label n t m ≡ m → here_members m ≡ size_of n (pieces n t.held) m
  unfolding here_members size_of
  piece_size m h e o = count_same _ _ n (λ v hv. T_ext _ _
      (and_r (not (placed t v)) (member (pieces n t.held) m v))
      (λ s. and_intro (not (placed t v)) (member (pieces n t.held) m v) (not_T (placed t v) (λ q. placed_loose t v q
      (joined_loose m v (label_joins n t.held inside m v h hv (o ∙ sym (member_elim (pieces n t.held) m v s))) e))) s))

  piece_none : (m : ℕ) → m < n → (T (not (placed t m) && member (pieces n t.held) m m) → ⊥) → held_in (pieces n t.held) t.held m ≡ 0
  unfolding held_in
  piece_none m h f = tally_none _ t.held (λ (c, d) s q.
      let i : (c < n) × (d < n) × (c ≢ d) × Loose t c × Loose t d = H.ends c d s in
      let e : label n t c ≡ m = member_elim (pieces n t.held) m c q in
      let o : label n t m ≡ m = rw e at (label_own n t.held inside c i.0) in
      let z : Loose t m = joined_loose c m (label_joins n t.held inside c m i.0 h (e ∙ sym o)) i.3 in
      f (and_intro (not (placed t m)) (member (pieces n t.held) m m) (not_T (placed t m) (λ r. placed_loose t m r z)) (member_intro (pieces n t.held) m m o)))

  piece_most : (m : ℕ) → m < n → held_in (pieces n t.held) t.held m + bit (not (placed t m) && member (pieces n t.held) m m) ≤ k * here_members m
  piece_most m h = elim (T_dec (not (placed t m) && member (pieces n t.held) m m)) [
    | yes s ↦
        let o : label n t m ≡ m = member_elim (pieces n t.held) m m (and_r (not (placed t m)) (member (pieces n t.held) m m) s) in
        let z : Loose t m = elim (placed_or_loose t m) [ inl q ↦ absurd (T_not (placed t m) (and_l (not (placed t m)) (member (pieces n t.held) m m) s) q) | inr q ↦ q ] in
        rw (piece_size m h z o) (omega (arith, bit_most (not (placed t m) && member (pieces n t.held) m m), rw o at (H.quota m h)))
    | no s ↦ omega (arith, piece_none m h s, bit_no (not (placed t m) && member (pieces n t.held) m m) s)
  ]

  most : (m : ℕ) → m ≤ n → below m + firsts m ≤ k * members m
  unfolding firsts
  most zero h = omega (arith, below_zero, count_zero (λ v. not (placed t v) && member (pieces n t.held) v v))
  most (suc m) h = rw (below_suc m, members_suc m, mul-add)
      (omega (arith, count_suc (λ v. not (placed t v) && member (pieces n t.held) v v) m, most m (omega arith), piece_most m (omega arith)))

  -- Every held link is of a piece of unplaced fragments, and each piece has one link less than its quota.
  pub held_most_lem : length t.held + count (λ v. not (placed t v) && member (pieces n t.held) v v) n ≤ k * count (λ v. not (placed t v)) n
  unfolding firsts
  held_most_lem = rw (← below_all, ← members_all) (most n (omega arith))

  pub held_few : length t.held ≤ k * n
  held_few = omega (arith, held_most_lem, mul-le-mul_left k (count_le (λ v. not (placed t v)) n))
