-- One close: what it makes of one piece, and of all pieces one after another.
-- Assumes nothing.
use Prim.Native.Nat.{ℕ, zero, suc, ◌-◌, ◌<◌, ◌≤◌}
use Rattle.std.specs.Prelude.{◌≡◌, ◌&&◌, List, ◌⊎◌, ◌≢◌, get_or, T, ltb}
use Rattle.std.proofs.Math.Path.{refl}
use Rattle.std.proofs.Common.{sym, ap, ◌∙◌, subst, inl, inr, arith, T_not}
use Rattle.std.proofs.Math.Bool.{not}
use Rattle.std.proofs.Math.Decide.{ℕ_discrete, dec_lt, dec_le}
use Rattle.std.proofs.Math.ListN.{get_or-eq_default}
use Rattle.std.proofs.Math.Dec.{not_T, eqb-suc-zero}
use Rattle.base.specs.Pick.{pick}
use Rattle.base.specs.Truth.{and_intro, and_l, and_r, T_dec, T_true, T_false}
use Rattle.base.specs.Link.{Link}
use Rattle.rules.specs.Links.{Links, linked, Among, JoinedBy, here, Inside}
use Rattle.rules.specs.Search.{some}
use Rattle.rules.specs.Tables.{Tables, parent_of, rank, note_of, mark_of, placed, par, lev}
use Rattle.rules.specs.Building.{Walk, pieces, member, lost, noted, top_of, hang, walked, place_path, place_walk, place_piece, place_from, place_pieces}
use Rattle.rules.specs.Forest.{Levels, Over}
use Rattle.rules.specs.Facts.{Standing, Loose, Ready, Walked, OneWay}
use Rattle.rules.proofs.Laws.Facts.{Learnt}
use Rattle.rules.proofs.Laws.Chain.{carry}
use Rattle.rules.proofs.Laws.Up.{over_par, over_meet}
use Rattle.rules.proofs.Laws.Tables.{placed_rank, rank_placed, placed_loose, placed_or_loose, par_placed, same_note_of, parent_of_place_same, standing_levels}
use Rattle.rules.proofs.Laws.Pieces.{label_joined, joined_label, label_joins, joined_in, member_intro, member_elim}
use Rattle.rules.proofs.Laws.Kept.{Kept, kept_placed, kept_par, over_kept, over_before}
use Rattle.rules.proofs.Laws.Walk.{walk}
use Rattle.rules.proofs.Laws.Path.{Hung, hung, hung_ready, OnPath, PathPlaced, path_placed}
use Rattle.rules.proofs.Laws.Noted.{top_none, top_noted, noted_deep}
use Rattle.rules.proofs.Laws.Partial.{Of, label, Hook, Shape, Treated, Closing}

-- Only a fragment is placed.
pub placed_in : {n : ℕ} {t : Tables} → Standing n t → (v : ℕ) → T (placed t v) → v < n
unfolding rank
placed_in {n} {t} S v p = elim (dec_lt v n) [
  | yes h ↦ h
  | no h ↦ absurd (placed_loose t v p (get_or-eq_default t.level 0 (omega (arith, S.long_level))))
]

pub not_placed : (t : Tables) (v : ℕ) → (T (placed t v) → ⊥) → Loose t v
not_placed t v f = elim (placed_or_loose t v) [ inl p ↦ absurd (f p) | inr e ↦ e ]

module _ {n : ℕ} {s t : Tables} (S : Standing n s) (K : Kept s t) (u v : ℕ) (p : T (placed s u)) (q : T (placed s v)) where
  pub one_way_kept : OneWay s u v → OneWay t u v
  one_way_kept w = elim w [ inl o ↦ inl (over_kept S K u v (placed_in S v q) q o) | inr o ↦ inr (over_kept S K v u (placed_in S u p) p o) ]

  pub one_way_before : OneWay t u v → OneWay s u v
  one_way_before w = elim w [ inl o ↦ inl (over_before S K u v (placed_in S v q) q o) | inr o ↦ inr (over_before S K v u (placed_in S u p) p o) ]

kept_refl : (t : Tables) → Kept t t
kept_refl t = record { parent = λ v p. refl; level = λ v p. refl }

-- Two above a third lie on one way.
over_one_way : {n : ℕ} {p l : ℕ → ℕ} → Levels n p l → {u v b : ℕ} → b < n → Over p l u b → Over p l v b → Over p l u v ⊎ Over p l v u
over_one_way {n} {p} {l} L {u} {v} {b} h o r = elim (dec_le (l u) (l v)) [
  | yes g ↦ inl (over_meet L u v b h o r g)
  | no g ↦ inr (over_meet L v u b h r o (omega arith))
]

-- Equal lists join the same.
joined_by : {g h : List Link} {u v : ℕ} → g ≡ h → JoinedBy (linked g) u v → JoinedBy (linked h) u v
joined_by {g} {h} {u} {v} e c = subst (λ (x : List Link). JoinedBy (linked x) u v) e c

linked_by : {g h : List Link} → g ≡ h → (u v : ℕ) → T (linked g u v) → T (linked h u v)
linked_by e u v c = subst (λ (x : List Link). T (linked x u v)) e c

-- What is treated stays so where its members stay and nothing placed changes.
pub treated_kept : {n : ℕ} {E : Links} {t s s' : Tables} {p : ℕ} → Standing n s → Kept s s' → ((v : ℕ) → Of n t p v → rank s' v ≡ rank s v) → Treated n E t s p → Treated n E t s' p
treated_kept {n} {E} {t} {s} {s'} {p} S K same R = record {
  top = R.top;
  top_in = R.top_in;
  top_placed = kept_placed K R.top R.top_placed;
  under = λ v o q. let q' = before v o q in over_kept S K R.top v o.0 q' (R.under v o q');
  hangs = elim R.hangs [
    | inl f ↦ inl f
    | inr (q, h) ↦ inr (
      q,
      record {
        hook_placed = h.hook_placed;
        hook_over = over_kept S K q R.top R.top_in.0 R.top_placed h.hook_over;
        friend = h.friend;
        friend_in = h.friend_in;
        friend_link = h.friend_link;
        deepest = h.deepest;
      },
    )
  ];
  tree = λ v o q d. let e = kept_par K v (before v o q) in rw e (R.tree v o (before v o q) (λ f. d (e ∙ f)));
  shape = elim R.shape [
    | inl (a, b, c) ↦ inl (a, λ v o. kept_placed K v (b v o), λ u v o r h. one_way_kept S K u v (b u o) (b v r) (c u v o r h))
    | inr (a, c) ↦ inr (a, λ u v o r q q'. let f = before u o q in let g = before v r q' in one_way_kept S K u v f g (c u v o r f g))
  ];
}
  where
    before : (v : ℕ) → Of n t p v → T (placed s' v) → T (placed s v)
    before v o q = rank_placed s v (omega (arith, placed_rank s' v q, same v o))

-- Where the close in the tables s comes to the piece m: the note, the top, the top hung, the walk, and the tables with only its path placed.
abbrev pub note_at : ℕ → Tables → ℕ → Tables → ℕ
note_at n t m s = noted s (pieces n t.held) m n

abbrev pub top_at : ℕ → Tables → ℕ → Tables → ℕ
top_at n t m s = top_of n s (pieces n t.held) m

abbrev pub hung_at : ℕ → Tables → ℕ → Tables → Tables
hung_at n t m s = hang (top_at n t m s) (note_at n t m s) s

abbrev pub walk_at : ℕ → Tables → ℕ → Tables → Walk
walk_at n t m s = walked n (top_at n t m s) (hung_at n t m s)

abbrev pub path_at : ℕ → Tables → ℕ → Tables → Tables
path_at n t m s = let w = walk_at n t m s in place_path w.tables (rank w.tables w.deepest - rank w.tables (top_at n t m s)) w.deepest s

module _ {n : ℕ} {s : Tables} (S : Standing n s) (top note : ℕ) where
  pub hang_root : top < n → note ≡ 0 → parent_of (hang top note s) top ≡ top
  unfolding hang pick
  hang_root h e = rw e (parent_of_place_same top top 1 s (omega (arith, S.long_parent)))

  pub hang_under : (q : ℕ) → top < n → note ≡ suc q → parent_of (hang top note s) top ≡ q
  unfolding hang pick
  hang_under q h e = rw (e, eqb-suc-zero q) (parent_of_place_same top q (suc (rank s q)) s (omega (arith, S.long_parent)))

pub lost_same : (n : ℕ) (s t : Tables) (l : List ℕ) (p : ℕ) → s.mark ≡ t.mark → lost n s l p ≡ lost n t l p
unfolding lost mark_of
lost_same n s t l p e = ap (λ (x : List ℕ). some (λ v. member l p v && ltb 0 (get_or x v 0)) n) e

-- The pieces of told tables.
module _ {n k : ℕ} {E : Links} {t : Tables} (S : Standing n t) (D : Learnt n k E t) where
  among_held : Among n (linked t.held)
  among_held u v h = let (a, b, c, _, _) = D.holding.ends u v h in (a, b, c)

  inside : Inside n t.held
  inside u v h = let (a, b, _, _, _) = D.holding.ends u v h in (a, b)

  -- Members of one piece are joined,
  pub of_joined : {p u v : ℕ} → Of n t p u → Of n t p v → JoinedBy (linked t.held) u v
  of_joined {p} {u} {v} (h, e) (g, f) = label_joins n t.held inside u v h g (e ∙ sym f)

  -- what is joined with a member is one,
  pub joined_of : {p u v : ℕ} → Of n t p u → JoinedBy (linked t.held) u v → Of n t p v
  joined_of {p} {u} {v} (h, e) c = (joined_in n t.held inside u v c h, sym (joined_label n t.held inside u v c) ∙ e)

  -- and none or all are unplaced.
  pub of_loose : {p u v : ℕ} → Of n t p u → Of n t p v → Loose t u → Loose t v
  of_loose o r = carry (Loose t) (λ u v h _. (D.holding.ends u v h).4) (of_joined o r)

  pub label_of : (v : ℕ) → v < n → Of n t (label n t v) (label n t v)
  label_of v h = joined_of (h, refl) (label_joined n t.held inside v h)

  -- Pieces other than m are treated, and so is now m.
  closes : {m : ℕ} {s s' : Tables} → m < n → Closing n E t m s → (Of n t m m → Loose t m → ⊥) ⊎ Treated n E t s' m
      → Standing n s' → s'.note ≡ s.note → s'.mark ≡ s.mark → s'.held ≡ s.held → s'.crossed ≡ s.crossed
      → ((v : ℕ) → v < n → (label n t v ≢ m) ⊎ T (placed t v) → (parent_of s' v ≡ parent_of s v) × (rank s' v ≡ rank s v))
      → ((v : ℕ) → Loose s' v → parent_of s' v ≡ parent_of s v)
      → Closing n E t (suc m) s'
  closes {m} {s} {s'} hm C R S' en em eh ec off free = record {
    standing = S';
    same_note = en ∙ C.same_note;
    same_mark = em ∙ C.same_mark;
    same_held = eh ∙ C.same_held;
    same_crossed = ec ∙ C.same_crossed;
    kept = record {
      parent = λ v p. (off v (placed_in S v p) (inr p)).0 ∙ C.kept.parent v p;
      level = λ v p. (off v (placed_in S v p) (inr p)).1 ∙ C.kept.level v p;
    };
    rest_parent = λ v h g. (off v h (inl (λ e. omega arith))).0 ∙ C.rest_parent v h (omega arith);
    rest_rank = λ v h g. (off v h (inl (λ e. omega arith))).1 ∙ C.rest_rank v h (omega arith);
    loose_parent = λ v f. free v f ∙ C.loose_parent v (not_placed s v (λ p. placed_loose s' v (kept_placed keeps v p) f));
    treated = λ p h e f. elim (ℕ_discrete p m) [
      | yes q ↦ rw q (elim R [ inl f' ↦ absurd (f' (hm, rw q at e) (rw q at f)) | inr r ↦ r ])
      | no q ↦ treated_kept C.standing keeps (λ v o. (off v o.0 (inl (λ g. omega (arith, o.1)))).1) (C.treated p (omega arith) e f)
    ];
  }
    where
      either : (v : ℕ) → T (placed s v) → (label n t v ≢ m) ⊎ T (placed t v)
      either v p = elim (ℕ_discrete (label n t v) m) [
        | yes e ↦ inr (rank_placed t v (omega (arith, placed_rank s v p, C.rest_rank v (placed_in C.standing v p) (omega arith))))
        | no e ↦ inl e
      ]

      keeps : Kept s s'
      keeps = record {
        parent = λ v p. (off v (placed_in C.standing v p) (either v p)).0;
        level = λ v p. (off v (placed_in C.standing v p) (either v p)).1;
      }

  -- The close comes to the piece m.
  module _ {m : ℕ} {s : Tables} (C : Closing n E t m s) (own : Of n t m m) (bare : Loose t m) where
    note_same : (v : ℕ) → note_of s v ≡ note_of t v
    note_same v = same_note_of s t C.same_note v

    pub loose_in : (v : ℕ) → Of n t m v → Loose s v
    loose_in v o = C.rest_rank v o.0 (omega (arith, o.1)) ∙ of_loose own o bare

    pub top_of_lem : Of n t m (top_at n t m s)
    top_of_lem = go (note_at n t m s) refl
      where
        go : (x : ℕ) → note_at n t m s ≡ x → Of n t m (top_at n t m s)
        go zero e = rw (top_none s (pieces n t.held) m n e) own
        go (suc q) e = let (h, c, _) = top_noted s (pieces n t.held) m n q e in (h, member_elim (pieces n t.held) m (top_at n t m s) c)

    -- What the top hangs under,
    under_note : (q : ℕ) → note_at n t m s ≡ suc q → T (placed t q) × T (E (top_at n t m s) q)
    under_note q e =
        let (_, _, f) = top_noted s (pieces n t.held) m n q e in
        let (_, _, _, p, h) = D.note_of_lem (top_at n t m s) q (sym (note_same (top_at n t m s)) ∙ f) in
        (p, h)

    -- and no placed neighbour of a member is deeper.
    note_deepest : (u a : ℕ) → Of n t m u → T (E u a) → T (placed t a) → (q : ℕ) × (note_at n t m s ≡ suc q) × (rank t a ≤ rank t q)
    note_deepest u a o h p =
        let (x, e, g) = D.note_best u a h (of_loose own o bare) p in
        let (q, f, d) = noted_deep s (pieces n t.held) m n u x o.0 (member_intro (pieces n t.held) m u o.1) (note_same u ∙ e) in
        let (_, _, _, px, _) = D.note_of_lem u x e in
        (q, f, omega (arith, C.kept.level x px, C.kept.level q (under_note q f).0))

    pub hung_at_lem : Hung n (top_at n t m s) s (hung_at n t m s)
    hung_at_lem = hung n (top_at n t m s) (note_at n t m s) s C.standing top_of_lem.0 (loose_in (top_at n t m s) top_of_lem)
        (λ p e. let q = (under_note p e).0 in (placed_in S p q, kept_placed C.kept p q))

    -- A member of the piece is unplaced.
    outside : (v : ℕ) → (label n t v ≢ m) ⊎ T (placed t v) → Of n t m v → ⊥
    outside v d o = elim d [ inl f ↦ f o.1 | inr p ↦ placed_loose t v p (of_loose own o bare) ]

    loose_joined : (v : ℕ) → JoinedBy (linked s.held) (top_at n t m s) v → Loose s v
    loose_joined v c = loose_in v (joined_of top_of_lem (joined_by C.same_held c))

    among_now : Among n (linked s.held)
    among_now = subst (λ (x : List Link). Among n (linked x)) (sym C.same_held) among_held

    pub ready_at : Ready n (top_at n t m s) (hung_at n t m s)
    ready_at = hung_ready C.standing among_now loose_joined hung_at_lem

    pub walked_at : Walked n (top_at n t m s) (hung_at n t m s) (walk_at n t m s).tables (walk_at n t m s).deepest
    walked_at = walk n (top_at n t m s) (hung_at n t m s) ready_at

    held_at : (hung_at n t m s).held ≡ t.held
    held_at = hung_at_lem.same_held ∙ C.same_held

    of_reached : (v : ℕ) → Of n t m v → JoinedBy (linked (hung_at n t m s).held) (top_at n t m s) v
    of_reached v o = joined_by (sym held_at) (of_joined top_of_lem o)

    reached_of : (v : ℕ) → JoinedBy (linked (hung_at n t m s).held) (top_at n t m s) v → Of n t m v
    reached_of v c = joined_of top_of_lem (joined_by held_at c)

    -- Whatever of the walk is placed, the top with it, treats the piece.
    treats : (s' : Tables) → Standing n s' → Kept s' (walk_at n t m s).tables → T (placed s' (top_at n t m s)) → Shape n t s' m → Treated n E t s' m
    treats s' S' K p shape = record {
      top = top_at n t m s;
      top_in = top_of_lem;
      top_placed = p;
      under = λ v o q. over_before S' K (top_at n t m s) v o.0 q (walked_at.under_top v (of_reached v o));
      hangs = hangs (note_at n t m s) refl;
      tree = λ v o q d. elim (ℕ_discrete v (top_at n t m s)) [
        | yes e ↦ rw e (tree_top (note_at n t m s) refl (rw e at d))
        | no e ↦ let f = sym (kept_par K v q) ∙ par_placed (walk_at n t m s).tables v (kept_placed K v q) in
            rw f (D.held_told v (parent_of (walk_at n t m s).tables v) (linked_by held_at v _ (walked_at.below v (of_reached v o) e).1))
      ];
      shape = shape;
    }
      where
        top_par : par s' (top_at n t m s) ≡ parent_of (hung_at n t m s) (top_at n t m s)
        top_par = sym (kept_par K (top_at n t m s) p) ∙ par_placed (walk_at n t m s).tables (top_at n t m s) (kept_placed K (top_at n t m s) p) ∙ walked_at.top_parent

        tree_top : (x : ℕ) → note_at n t m s ≡ x → par s' (top_at n t m s) ≢ top_at n t m s → T (E (top_at n t m s) (par s' (top_at n t m s)))
        tree_top zero e d = absurd (d (top_par ∙ hang_root C.standing (top_at n t m s) (note_at n t m s) top_of_lem.0 e))
        tree_top (suc q) e d = rw (top_par ∙ hang_under C.standing (top_at n t m s) (note_at n t m s) q top_of_lem.0 e) (under_note q e).1

        hangs : (x : ℕ) → note_at n t m s ≡ x → ((u a : ℕ) → Of n t m u → T (E u a) → T (placed t a) → ⊥) ⊎ ((q : ℕ) × Hook n E t s' m (top_at n t m s) q)
        hangs zero e = inl (λ u a o h g. omega (arith, (note_deepest u a o h g).1))
        hangs (suc q) e = inr (
          q,
          record {
            hook_placed = (under_note q e).0;
            hook_over = subst (λ (x : ℕ). Over (par s') (lev s') x (top_at n t m s)) (top_par ∙ hang_under C.standing (top_at n t m s) (note_at n t m s) q top_of_lem.0 e) (over_par (standing_levels S') (top_at n t m s) top_of_lem.0);
            friend = top_at n t m s;
            friend_in = top_of_lem;
            friend_link = (under_note q e).1;
            deepest = λ u a o h g. let (x, f, d) = note_deepest u a o h g in subst (λ (y : ℕ). rank t a ≤ rank t y) (omega arith) d;
          },
        )

    -- Not lost: 'the whole walk is placed'.
    whole : (T (lost n t (pieces n t.held) m) → ⊥) → Closing n E t (suc m) (walk_at n t m s).tables
    whole c =
        let w = (walk_at n t m s).tables in
        closes own.0 C
        (inr (treats w walked_at.standing (kept_refl w) (walked_at.reached (top_at n t m s) here)
        (inl (c, λ v o. walked_at.reached v (of_reached v o), λ u v o r h. walked_at.spans u v (of_reached u o) (linked_by (sym held_at) u v h)))))
        walked_at.standing
        (walked_at.same_note ∙ hung_at_lem.same_note) (walked_at.same_mark ∙ hung_at_lem.same_mark)
        (walked_at.same_held ∙ hung_at_lem.same_held) (walked_at.same_crossed ∙ hung_at_lem.same_crossed)
        (λ v h d. (
          walked_at.outside_parent v (λ r. outside v d (reached_of v r)) ∙ hung_at_lem.other_parent v (not_top v d),
          walked_at.outside_rank v (λ r. outside v d (reached_of v r)) ∙ hung_at_lem.other_rank v (not_top v d),
        ))
        (λ v f. walked_at.outside_parent v (λ r. placed_loose w v (walked_at.reached v r) f)
        ∙ hung_at_lem.other_parent v (λ e. placed_loose w v (rw e (walked_at.reached (top_at n t m s) here)) f))
      where
        not_top : (v : ℕ) → (label n t v ≢ m) ⊎ T (placed t v) → v ≢ top_at n t m s
        not_top v d e = outside v d (rw e top_of_lem)

    -- 'Lost: only the path from the top to the deepest member'
    pub path_at_lem : PathPlaced n (top_at n t m s) s (walk_at n t m s).tables (path_at n t m s) (walk_at n t m s).deepest
    path_at_lem = path_placed C.standing among_now loose_joined hung_at_lem walked_at

    on_path : (v : ℕ) → Of n t m v → T (placed (path_at n t m s) v) → Over (par (walk_at n t m s).tables) (lev (walk_at n t m s).tables) v (walk_at n t m s).deepest
    on_path v o p = elim (path_at_lem.decided v) [
      | inl (_, g) ↦ g
      | inr f ↦ absurd (placed_loose (path_at n t m s) v p (path_at_lem.off_rank v f ∙ loose_in v o))
    ]

    path : T (lost n t (pieces n t.held) m) → Closing n E t (suc m) (path_at n t m s)
    path c =
        let L = standing_levels walked_at.standing in
        let hd = (reached_of (walk_at n t m s).deepest walked_at.deepest_in).0 in
        closes own.0 C
        (inr (treats (path_at n t m s) path_at_lem.standing path_at_lem.agrees
        (path_at_lem.on_placed (top_at n t m s) (here, walked_at.under_top (walk_at n t m s).deepest walked_at.deepest_in))
        (inr (c, λ u v o r p q. one_way_before path_at_lem.standing path_at_lem.agrees u v p q (over_one_way L hd (on_path u o p) (on_path v r q))))))
        path_at_lem.standing
        path_at_lem.same_note path_at_lem.same_mark path_at_lem.same_held path_at_lem.same_crossed
        (λ v h d. (path_at_lem.off_parent v (off_path v d), path_at_lem.off_rank v (off_path v d)))
        (λ v f. path_at_lem.off_parent v (λ r. placed_loose (path_at n t m s) v (path_at_lem.on_placed v r) f))
      where
        off_path : (v : ℕ) → (label n t v ≢ m) ⊎ T (placed t v) → OnPath (top_at n t m s) s (walk_at n t m s).tables (walk_at n t m s).deepest v → ⊥
        off_path v d r = outside v d (joined_of top_of_lem (joined_by C.same_held r.0))

    piece_closes : Closing n E t (suc m) (place_piece n (pieces n t.held) m s)
    unfolding place_piece place_walk pick
    piece_closes = rw (lost_same n s t (pieces n t.held) m C.same_mark) (elim (T_dec (lost n t (pieces n t.held) m)) [
      | yes c ↦ rw (T_true (lost n t (pieces n t.held) m) c) (path c)
      | no c ↦ rw (T_false (lost n t (pieces n t.held) m) c) (whole c)
    ])

  from_closes : {m : ℕ} {s : Tables} → m < n → Closing n E t m s → Closing n E t (suc m) (place_from n (pieces n t.held) m s)
  unfolding place_from pick
  from_closes {m} {s} h C =
      let test = not (placed s m) && member (pieces n t.held) m m in
      elim (T_dec test) [
        | yes c ↦
            let e : label n t m ≡ m = member_elim (pieces n t.held) m m (and_r (not (placed s m)) _ c) in
            let f : Loose s m = not_placed s m (T_not (placed s m) (and_l (not (placed s m)) _ c)) in
            rw (T_true test c) (piece_closes C (h, e) (sym (C.rest_rank m h (omega arith)) ∙ f))
        | no c ↦ rw (T_false test c) (closes h C (inl (λ o f. c (and_intro (not (placed s m)) (member (pieces n t.held) m m)
            (not_T (placed s m) (λ p. placed_loose s m p (C.rest_rank m h (omega (arith, o.1)) ∙ f))) (member_intro (pieces n t.held) m m o.1)))) C.standing refl refl refl refl (λ v g d. (refl, refl)) (λ v g. refl))
      ]

  closing_none : Closing n E t 0 t
  closing_none = record {
    standing = S;
    same_note = refl;
    same_mark = refl;
    same_held = refl;
    same_crossed = refl;
    kept = kept_refl t;
    rest_parent = λ v h g. refl;
    rest_rank = λ v h g. refl;
    loose_parent = λ v f. refl;
    treated = λ p h e f. absurd (omega arith);
  }

  pub closing : (m : ℕ) → m ≤ n → Closing n E t m (place_pieces n (pieces n t.held) m t)
  unfolding place_pieces
  closing zero h = closing_none
  closing (suc m) h = from_closes (omega arith) (closing m (omega arith))
