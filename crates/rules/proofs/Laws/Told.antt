-- What a told list leaves, whatever its order and repeats.
-- Assumes nothing.
use Prim.Native.Nat.{ℕ, suc, ◌*◌, ◌<◌, ◌≤◌, min, max}
use Rattle.std.specs.Prelude.{◌≡◌, refl, Bool, ◌&&◌, List, [], ◌∷◌, ◌++◌, ◌⊎◌, ◌≢◌, length, get_or, T, ltb}
use Rattle.std.proofs.Math.Path.{sym}
use Rattle.std.proofs.Common.{ap, ◌∙◌, subst, append-nil, arith, ltb→lt, lt→ltb}
use Rattle.std.proofs.Math.Logic.{inl, inr}
use Rattle.std.proofs.Math.Decide.{ℕ_discrete}
use Rattle.std.proofs.Math.ListN.{length-set}
use Rattle.std.proofs.Math.Seq.{append_snoc}
use Rattle.base.specs.Truth.{and_intro, and_l, and_r, T_ext}
use Rattle.base.specs.Link.{Link}
use Rattle.rules.specs.Links.{Links, between, linked, tally, JoinedBy, Among, Inside}
use Rattle.rules.specs.Search.{count}
use Rattle.rules.specs.Tables.{Tables, rank, note_of, mark_of, placed, put_note, put_mark, put_held}
use Rattle.rules.specs.Building.{merged, pieces, member, size_of, held_in, note_link, hold, build_link, build_links, lost}
use Rattle.rules.specs.Facts.{Standing, Rested, Loose, Holding}
use Rattle.rules.proofs.Laws.Facts.{Crowded, Told}
use Rattle.rules.proofs.Laws.Partial.{label}
use Rattle.rules.proofs.Laws.Chain.{one, wider}
use Rattle.rules.proofs.Laws.Search.{some_intro, some_elim, count_same, two_count}
use Rattle.rules.proofs.Laws.Links.{between_here, between_turn, between_elim, linked_nil, linked_turn, append_left, snoc_cases, snoc_last, joined_turn, linked_head, linked_tail}
use Rattle.rules.proofs.Laws.Tables.{placed_loose, mark_of_put_mark_same, mark_of_put_mark_other, rested_note, rested_mark}
use Rattle.rules.proofs.Laws.Split.{tally_snoc, tally_same, by_between, between_both, between_flip, between_swap}
use Rattle.rules.proofs.Laws.Pieces.{merged_keeps, pieces_snoc, member_intro, member_elim, linked_label, label_in, label_own, label_joins}
use Rattle.rules.proofs.Laws.Quota.{sorted}
use Rattle.rules.proofs.Laws.Step.{Step, skips, notes, holds, marks, link_step, holding_step, note_best_step, note_other, note_cases, rested_holding}

-- A piece is lost where a member is marked.
pub lost_intro : (n : ℕ) (t : Tables) (l : List ℕ) (p v : ℕ) → v < n → get_or l v 0 ≡ p → 0 < mark_of t v → T (lost n t l p)
unfolding lost
lost_intro n t l p v h e m = some_intro _ n v h (and_intro (member l p v) (ltb 0 (mark_of t v)) (member_intro l p v e) (lt→ltb 0 (mark_of t v) m))

pub lost_elim : (n : ℕ) (t : Tables) (l : List ℕ) (p : ℕ) → T (lost n t l p) → (v : ℕ) × (v < n) × (get_or l v 0 ≡ p) × (0 < mark_of t v)
unfolding lost
lost_elim n t l p s =
    let (v, h, r) = some_elim (λ v. member l p v && ltb 0 (mark_of t v)) n s in
    (v, h, member_elim l p v (and_l (member l p v) (ltb 0 (mark_of t v)) r), ltb→lt 0 (mark_of t v) (and_r (member l p v) (ltb 0 (mark_of t v)) r))

-- The set E' has the links of E and the link a - b.
record Grown (E E' : Links) (a b : ℕ) : Type 0 where
  old : (u v : ℕ) → T (E u v) → T (E' u v)
  new : (u v : ℕ) → T (between (a, b) u v) → T (E' u v)
  only : (u v : ℕ) → T (E' u v) → T (E u v) ⊎ T (between (a, b) u v)

grown_snoc : (g : List Link) (a b : ℕ) → Grown (linked g) (linked (g ++ ((a, b) ∷ []))) a b
grown_snoc g a b = record { old = append_left g ((a, b) ∷ []); new = snoc_last g (a, b); only = snoc_cases g (a, b) }

-- The link a - b is told in a state that the links of E left: what each of its ways leaves.
module _ {n k a b : ℕ} {E E' : Links} {t₀ t : Tables} (G : Grown E E' a b) (I : Told n k E t₀ t) (ha : a < n) (hb : b < n) (d : a ≢ b) where
  inside : Inside n t.held
  inside u v s = ((I.learnt.holding.ends u v s).0, (I.learnt.holding.ends u v s).1)

  -- Passed over: it is held, or it is no concern of an unplaced fragment.
  told_skips : (T (placed t a) × T (placed t b)) ⊎ T (linked t.held a b) → Told n k E' t₀ t
  told_skips why = record {
    same_parent = I.same_parent;
    same_level = I.same_level;
    same_crossed = I.same_crossed;
    long_note = I.long_note;
    long_mark = I.long_mark;
    learnt = record {
      note_of_lem = λ u p e. let (i, j, l, q, s) = I.learnt.note_of_lem u p e in (i, j, l, q, G.old u p s);
      note_best = λ u p s l q. elim (G.only u p s) [
        | inl r ↦ I.learnt.note_best u p r l q
        | inr r ↦ elim (both u p r) [
          | inl (x, y) ↦ absurd (placed_loose t u x l)
          | inr x ↦ absurd (placed_loose t p q (I.learnt.holding.ends u p x).4)
        ]
      ];
      holding = I.learnt.holding;
      held_told = λ u v s. G.old u v (I.learnt.held_told u v s);
      told_joined = λ u v s l m. elim (G.only u v s) [
        | inl r ↦ I.learnt.told_joined u v r l m
        | inr r ↦ elim (both u v r) [
          | inl (x, y) ↦ absurd (placed_loose t u x l)
          | inr x ↦ one x
        ]
      ];
      told_held = λ u v s l m. elim (G.only u v s) [
        | inl r ↦ I.learnt.told_held u v r l m
        | inr r ↦ elim (both u v r) [
          | inl (x, y) ↦ absurd (placed_loose t u x l)
          | inr x ↦ inl x
        ]
      ];
    };
    crowded = I.crowded;
  }
    where
      both : (u v : ℕ) → T (between (a, b) u v) → (T (placed t u) × T (placed t v)) ⊎ T (linked t.held u v)
      both u v r = by_between (λ x y. (T (placed t x) × T (placed t y)) ⊎ T (linked t.held x y))
          (λ x y w. elim w [ inl (i, j) ↦ inl (j, i) | inr i ↦ inr (linked_turn t.held x y i) ]) a b u v r why

  -- Noted: u is unplaced and p is placed.
  module _ (u p : ℕ) (s : T (between (a, b) u p)) (l : Loose t u) (q : T (placed t p)) where
    u_in : (u < n) × (p < n)
    u_in = between_both (λ x. x < n) a b u p s ha hb

    u_long : u < length t.note
    u_long = rw I.long_note u_in.0

    -- The new link leads from an unplaced fragment to a placed one only as u - p.
    only_up : (v r : ℕ) → T (between (a, b) v r) → Loose t v → (u ≡ v) × (p ≡ r)
    only_up v r w m = elim (between_elim u p v r (by_between (λ x y. T (between (u, p) x y)) (between_turn (u, p)) a b v r w (between_flip a b u p s))) [
      | inl e ↦ e
      | inr (e, f) ↦ absurd (placed_loose t v (rw f at q) m)
    ]

    never : (v w : ℕ) → T (between (a, b) v w) → Loose t v → Loose t w → ⊥
    never v w y m o = placed_loose t w (rw (only_up v w y m).1 at q) o

    best_up : (v r : ℕ) → T (E' v r) → Loose t v → T (placed t r) → (x : ℕ) × (note_of (note_link u p t) v ≡ suc x) × (rank t r ≤ rank t x)
    best_up v r w m o = elim (ℕ_discrete v u) [
      | yes e ↦
          let (x, f, B) = note_best_step u p t u_long in (
            x,
            rw e f,
            elim (G.only v r w) [
              | inl y ↦ let (z, i, j) = I.learnt.note_best v r y m o in omega (arith, B.over_old z (ap (note_of t) (sym e) ∙ i), j)
              | inr y ↦ rw (← (only_up v r y m).1) B.over_new
            ],
          )
      | no e ↦ elim (G.only v r w) [
        | inl y ↦ let (z, i, j) = I.learnt.note_best v r y m o in (z, note_other u p t u_long v e ∙ i, j)
        | inr y ↦ absurd (e (sym (only_up v r y m).0))
      ]
    ]

    told_notes : Told n k E' t₀ (note_link u p t)
    unfolding note_link put_note rank placed mark_of lost
    told_notes = record {
      same_parent = I.same_parent;
      same_level = I.same_level;
      same_crossed = I.same_crossed;
      long_note = length-set t.note u _ ∙ I.long_note;
      long_mark = I.long_mark;
      learnt = record {
        note_of_lem = λ v r e. elim (note_cases u p t u_long v r e) [
          | inl f ↦ let (i, j, m, o, w) = I.learnt.note_of_lem v r f in (i, j, m, o, G.old v r w)
          | inr (e, f) ↦ rw (← e, ← f) (u_in.0, u_in.1, l, q, G.new u p s)
        ];
        note_best = best_up;
        holding = holding_step ha hb d I.learnt.holding (notes u p s l q);
        held_told = λ v w x. G.old v w (I.learnt.held_told v w x);
        told_joined = λ v w x m o. elim (G.only v w x) [
          | inl y ↦ I.learnt.told_joined v w y m o
          | inr y ↦ absurd (never v w y m o)
        ];
        told_held = λ v w x m o. elim (G.only v w x) [
          | inl y ↦ I.learnt.told_held v w y m o
          | inr y ↦ absurd (never v w y m o)
        ];
      };
      crowded = λ m i j. let C = I.crowded m i j in record { crowd = C.crowd; inside = C.inside; two = C.two; full = C.full };
    }

  -- Held, or its piece is marked: both ends are unplaced.
  module _ (la : Loose t a) (lb : Loose t b) where
    both_loose : (u v : ℕ) → T (between (a, b) u v) → Loose t u × Loose t v
    both_loose u v r = between_both (Loose t) a b u v r la lb

    held_new : (u v : ℕ) → T (between (a, b) u v) → T (linked (t.held ++ ((min a b, max a b) ∷ [])) u v)
    held_new u v r = snoc_last t.held (min a b, max a b) u v (sorted (λ x y. T (between (x, y) u v)) a b r (between_swap a b u v r))

    new_held : (u v : ℕ) → T (between (min a b, max a b) u v) → T (between (a, b) u v)
    new_held u v r = sorted (λ x y. T (between (x, y) u v) → T (between (a, b) u v)) a b (λ w. w) (between_swap b a u v) r

    -- A lost mark on either piece stays.
    lost_holds : (u : ℕ) → T (lost n t (pieces n t.held) (label n t u)) →
        T (lost n (hold a b t) (pieces n (t.held ++ ((min a b, max a b) ∷ []))) (get_or (pieces n (t.held ++ ((min a b, max a b) ∷ []))) u 0))
    unfolding hold put_held mark_of
    lost_holds u x =
        let (v, h, e, m) = lost_elim n t (pieces n t.held) (label n t u) x in
        rw pieces_snoc (lost_intro n (hold a b t) (merged (min a b, max a b) (pieces n t.held)) _ v h (merged_keeps (min a b) (max a b) (pieces n t.held) v u e) m)

    crowded_holds : (m : ℕ) → Crowded n k t m → Crowded n k (hold a b t) m
    unfolding hold put_held
    crowded_holds m C = record {
      crowd = C.crowd;
      inside = λ v s. ((C.inside v s).0, wider (append_left t.held _) (C.inside v s).1);
      two = C.two;
      full = omega (arith, C.full, tally_snoc (λ e. C.crowd e.0 && C.crowd e.1) t.held (min a b, max a b));
    }

    told_holds : Holding n k (hold a b t) → Told n k E' t₀ (hold a b t)
    unfolding hold put_held rank placed mark_of note_of
    told_holds H = record {
      same_parent = I.same_parent;
      same_level = I.same_level;
      same_crossed = I.same_crossed;
      long_note = I.long_note;
      long_mark = I.long_mark;
      learnt = record {
        note_of_lem = λ u p e. let (i, j, l, q, s) = I.learnt.note_of_lem u p e in (i, j, l, q, G.old u p s);
        note_best = λ u p s l q. elim (G.only u p s) [
          | inl r ↦ I.learnt.note_best u p r l q
          | inr r ↦ absurd (placed_loose t p q (both_loose u p r).1)
        ];
        holding = H;
        held_told = λ u v s. elim (snoc_cases t.held (min a b, max a b) u v s) [
          | inl r ↦ G.old u v (I.learnt.held_told u v r)
          | inr r ↦ G.new u v (new_held u v r)
        ];
        told_joined = λ u v s l m. elim (G.only u v s) [
          | inl r ↦ wider (append_left t.held _) (I.learnt.told_joined u v r l m)
          | inr r ↦ one (held_new u v r)
        ];
        told_held = λ u v s l m. elim (G.only u v s) [
          | inl r ↦ elim (I.learnt.told_held u v r l m) [
            | inl x ↦ inl (append_left t.held _ u v x)
            | inr x ↦ inr (lost_holds u x)
          ]
          | inr r ↦ inl (held_new u v r)
        ];
      };
      crowded = λ m i j. crowded_holds m (I.crowded m i j);
    }

    -- No room: the piece is marked at its smallest member.
    module _ (same : label n t a ≡ label n t b)
        (full : k * size_of n (pieces n t.held) (label n t a) ≤ suc (held_in (pieces n t.held) t.held (label n t a))) where
      abbrev top : ℕ
      top = label n t a

      top_in : top < n
      top_in = label_in n t.held inside a ha

      top_own : label n t top ≡ top
      top_own = label_own n t.held inside a ha

      marked_top : mark_of (put_mark top t) top ≡ 1
      marked_top = mark_of_put_mark_same top t (rw I.long_mark top_in)

      -- A mark stays.
      marked_more : (v : ℕ) → 0 < mark_of t v → 0 < mark_of (put_mark top t) v
      marked_more v h = elim (ℕ_discrete v top) [
        | yes e ↦ rw e (omega (arith, marked_top))
        | no e ↦ omega (arith, mark_of_put_mark_other top t v e)
      ]

      lost_more : (p : ℕ) → T (lost n t (pieces n t.held) p) → T (lost n (put_mark top t) (pieces n t.held) p)
      lost_more p x = let (v, h, e, m) = lost_elim n t (pieces n t.held) p x in lost_intro n (put_mark top t) (pieces n t.held) p v h e (marked_more v m)

      top_lost : T (lost n (put_mark top t) (pieces n t.held) top)
      top_lost = lost_intro n (put_mark top t) (pieces n t.held) top top top_in top_own (omega (arith, marked_top))

      -- Both ends are members.
      new_member : (u v : ℕ) → T (between (a, b) u v) → label n t u ≡ top
      new_member u v r = (between_both (λ x. label n t x ≡ top) a b u v r refl (sym same)).0

      crowd : ℕ → Bool
      crowd v = ltb v n && member (pieces n t.held) top v

      crowd_intro : (v : ℕ) → v < n → label n t v ≡ top → T (crowd v)
      unfolding crowd
      crowd_intro v h e = and_intro (ltb v n) (member (pieces n t.held) top v) (lt→ltb v n h) (member_intro (pieces n t.held) top v e)

      crowd_elim : (v : ℕ) → T (crowd v) → (v < n) × (label n t v ≡ top)
      unfolding crowd
      crowd_elim v s = (ltb→lt v n (and_l (ltb v n) (member (pieces n t.held) top v) s), member_elim (pieces n t.held) top v (and_r (ltb v n) (member (pieces n t.held) top v) s))

      crowd_size : count crowd n ≡ size_of n (pieces n t.held) top
      unfolding size_of
      crowd_size = count_same crowd (member (pieces n t.held) top) n (λ v h. T_ext _ _
          (λ s. member_intro (pieces n t.held) top v (crowd_elim v s).1)
          (λ s. crowd_intro v h (member_elim (pieces n t.held) top v s)))

      crowd_held : tally (λ e. crowd e.0 && crowd e.1) t.held ≡ held_in (pieces n t.held) t.held top
      unfolding held_in
      crowd_held = tally_same _ _ t.held (λ (x, y) h. T_ext _ _
          (λ s. member_intro (pieces n t.held) top x (crowd_elim x (and_l (crowd x) (crowd y) s)).1)
          (λ s. let e : label n t x ≡ top = member_elim (pieces n t.held) top x s in
          and_intro (crowd x) (crowd y) (crowd_intro x (inside x y h).0 e) (crowd_intro y (inside x y h).1 (sym (linked_label n t.held inside x y h) ∙ e))))

      crowded_top : Crowded n k (put_mark top t) top
      unfolding put_mark
      crowded_top = record {
        crowd = crowd;
        inside = λ v s. let (h, e) = crowd_elim v s in (h, label_joins n t.held inside top v top_in h (top_own ∙ sym e));
        two = two_count crowd n a b d ha hb (crowd_intro a ha refl) (crowd_intro b hb (sym same));
        full = rw (crowd_size, crowd_held) full;
      }

      crowded_marks : (m : ℕ) → m < n → 0 < mark_of (put_mark top t) m → Crowded n k (put_mark top t) m
      unfolding put_mark
      crowded_marks m i j = elim (ℕ_discrete m top) [
        | yes e ↦ rw e crowded_top
        | no e ↦ let C = I.crowded m i (rw (mark_of_put_mark_other top t m e) at j) in record { crowd = C.crowd; inside = C.inside; two = C.two; full = C.full }
      ]

      told_marks : Told n k E' t₀ (put_mark top t)
      unfolding put_mark rank placed note_of
      told_marks = record {
        same_parent = I.same_parent;
        same_level = I.same_level;
        same_crossed = I.same_crossed;
        long_note = I.long_note;
        long_mark = length-set t.mark top 1 ∙ I.long_mark;
        learnt = record {
          note_of_lem = λ u p e. let (i, j, l, q, s) = I.learnt.note_of_lem u p e in (i, j, l, q, G.old u p s);
          note_best = λ u p s l q. elim (G.only u p s) [
            | inl r ↦ I.learnt.note_best u p r l q
            | inr r ↦ absurd (placed_loose t p q (both_loose u p r).1)
          ];
          holding = holding_step ha hb d I.learnt.holding (marks la lb same full);
          held_told = λ u v s. G.old u v (I.learnt.held_told u v s);
          told_joined = λ u v s l m. elim (G.only u v s) [
            | inl r ↦ I.learnt.told_joined u v r l m
            | inr r ↦ by_between (JoinedBy (linked t.held)) (λ x y c. joined_turn t.held c) a b u v r (label_joins n t.held inside a b ha hb same)
          ];
          told_held = λ u v s l m. elim (G.only u v s) [
            | inl r ↦ elim (I.learnt.told_held u v r l m) [
              | inl x ↦ inl x
              | inr x ↦ inr (lost_more _ x)
            ]
            | inr r ↦ inr (rw (new_member u v r) top_lost)
          ];
        };
        crowded = crowded_marks;
      }

  told_step : {t' : Tables} → Step n k a b t t' → Told n k E' t₀ t'
  told_step (skips why) = told_skips why
  told_step (notes u p s l q) = told_notes u p s l q
  told_step (holds la lb not r) = told_holds la lb (holding_step ha hb d I.learnt.holding (holds la lb not r))
  told_step (marks la lb same full) = told_marks la lb same full

-- A list told after another.
told_from : (n k : ℕ) (t₀ t : Tables) (before g : List Link) → Told n k (linked before) t₀ t → Among n (linked g) → Told n k (linked (before ++ g)) t₀ (build_links n k t g)
unfolding build_links
told_from n k t₀ t before [] I A = rw append-nil I
told_from n k t₀ t before ((a, b) ∷ g) I A =
    let (ha, hb, d) = A a b (linked_head (a, b) g a b (between_here a b)) in
    subst (λ (h : List Link). Told n k (linked h) t₀ (build_links n k (build_link n k t (a, b)) g)) (append_snoc before (a, b) g)
    (told_from n k t₀ (build_link n k t (a, b)) (before ++ ((a, b) ∷ [])) g
    (told_step (grown_snoc before a b) I ha hb d (link_step n k a b t))
    (λ u v s. A u v (linked_tail (a, b) g u v s)))

-- Nothing is told yet.
told_nothing : (n k : ℕ) (t : Tables) → 1 ≤ k → Standing n t → Rested n t → Told n k (linked []) t t
told_nothing n k t h S R = record {
  same_parent = refl;
  same_level = refl;
  same_crossed = refl;
  long_note = S.long_note;
  long_mark = S.long_mark;
  learnt = record {
    note_of_lem = λ u p e. absurd (omega (arith, rested_note R u));
    note_best = λ u p s. absurd (linked_nil u p s);
    holding = rested_holding n k t h R;
    held_told = λ u v s. rw R.no_held at s;
    told_joined = λ u v s. absurd (linked_nil u v s);
    told_held = λ u v s. absurd (linked_nil u v s);
  };
  crowded = λ m i j. absurd (omega (arith, rested_mark R m));
}

-- What a list leaves, told from a rested state.
module _ (n k : ℕ) (t : Tables) (g : List Link) (h : 1 ≤ k) (S : Standing n t) (R : Rested n t) (A : Among n (linked g)) where
  pub told : Told n k (linked g) t (build_links n k t g)
  told = told_from n k t t [] g (told_nothing n k t h S R) A
