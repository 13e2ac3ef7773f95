-- What reading a list leaves in the tables: the notes, the marks and the crossing, whatever the order and the repeats.
-- Assumes nothing.
use Rattle.std.specs.Prelude.{ℕ, ◌-◌, ◌≤◌, ◌<◌, max, ◌≡◌, Bool, ◌&&◌, ◌||◌, not, ◌⊎◌, ◌≢◌, ◌↔◌, eqb, length}
use Rattle.std.proofs.Math.Path.{refl}
use Rattle.std.proofs.Common.{sym, ap, ◌∙◌, arith, eqb→eq, T_not, eq-eqb, ne_eqb}
use Rattle.std.proofs.Math.Bool.{true}
use mathlib.Core.List.{List, [], ◌∷◌, ◌++◌}
use Rattle.std.proofs.Math.Logic.{inl, inr}
use Rattle.std.proofs.Math.Decide.{ℕ_discrete, dec_le}
use Rattle.std.proofs.Math.Dec.{T, not_T}
use Rattle.base.specs.Pick.{pick, pick_true, pick_false, pick_all}
use Rattle.base.specs.Truth.{and_intro, and_l, and_r, or_l, or_r, or_cases, T_true, T_false, T_dec, eq_to_eqb}
use Rattle.base.specs.Link.{Link}
use Rattle.rules.specs.Links.{Among, linked, between}
use Rattle.rules.specs.Forest.{up, Above, Over}
use Rattle.rules.specs.Search.{least}
use Rattle.rules.specs.Facts.{Standing, Unnoted, NotesOf}
use Rattle.rules.proofs.Laws.Search.{least_default, least_le, least_hit}
use Rattle.rules.specs.Tables.{Tables, note_of, mark_of, par, lev, put_note, put_mark, put_crossed, cleared}
use Rattle.rules.specs.Reading.{above, hear, read_link, read_links, lowest, child_of}
use Rattle.rules.proofs.Laws.Links.{between_elim, between_here, between_turn, linked_nil, linked_cases, linked_head, linked_tail}
use Rattle.rules.proofs.Laws.Up.{above_over}
use Rattle.rules.proofs.Laws.Tables.{cleared_forest, cleared_unnoted, unnoted_note, unnoted_mark, standing_same, standing_cleared, standing_levels, SameForest, forest_refl, forest_trans, same_par, same_lev, same_note_of, same_mark_of, put_note_forest, put_mark_forest, put_crossed_forest, note_of_put_note_same, note_of_put_note_other, put_note_length, put_note_mark, put_note_held, put_note_crossed, mark_of_put_mark_same, mark_of_put_mark_other, put_mark_length, put_mark_note, put_mark_held, put_mark_crossed, put_crossed_note, put_crossed_mark, put_crossed_held, put_crossed_crossed}

-- t is what s becomes when each v hears of each w with R v w.
pub record Heard (n : ℕ) (R : ℕ → ℕ → Type 0) (s t : Tables) : Type 0 where
  pub forest : SameForest t s
  pub same_held : t.held ≡ s.held
  pub long_note : length t.note ≡ length s.note
  pub long_mark : length t.mark ≡ length s.mark
  pub note_more : (v : ℕ) → note_of s v ≤ note_of t v
  pub note_link_lem : (v w : ℕ) → v < n → R v w → par s v ≢ w → lev s v - lev s w ≤ note_of t v
  pub note_hit : (v : ℕ) → (note_of t v ≡ note_of s v) ⊎ ((w : ℕ) × R v w × (par s v ≢ w) × (note_of t v ≡ lev s v - lev s w))
  pub mark_more : (v : ℕ) → 0 < mark_of s v → 0 < mark_of t v
  pub mark_link : (v : ℕ) → v < n → R v (par s v) → 0 < mark_of t v
  pub mark_hit : (v : ℕ) → 0 < mark_of t v → (0 < mark_of s v) ⊎ R v (par s v)

-- Where the tables are the same but for the crossing, nothing was heard.
heard_none : (n : ℕ) (s t : Tables) → SameForest t s → t.held ≡ s.held → t.note ≡ s.note → t.mark ≡ s.mark → Heard n (λ u v. ⊥) s t
heard_none n s t f h en em = record {
  forest = f;
  same_held = h;
  long_note = ap length en;
  long_mark = ap length em;
  note_more = λ v. omega (arith, same_note_of t s en v);
  note_link_lem = λ v w g r d. absurd r;
  note_hit = λ v. inl (same_note_of t s en v);
  mark_more = λ v g. omega (arith, same_mark_of t s em v);
  mark_link = λ v g r. absurd r;
  mark_hit = λ v g. inl (omega (arith, same_mark_of t s em v));
}

heard_iff : {n : ℕ} {R Q : ℕ → ℕ → Type 0} {s t : Tables} → ((u v : ℕ) → R u v → Q u v) → ((u v : ℕ) → Q u v → R u v) → Heard n R s t → Heard n Q s t
heard_iff f g H = record {
  forest = H.forest;
  same_held = H.same_held;
  long_note = H.long_note;
  long_mark = H.long_mark;
  note_more = H.note_more;
  note_link_lem = λ v w h r d. H.note_link_lem v w h (g v w r) d;
  note_hit = λ v. elim (H.note_hit v) [ inl e ↦ inl e | inr (w, r, d, e) ↦ inr (w, f v w r, d, e) ];
  mark_more = H.mark_more;
  mark_link = λ v h r. H.mark_link v h (g v _ r);
  mark_hit = λ v h. elim (H.mark_hit v h) [ inl e ↦ inl e | inr r ↦ inr (f v _ r) ];
}

heard_both : {n : ℕ} {R Q : ℕ → ℕ → Type 0} {s t r : Tables} → Heard n R s t → Heard n Q t r → Heard n (λ u v. R u v ⊎ Q u v) s r
heard_both {n} {R} {Q} {s} {t} {r} H K =
    let ep : par t ≡ par s = same_par H.forest in
    let el : lev t ≡ lev s = same_lev H.forest in
    record {
      forest = forest_trans K.forest H.forest;
      same_held = K.same_held ∙ H.same_held;
      long_note = K.long_note ∙ H.long_note;
      long_mark = K.long_mark ∙ H.long_mark;
      note_more = λ v. omega (arith, H.note_more v, K.note_more v);
      note_link_lem = λ v w h c d. elim c [
        | inl a ↦ omega (arith, H.note_link_lem v w h a d, K.note_more v)
        | inr a ↦ rw el at (K.note_link_lem v w h a (rw ep d))
      ];
      note_hit = λ v. elim (K.note_hit v) [
        | inl e ↦ elim (H.note_hit v) [ inl q ↦ inl (e ∙ q) | inr (w, a, d, q) ↦ inr (w, inl a, d, e ∙ q) ]
        | inr (w, a, d, q) ↦ inr (w, inr a, (rw ep at d), (rw el at q))
      ];
      mark_more = λ v g. K.mark_more v (H.mark_more v g);
      mark_link = λ v h c. elim c [
        | inl a ↦ K.mark_more v (H.mark_link v h a)
        | inr a ↦ K.mark_link v h (rw ep a)
      ];
      mark_hit = λ v g. elim (K.mark_hit v g) [
        | inl m ↦ elim (H.mark_hit v m) [ inl i ↦ inl i | inr a ↦ inr (inl a) ]
        | inr a ↦ inr (inr (rw ep at a))
      ];
    }

hear_parent : (v w : ℕ) (t : Tables) → par t v ≡ w → hear v w t ≡ put_mark v t
unfolding hear
hear_parent v w t e = rw (eq-eqb (par t v) w e, pick_true)

hear_other : (v w : ℕ) (t : Tables) → par t v ≢ w → hear v w t ≡ put_note v (max (note_of t v) (lev t v - lev t w)) t
unfolding hear
hear_other v w t d = rw (ne_eqb (par t v) w d, pick_false)

-- One fragment hears of one other.
module _ {n : ℕ} (v w : ℕ) (s : Tables) (hn : length s.note ≡ n) (hm : length s.mark ≡ n) (hv : v < n) where
  heard_mark : par s v ≡ w → Heard n (λ x y. (x ≡ v) × (y ≡ w)) s (put_mark v s)
  heard_mark e =
      let m : mark_of (put_mark v s) v ≡ 1 = mark_of_put_mark_same v s (omega arith) in
      record {
        forest = put_mark_forest s v;
        same_held = put_mark_held v s;
        long_note = ap length (put_mark_note v s);
        long_mark = put_mark_length v s;
        note_more = λ u. omega (arith, same_note_of (put_mark v s) s (put_mark_note v s) u);
        note_link_lem = λ x y h (i, j) d. absurd (d (ap (par s) i ∙ e ∙ sym j));
        note_hit = λ u. inl (same_note_of (put_mark v s) s (put_mark_note v s) u);
        mark_more = λ u g. elim (ℕ_discrete u v) [
          | yes k ↦ rw k (omega arith)
          | no k ↦ omega (arith, mark_of_put_mark_other v s u k)
        ];
        mark_link = λ u h (i, j). rw i (omega arith);
        mark_hit = λ u g. elim (ℕ_discrete u v) [
          | yes k ↦ inr (k, ap (par s) k ∙ e)
          | no k ↦ inl (omega (arith, mark_of_put_mark_other v s u k))
        ];
      }

  heard_note : par s v ≢ w → Heard n (λ x y. (x ≡ v) × (y ≡ w)) s (put_note v (max (note_of s v) (lev s v - lev s w)) s)
  heard_note d =
      let x = max (note_of s v) (lev s v - lev s w) in
      let m : note_of (put_note v x s) v ≡ x = note_of_put_note_same v x s (omega arith) in
      record {
        forest = put_note_forest s v x;
        same_held = put_note_held v x s;
        long_note = put_note_length v x s;
        long_mark = ap length (put_note_mark v x s);
        note_more = λ u. elim (ℕ_discrete u v) [
          | yes k ↦ rw k (omega arith)
          | no k ↦ omega (arith, note_of_put_note_other v x s u k)
        ];
        note_link_lem = λ a b h (i, j) q. rw (i, j) (omega arith);
        note_hit = λ u. elim (ℕ_discrete u v) [
          | yes k ↦ elim (dec_le (lev s v - lev s w) (note_of s v)) [
            | yes g ↦ inl (rw k (omega arith))
            | no g ↦ inr (w, (k, refl), (rw k d), rw k (omega arith))
          ]
          | no k ↦ inl (note_of_put_note_other v x s u k)
        ];
        mark_more = λ u g. omega (arith, same_mark_of (put_note v x s) s (put_note_mark v x s) u);
        mark_link = λ u h (i, j). absurd (d (ap (par s) (sym i) ∙ j));
        mark_hit = λ u g. inl (omega (arith, same_mark_of (put_note v x s) s (put_note_mark v x s) u));
      }

  heard_hear : Heard n (λ x y. (x ≡ v) × (y ≡ w)) s (hear v w s)
  heard_hear = elim (ℕ_discrete (par s v) w) [
    | yes e ↦ rw (hear_parent v w s e) (heard_mark e)
    | no d ↦ rw (hear_other v w s d) (heard_note d)
  ]

  hear_crossed : (hear v w s).crossed ≡ s.crossed
  hear_crossed = elim (ℕ_discrete (par s v) w) [
    | yes e ↦ ap (λ (t : Tables). t.crossed) (hear_parent v w s e) ∙ put_mark_crossed v s
    | no d ↦ ap (λ (t : Tables). t.crossed) (hear_other v w s d) ∙ put_note_crossed v _ s
  ]

-- Who is above whom, as the test says.
pub above_test : (t : Tables) (a b : ℕ) → T (above t a b) ↔ Over (par t) (lev t) a b
unfolding above
above_test t a b = (eqb→eq (up (par t) (lev t b - lev t a) b) a, eq_to_eqb (up (par t) (lev t b - lev t a) b) a)

pub child_facts : (t : Tables) (v c : ℕ) → T (child_of t v c) ↔ ((par t c ≡ v) × (c ≢ v))
unfolding child_of
child_facts t v c =
    let a = eqb (par t c) v in
    let b = eqb c v in (
      (λ q. (eqb→eq (par t c) v (and_l a (not b) q), (λ e. T_not b (and_r a (not b) q) (eq_to_eqb c v e)))),
      (λ (e, d). and_intro a (not b) (eq_to_eqb (par t c) v e) (not_T b (λ q. d (eqb→eq c v q)))),
    )

-- The pass is marked false by a link of R where neither end is above the other, and by nothing else.
pub record Crosses (R : ℕ → ℕ → Type 0) (s t : Tables) : Type 0 where
  pub cross_more : T s.crossed → T t.crossed
  pub cross_link : (u w : ℕ) → R u w → (T (above s u w) → ⊥) → (T (above s w u) → ⊥) → T t.crossed
  pub cross_hit : T t.crossed → T s.crossed ⊎ ((u : ℕ) × (w : ℕ) × R u w × (T (above s u w) → ⊥) × (T (above s w u) → ⊥))

-- One link.
module _ {n : ℕ} (a b : ℕ) (s : Tables) (hn : length s.note ≡ n) (hm : length s.mark ≡ n) (ha : a < n) (hb : b < n) where
  heard_hears : Heard n (λ x y. T (between (a, b) x y)) s (hear b a (hear a b s))
  heard_hears =
      let H = heard_hear a b s hn hm ha in
      heard_iff
      (λ x y r. elim r [
        | inl (i, j) ↦ rw (i, j) (between_here a b)
        | inr (i, j) ↦ rw (i, j) (between_turn (a, b) a b (between_here a b))
      ])
      (λ x y r. elim (between_elim a b x y r) [ inl (i, j) ↦ inl (sym i, sym j) | inr (i, j) ↦ inr (sym j, sym i) ])
      (heard_both H (heard_hear b a (hear a b s) (H.long_note ∙ hn) (H.long_mark ∙ hm) hb))

  hears_crossed : (hear b a (hear a b s)).crossed ≡ s.crossed
  hears_crossed =
      let H = heard_hear a b s hn hm ha in
      hear_crossed b a (hear a b s) (H.long_note ∙ hn) (H.long_mark ∙ hm) hb ∙ hear_crossed a b s hn hm ha

  heard_link : Heard n (λ x y. T (between (a, b) x y)) s (read_link s (a, b))
  unfolding read_link
  heard_link =
      let h = hear b a (hear a b s) in
      pick_all (Heard n (λ x y. T (between (a, b) x y)) s) (above s a b || above s b a) h (put_crossed true h) heard_hears
      (heard_iff (λ x y r. elim r [ inl t ↦ t | inr t ↦ absurd t ]) (λ x y t. inl t)
      (heard_both heard_hears (heard_none n h (put_crossed true h) (put_crossed_forest h true) (put_crossed_held true h) (put_crossed_note true h) (put_crossed_mark true h))))

  crosses_link : Crosses (λ x y. T (between (a, b) x y)) s (read_link s (a, b))
  unfolding read_link
  crosses_link =
      let h = hear b a (hear a b s) in
      let c = above s a b || above s b a in
      elim (T_dec c) [
        | yes t ↦
            let e : (pick c h (put_crossed true h)).crossed ≡ s.crossed = rw (T_true c t, pick_true) hears_crossed in
            record {
              cross_more = λ q. rw e q;
              cross_link = λ u w r f g. absurd (elim (or_cases (above s a b) (above s b a) t) [
                | inl q ↦ elim (between_elim a b u w r) [ inl (i, j) ↦ f (rw (i, j) at q) | inr (i, j) ↦ g (rw (i, j) at q) ]
                | inr q ↦ elim (between_elim a b u w r) [ inl (i, j) ↦ g (rw (i, j) at q) | inr (i, j) ↦ f (rw (i, j) at q) ]
              ]);
              cross_hit = λ q. inl (rw e at q);
            }
        | no t ↦
            let e : (pick c h (put_crossed true h)).crossed ≡ true = rw (T_false c t, pick_false) (put_crossed_crossed true h) in
            record {
              cross_more = λ q. rw e tt;
              cross_link = λ u w r f g. rw e tt;
              cross_hit = λ q. inr (a, b, between_here a b, (λ k. t (or_l (above s a b) (above s b a) k)), (λ k. t (or_r (above s a b) (above s b a) k)));
            }
      ]

pub same_above : {s t : Tables} → SameForest t s → above t ≡ above s
unfolding above
same_above {s} {t} e =
    ap {B = ℕ → ℕ → Bool} (λ (p : ℕ → ℕ) (a b : ℕ). eqb (up p (lev t b - lev t a) b) a) (same_par e)
    ∙ ap {B = ℕ → ℕ → Bool} (λ (l : ℕ → ℕ) (a b : ℕ). eqb (up (par s) (l b - l a) b) a) (same_lev e)

-- The whole list.
module _ {n : ℕ} where
  pub heard_links : (g : List Link) (s : Tables) → length s.note ≡ n → length s.mark ≡ n → Among n (linked g) → Heard n (λ x y. T (linked g x y)) s (read_links s g)
  unfolding read_links
  heard_links [] s hn hm A = heard_iff (λ x y r. absurd r) (λ x y t. linked_nil x y t) (heard_none n s s (forest_refl s) refl refl refl)
  heard_links ((a, b) ∷ g) s hn hm A =
      let (ha, hb, d) = A a b (linked_head (a, b) g a b (between_here a b)) in
      let H = heard_link a b s hn hm ha hb in
      heard_iff
      (λ x y r. elim r [ inl t ↦ linked_head (a, b) g x y t | inr t ↦ linked_tail (a, b) g x y t ])
      (λ x y t. linked_cases (a, b) g x y t)
      (heard_both H (heard_links g (read_link s (a, b)) (H.long_note ∙ hn) (H.long_mark ∙ hm) (λ x y t. A x y (linked_tail (a, b) g x y t))))

  pub crosses_links : (g : List Link) (s : Tables) → length s.note ≡ n → length s.mark ≡ n → Among n (linked g) → Crosses (λ x y. T (linked g x y)) s (read_links s g)
  unfolding read_links
  crosses_links [] s hn hm A = record { cross_more = λ q. q; cross_link = λ u w r f h. absurd (linked_nil u w r); cross_hit = λ q. inl q }
  crosses_links ((a, b) ∷ g) s hn hm A =
      let (ha, hb, d) = A a b (linked_head (a, b) g a b (between_here a b)) in
      let H = heard_link a b s hn hm ha hb in
      let C = crosses_link a b s hn hm ha hb in
      let K = crosses_links g (read_link s (a, b)) (H.long_note ∙ hn) (H.long_mark ∙ hm) (λ x y t. A x y (linked_tail (a, b) g x y t)) in
      let e : above (read_link s (a, b)) ≡ above s = same_above H.forest in
      record {
        cross_more = λ q. K.cross_more (C.cross_more q);
        cross_link = λ u w r f h. elim (linked_cases (a, b) g u w r) [
          | inl t ↦ K.cross_more (C.cross_link u w t f h)
          | inr t ↦ K.cross_link u w t (rw e f) (rw e h)
        ];
        cross_hit = λ q. elim (K.cross_hit q) [
          | inl t ↦ elim (C.cross_hit t) [ inl m ↦ inl m | inr (u, w, r, f, h) ↦ inr (u, w, linked_head (a, b) g u w r, f, h) ]
          | inr (u, w, r, f, h) ↦ inr (u, w, linked_tail (a, b) g u w r, (rw e at f), (rw e at h))
        ];
      }

-- Blocks add up to one list.
pub read_append : (t : Tables) (g h : List Link) → read_links t (g ++ h) ≡ read_links (read_links t g) h
unfolding read_links
read_append t [] h = refl
read_append t (e ∷ g) h = read_append (read_link t e) g h

-- What reading a list leaves of a forest that stands, where no note stood.
module _ {n : ℕ} {t : Tables} (S : Standing n t) (Z : Unnoted n t) (g : List Link) (A : Among n (linked g)) where
  heard : Heard n (λ x y. T (linked g x y)) t (read_links t g)
  heard = heard_links g t S.long_note S.long_mark A

  crosses : Crosses (λ x y. T (linked g x y)) t (read_links t g)
  crosses = crosses_links g t S.long_note S.long_mark A

  pub read_same : SameForest (read_links t g) t
  read_same = heard.forest

  -- The mark stands exactly where the parent link was read.
  mark_read : (v : ℕ) → v < n → (0 < mark_of (read_links t g) v) ↔ T (linked g v (par t v))
  mark_read v h = (
    (λ q. elim (heard.mark_hit v q) [ inl k ↦ absurd (omega (arith, unnoted_mark Z v)) | inr r ↦ r ]),
    heard.mark_link v h,
  )

  -- The pass is false exactly where a link was read that has neither end above the other.
  one_way : (T (read_links t g).crossed → ⊥) → (u v : ℕ) → T (linked g u v) → Above (par t) u v ⊎ Above (par t) v u
  one_way f u v r = elim (T_dec (above t u v)) [
    | yes a ↦ inl (lev t v - lev t u, (above_test t u v).0 a)
    | no a ↦ elim (T_dec (above t v u)) [
      | yes b ↦ inr (lev t u - lev t v, (above_test t v u).0 b)
      | no b ↦ absurd (f (crosses.cross_link u v r a b))
    ]
  ]

  uncrossed : ((u v : ℕ) → T (linked g u v) → Above (par t) u v ⊎ Above (par t) v u) → T (read_links t g).crossed → ⊥
  uncrossed f q = elim (crosses.cross_hit q) [
    | inl k ↦ rw Z.no_cross at k
    | inr (u, w, r, i, j) ↦ elim (f u w r) [
      | inl a ↦ i ((above_test t u w).1 ((above_over (standing_levels S) u w (A u w r).1).0 a))
      | inr a ↦ j ((above_test t w u).1 ((above_over (standing_levels S) w u (A u w r).0).0 a))
    ]
  ]

  -- The note, by three facts: at most the own level, at most that of each fragment linked but the parent, and one of these.
  low_level : (v : ℕ) → lowest (read_links t g) v ≤ lev t v
  unfolding lowest
  low_level v = rw (same_lev read_same) (omega arith)

  low_link : (v w : ℕ) → v < n → T (linked g v w) → w ≢ par t v → lowest (read_links t g) v ≤ lev t w
  unfolding lowest
  low_link v w h r d =
      let q : lev t v - lev t w ≤ note_of (read_links t g) v = heard.note_link_lem v w h r (λ e. d (sym e)) in
      rw (same_lev read_same) (omega arith)

  low_hit : (v : ℕ) → (lowest (read_links t g) v ≡ lev t v) ⊎ ((w : ℕ) × T (linked g v w) × (w ≢ par t v) × (lowest (read_links t g) v ≡ lev t w))
  unfolding lowest
  low_hit v = rw (same_lev read_same) (elim (heard.note_hit v) [
    | inl e ↦ inl (omega (arith, unnoted_note Z v))
    | inr (w, r, d, e) ↦ elim (dec_le (lev t w) (lev t v)) [
      | yes k ↦ inr (w, r, (λ z. d (sym z)), omega arith)
      | no k ↦ inl (omega arith)
    ]
  ])

  -- 'the least of its own level and the levels of fragments linked to it, its parent left out'
  note_least : (v : ℕ) → v < n → lowest (read_links t g) v ≡ least (λ w. linked g v w && not (eqb w (par t v))) (lev t) (lev t v) n
  note_least v h =
      let s = read_links t g in
      let q : ℕ → Bool = λ w. linked g v w && not (eqb w (par t v)) in
      let down : lowest s v ≤ least q (lev t) (lev t v) n = elim (least_hit q (lev t) (lev t v) n) [
        | inl e ↦ omega (arith, low_level v)
        | inr (w, i, k, e) ↦ omega (arith, low_link v w h (and_l (linked g v w) (not (eqb w (par t v))) k) (λ z. T_not (eqb w (par t v)) (and_r (linked g v w) (not (eqb w (par t v))) k) (eq_to_eqb w (par t v) z)))
      ] in
      let up : least q (lev t) (lev t v) n ≤ lowest s v = elim (low_hit v) [
        | inl e ↦ omega (arith, least_default q (lev t) (lev t v) n)
        | inr (w, r, d, e) ↦ omega (arith, least_le q (lev t) (lev t v) n w (A v w r).1 (and_intro (linked g v w) (not (eqb w (par t v))) r (not_T (eqb w (par t v)) (λ z. d (eqb→eq w (par t v) z)))))
      ] in
      omega arith

  -- What is noted is what the reading rules say of the list.
  pub read_notes : NotesOf n g (read_links t g)
  read_notes = record {
    standing = standing_same read_same (heard.long_note ∙ S.long_note) (heard.long_mark ∙ S.long_mark) S;
    among = A;
    notes = rw (same_par read_same, same_lev read_same) note_least;
    marks = rw (same_par read_same) mark_read;
    uncrossed = rw (same_par read_same) (one_way, uncrossed);
  }

-- A list read from cleared notes leaves the forest as it was, and its own notes.
module _ {n : ℕ} {t : Tables} (S : Standing n t) (g : List Link) (A : Among n (linked g)) where
  pub read_forest : SameForest (read_links (cleared n t) g) t
  read_forest = forest_trans (read_same (standing_cleared S) (cleared_unnoted n t) g A) (cleared_forest t n)

  pub cleared_notes : NotesOf n g (read_links (cleared n t) g)
  cleared_notes = read_notes (standing_cleared S) (cleared_unnoted n t) g A

  pub note_exact : (v : ℕ) → v < n → lowest (read_links (cleared n t) g) v ≡ least (λ w. linked g v w && not (eqb w (par t v))) (lev t) (lev t v) n
  note_exact = rw (same_par read_forest, same_lev read_forest) at cleared_notes.notes
