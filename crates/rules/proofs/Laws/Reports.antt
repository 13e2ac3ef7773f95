-- What the reading pass accepts and what the questions answer, against removal.
-- Assumes nothing.
use Rattle.std.specs.Prelude.{ℕ, ◌≤◌, ◌<◌, ◌≡◌, refl, Bool, ◌&&◌, not, List, ◌⊎◌, ◌≢◌, ◌↔◌, T, leb, ltb}
use Rattle.std.proofs.Common.{sym, ◌∙◌, subst, arith, eqb→eq, leb→le, le→leb, ltb→lt, lt→ltb, eq-eqb, ne_eqb}
use Rattle.std.proofs.Math.Logic.{inl, inr}
use Rattle.std.proofs.Math.Decide.{ℕ_discrete, dec_lt, dec_le}
use Rattle.std.proofs.Math.Dec.{eqb_refl, eqb, not_T, T_not}
use Rattle.base.specs.Pick.{pick_true, pick_false}
use Rattle.base.specs.Truth.{and_intro, and_l, and_r, or_l, or_r, or_cases, T_dec, T_ext, eq_to_eqb}
use Rattle.base.specs.Link.{Link}
use Rattle.rules.specs.Links.{Links, Undirected, Among, SameSet, linked, Joined, step}
use Rattle.rules.specs.Forest.{up, DepthFirst, Levels, Over}
use Rattle.rules.specs.Search.{count, every, first, least}
use Rattle.rules.specs.Tables.{Tables, mark_of, par, lev, cleared}
use Rattle.rules.specs.Removal.{Sole, Cut, PieceIn, Piece}
use Rattle.rules.specs.Reading.{above, read_links, seen, accepted, lowest, reach, child_of, sole_below, sole, cut, root_of, piece}
use Rattle.rules.specs.Facts.{Standing, NotesOf}
pub use Rattle.rules.specs.Facts.{SameReports}
use Rattle.rules.proofs.Laws.Chain.{one}
use Rattle.rules.proofs.Laws.Search.{some_intro, some_elim, every_at, every_intro, first_passes, first_below, least_default, least_le, least_hit, count_two, two_count}
use Rattle.rules.proofs.Laws.Links.{linked_turn}
use Rattle.rules.proofs.Laws.Up.{above_over, over_refl, over_lev, par_in, level_arrives}
use Rattle.rules.proofs.Laws.Tables.{same_par, standing_levels}
use Rattle.rules.proofs.Laws.Removal.{Spanned, Reaches, Other, stay, lone, root_whole, root_parts, inner_whole, inner_parts, joined_root, root_joined}
use Rattle.rules.proofs.Laws.Without.{chain_link, chain_fragment, sole_turn, set_sole, set_cut, set_piece}
use Rattle.rules.proofs.Laws.Reading.{above_test, child_facts, read_forest, cleared_notes}

-- The tests of the reading rules, as facts.
seen_cases : (t : Tables) (v : ℕ) → T (seen t v) → (par t v ≡ v) ⊎ (0 < mark_of t v)
unfolding seen
seen_cases t v q = elim (or_cases (eqb (par t v) v) (ltb 0 (mark_of t v)) q) [
  | inl a ↦ inl (eqb→eq (par t v) v a)
  | inr a ↦ inr (ltb→lt 0 (mark_of t v) a)
]

cases_seen : (t : Tables) (v : ℕ) → (par t v ≡ v) ⊎ (0 < mark_of t v) → T (seen t v)
unfolding seen
cases_seen t v c = elim c [
  | inl e ↦ or_l (eqb (par t v) v) (ltb 0 (mark_of t v)) (eq_to_eqb (par t v) v e)
  | inr h ↦ or_r (eqb (par t v) v) (ltb 0 (mark_of t v)) (lt→ltb 0 (mark_of t v) h)
]

accepted_facts : (n : ℕ) (t : Tables) → T (accepted n t) ↔ ((T t.crossed → ⊥) × ((v : ℕ) → v < n → (par t v ≡ v) ⊎ (0 < mark_of t v)))
unfolding accepted
accepted_facts n t = (
  (λ q. (T_not t.crossed (and_l (not t.crossed) (every (seen t) n) q), (λ v h. seen_cases t v (every_at (seen t) n (and_r (not t.crossed) (every (seen t) n) q) v h)))),
  (λ (f, c). and_intro (not t.crossed) (every (seen t) n) (not_T t.crossed f) (every_intro (seen t) n (λ v h. cases_seen t v (c v h)))),
)

-- A depth-first forest with its levels.
depth_spanned : {n : ℕ} {p l : ℕ → ℕ} {E : Links} → Levels n p l → Undirected E → Among n E → DepthFirst n p E → Spanned n p l E
depth_spanned L s A D = record {
  levels = L;
  turn = s;
  among = A;
  tree = D.tree;
  spans = λ u v q. elim (D.spans u v q) [
    | inl a ↦ inl ((above_over L u v (A u v q).1).0 a)
    | inr a ↦ inr ((above_over L v u (A u v q).0).0 a)
  ];
}

-- Where the notes are those of a list.
module _ {n : ℕ} {g : List Link} {t : Tables} (N : NotesOf n g t) where
  L : Levels n (par t) (lev t)
  L = standing_levels N.standing

  accepted_depth : T (accepted n t) → DepthFirst n (par t) (linked g)
  accepted_depth q =
      let (f, c) = (accepted_facts n t).0 q in
      record {
        inside = par_in L;
        rooted = λ v h. (lev t v, level_arrives L v h);
        tree = λ v h d. elim (c v h) [ inl e ↦ absurd (d e) | inr m ↦ (N.marks v h).0 m ];
        spans = N.uncrossed.0 f;
      }

  depth_accepted : DepthFirst n (par t) (linked g) → T (accepted n t)
  depth_accepted D = (accepted_facts n t).1 (
    N.uncrossed.1 D.spans,
    (λ v h. elim (ℕ_discrete (par t v) v) [ yes e ↦ inl e | no d ↦ inr ((N.marks v h).1 (D.tree v h d)) ]),
  )

  -- The pass is accepted exactly where the forest is a depth-first forest of the list.
  pub accepts : T (accepted n t) ↔ DepthFirst n (par t) (linked g)
  accepts = (accepted_depth, depth_accepted)

  -- A fragment's note, by three facts.
  other : ℕ → ℕ → Bool
  other v w = linked g v w && not (eqb w (par t v))

  low_is : (v : ℕ) → v < n → lowest t v ≡ least (other v) (lev t) (lev t v) n
  unfolding other
  low_is = N.notes

  low_level : (v : ℕ) → v < n → lowest t v ≤ lev t v
  low_level v h = omega (arith, low_is v h, least_default (other v) (lev t) (lev t v) n)

  low_link : (v w : ℕ) → v < n → T (linked g v w) → w ≢ par t v → lowest t v ≤ lev t w
  unfolding other
  low_link v w h r d = omega (arith, low_is v h, least_le (other v) (lev t) (lev t v) n w (N.among v w r).1 (and_intro (linked g v w) (not (eqb w (par t v))) r (not_T (eqb w (par t v)) (λ z. d (eqb→eq w (par t v) z)))))

  low_hit : (v : ℕ) → v < n → (lowest t v ≡ lev t v) ⊎ ((w : ℕ) × T (linked g v w) × (w ≢ par t v) × (lowest t v ≡ lev t w))
  unfolding other
  low_hit v h = elim (least_hit (other v) (lev t) (lev t v) n) [
    | inl e ↦ inl (low_is v h ∙ e)
    | inr (w, i, k, e) ↦
        let a = linked g v w in
        let b = eqb w (par t v) in
        inr (w, and_l a (not b) k, (λ z. T_not b (and_r a (not b) k) (eq_to_eqb w (par t v) z)), low_is v h ∙ e)
  ]

  -- The reach that the tables give.
  note_reaches : Reaches n (par t) (lev t) (linked g) (reach n t)
  unfolding reach
  note_reaches = record {
    reach_level = λ c h. omega (arith, least_default (above t c) (lowest t) (lowest t c) n, low_level c h);
    reach_link = λ c w x h o r d. omega (arith, least_le (above t c) (lowest t) (lowest t c) n w h ((above_test t c w).1 o), low_link w x h r d);
    reach_hit = λ c h. elim (least_hit (above t c) (lowest t) (lowest t c) n) [
      | inl e ↦ elim (low_hit c h) [
        | inl q ↦ inl (e ∙ q)
        | inr (x, r, d, q) ↦ inr (c, x, h, over_refl L c, r, d, e ∙ q)
      ]
      | inr (w, hw, q, e) ↦ elim (low_hit w hw) [
        | inl z ↦ inl (omega (arith, least_default (above t c) (lowest t) (lowest t c) n, low_level c h, over_lev L c w hw ((above_test t c w).0 q)))
        | inr (x, r, d, z) ↦ inr (w, x, hw, (above_test t c w).0 q, r, d, e ∙ z)
      ]
    ];
  }

sole_below_lem : (n : ℕ) (t : Tables) (p c : ℕ) → T (sole_below n t p c) ↔ ((par t c ≡ p) × (c ≢ p) × (reach n t c ≡ lev t c))
unfolding sole_below
sole_below_lem n t p c =
    let a = child_of t p c in
    let b = eqb (reach n t c) (lev t c) in (
      (λ q. let (e, d) = (child_facts t p c).0 (and_l a b q) in (e, d, eqb→eq (reach n t c) (lev t c) (and_r a b q))),
      (λ (e, d, f). and_intro a b ((child_facts t p c).1 (e, d)) (eq_to_eqb (reach n t c) (lev t c) f)),
    )

root_facts : (t : Tables) (v : ℕ) → root_of t v ≡ up (par t) (lev t v) v
unfolding root_of
root_facts t v = refl

-- 'Piece: the smallest fragment of the tree': of any forest, read or not.
pub piece_of_tree : (n : ℕ) (t : Tables) (v : ℕ) → v < n → (piece n t v < n) × (root_of t (piece n t v) ≡ root_of t v) × ((u : ℕ) → root_of t u ≡ root_of t v → piece n t v ≤ u)
unfolding piece
piece_of_tree n t v h =
    let p : ℕ → Bool = λ u. eqb (root_of t u) (root_of t v) in
    let g : first p n ≤ v = first_below p n v h (eqb_refl (root_of t v)) in (
      omega arith,
      eqb→eq (root_of t (first p n)) (root_of t v) (first_passes p n (omega arith)),
      (λ u e. elim (dec_lt u n) [ yes k ↦ first_below p n u k (eq_to_eqb (root_of t u) (root_of t v) e) | no k ↦ omega arith ]),
    )

cut_root : (n : ℕ) (t : Tables) (v : ℕ) → par t v ≡ v → T (cut n t v) ↔ (2 ≤ count (child_of t v) n)
unfolding cut
cut_root n t v e = rw (eq-eqb (par t v) v e, pick_true) (leb→le 2 (count (child_of t v) n), le→leb 2 (count (child_of t v) n))

cut_inner : (n : ℕ) (t : Tables) (v : ℕ) → par t v ≢ v → T (cut n t v) ↔ ((c : ℕ) × (c < n) × (par t c ≡ v) × (c ≢ v) × (lev t v ≤ reach n t c))
unfolding cut
cut_inner n t v d = rw (ne_eqb (par t v) v d, pick_false) (
  (λ q.
      let (c, h, r) = some_elim p n q in
      let (e, k) = (child_facts t v c).0 (and_l (child_of t v c) (leb (lev t v) (reach n t c)) r) in
      (c, h, e, k, leb→le (lev t v) (reach n t c) (and_r (child_of t v c) (leb (lev t v) (reach n t c)) r))),
  (λ (c, h, e, k, m). some_intro p n c h (and_intro (child_of t v c) (leb (lev t v) (reach n t c)) ((child_facts t v c).1 (e, k)) (le→leb (lev t v) (reach n t c) m))),
)
  where
    p : ℕ → Bool
    p c = child_of t v c && leb (lev t v) (reach n t c)

-- The piece in a depth-first forest of a set of links, read or not.
spanned_piece : {n : ℕ} {E : Links} (t : Tables) → Spanned n (par t) (lev t) E → (v : ℕ) → v < n → PieceIn E v (piece n t v)
spanned_piece {n} t P v h =
    let (k, e, f) = piece_of_tree n t v h in
    record {
      joined = root_joined P v (piece n t v) h k (sym (root_facts t v) ∙ sym e ∙ root_facts t (piece n t v));
      smallest = λ u j. f u (root_facts t u ∙ sym (joined_root P v u j) ∙ sym (root_facts t v));
    }

pub forest_piece : {n : ℕ} {t : Tables} {E : Links} → Standing n t → Undirected E → Among n E → DepthFirst n (par t) E → (v : ℕ) → v < n → PieceIn E v (piece n t v)
forest_piece {n} {t} S s A D = spanned_piece t (depth_spanned (standing_levels S) s A D)

-- Where the forest is a depth-first forest of the list as well, the questions answer by removal.
module _ {n : ℕ} {g : List Link} {t : Tables} (N : NotesOf n g t) (D : DepthFirst n (par t) (linked g)) where
  spanned : Spanned n (par t) (lev t) (linked g)
  spanned = depth_spanned (standing_levels N.standing) (linked_turn g) N.among D

  reaches : Reaches n (par t) (lev t) (linked g) (reach n t)
  reaches = note_reaches N

  -- The lower end of a sole link.
  sole_down : (p c : ℕ) → c < n → T (sole_below n t p c) → Sole g c p
  sole_down p c h q =
      let (i, d, f) = (sole_below_lem n t p c).0 q in
      let k : par t c ≢ c = λ z. d (sym z ∙ i) in
      record {
        listed = rw i at (spanned.tree c h k);
        alone = λ j. stay spanned reaches c h k f (subst (λ (x : ℕ). Joined (Other (linked g) c x) c x) (sym i) ((chain_link c p g).0 j));
      }

  sole_up : (a b : ℕ) → Sole g a b → Over (par t) (lev t) a b → T (sole_below n t a b)
  sole_up a b z o =
      let (e, f) = lone spanned reaches a b z.listed (λ j. z.alone ((chain_link a b g).1 j)) o in
      (sole_below_lem n t a b).1 (e, (λ k. (N.among a b z.listed).2 (sym k)), f)

  pub noted_sole : (a b : ℕ) → a < n → b < n → T (sole n t a b) ↔ Sole g a b
  unfolding sole
  noted_sole a b ha hb = (
    (λ q. elim (or_cases (sole_below n t a b) (sole_below n t b a) q) [
      | inl r ↦ sole_turn g b a (sole_down a b hb r)
      | inr r ↦ sole_down b a ha r
    ]),
    (λ z. elim (spanned.spans a b z.listed) [
      | inl o ↦ or_l (sole_below n t a b) (sole_below n t b a) (sole_up a b z o)
      | inr o ↦ or_r (sole_below n t a b) (sole_below n t b a) (sole_up b a (sole_turn g a b z) o)
    ]),
  )

  pub noted_piece : (v : ℕ) → v < n → Piece g v (piece n t v)
  noted_piece = spanned_piece t spanned

  up_link : (v c : ℕ) → c < n → par t c ≡ v → c ≢ v → T (linked g c v)
  up_link v c h e d = rw e at (spanned.tree c h (λ z. d (sym z ∙ e)))

  noted_cut_root : (v : ℕ) → v < n → par t v ≡ v → T (cut n t v) ↔ Cut g v
  noted_cut_root v h e =
      let C = cut_root n t v e in (
        (λ q.
            let (i, j, l, hj, ci, cj) = count_two (child_of t v) n (C.0 q) in
            let (ei, di) = (child_facts t v i).0 ci in
            let (ej, dj) = (child_facts t v j).0 cj in
            record {
              one = i;
              two = j;
              other_one = di;
              other_two = dj;
              parts = record {
                joined = step (up_link v i (omega arith) ei di) (one (linked_turn g j v (up_link v j hj ej dj)));
                through = λ c. root_parts spanned v h e i j (omega arith) hj ei ej di dj (omega arith) ((chain_fragment v g).0 c);
              };
            }),
        (λ z. elim (dec_le 2 (count (child_of t v) n)) [
          | yes m ↦ C.1 m
          | no m ↦ absurd (z.parts.through ((chain_fragment v g).1 (root_whole spanned v h e
              (λ c d hc hd ec ed dc dd. elim (ℕ_discrete c d) [ yes k ↦ k | no k ↦ absurd (m (two_count (child_of t v) n c d k hc hd ((child_facts t v c).1 (ec, dc)) ((child_facts t v d).1 (ed, dd)))) ])
              z.one z.two z.other_one z.other_two z.parts.joined)))
        ]),
      )

  noted_cut_inner : (v : ℕ) → v < n → par t v ≢ v → T (cut n t v) ↔ Cut g v
  noted_cut_inner v h e =
      let C = cut_inner n t v e in (
        (λ q.
            let (c, hc, i, d, m) = C.0 q in
            record {
              one = c;
              two = par t v;
              other_one = d;
              other_two = e;
              parts = record {
                joined = step (up_link v c hc i d) (one (spanned.tree v h e));
                through = λ j. inner_parts spanned reaches v h e c hc i d m ((chain_fragment v g).0 j);
              };
            }),
        (λ z. elim (T_dec (cut n t v)) [
          | yes q ↦ q
          | no q ↦ absurd (z.parts.through ((chain_fragment v g).1 (inner_whole spanned reaches v h e
              (λ c hc k d. elim (dec_lt (reach n t c) (lev t v)) [ yes m ↦ m | no m ↦ absurd (q (C.1 (c, hc, k, d, omega arith))) ])
              z.one z.two z.other_one z.other_two z.parts.joined)))
        ]),
      )

  pub noted_cut : (v : ℕ) → v < n → T (cut n t v) ↔ Cut g v
  noted_cut v h = elim (ℕ_discrete (par t v) v) [ yes e ↦ noted_cut_root v h e | no d ↦ noted_cut_inner v h d ]

-- Two depth-first forests of one set, with the notes of lists that tell it, report the same.
pub noted_reports : {n : ℕ} {g h : List Link} {s t : Tables} → NotesOf n g s → NotesOf n h t → DepthFirst n (par s) (linked g) → DepthFirst n (par t) (linked h) → SameSet g h → SameReports n s t
noted_reports {n} {g} {h} {s} {t} M N C D E =
    let F : SameSet h g = λ u v. sym (E u v) in
    record {
      same_piece = λ v i. set_piece g h E v (piece n s v) (piece n t v) (noted_piece M C v i) (noted_piece N D v i);
      same_sole = λ a b i j. T_ext (sole n s a b) (sole n t a b)
          (λ q. (noted_sole N D a b i j).1 (set_sole g h E a b ((noted_sole M C a b i j).0 q)))
          (λ q. (noted_sole M C a b i j).1 (set_sole h g F a b ((noted_sole N D a b i j).0 q)));
      same_cut = λ v i. T_ext (cut n s v) (cut n t v)
          (λ q. (noted_cut N D v i).1 (set_cut g h E v ((noted_cut M C v i).0 q)))
          (λ q. (noted_cut M C v i).1 (set_cut h g F v ((noted_cut N D v i).0 q)));
    }

-- What a list read from cleared notes leaves.
module _ {n : ℕ} {t : Tables} (S : Standing n t) (g : List Link) (A : Among n (linked g)) where
  pub reading_exact : T (accepted n (read_links (cleared n t) g)) ↔ DepthFirst n (par t) (linked g)
  reading_exact = rw (same_par (read_forest S g A)) at (accepts (cleared_notes S g A))

  module _ (Y : T (accepted n (read_links (cleared n t) g))) where
    pub sole_exact : (a b : ℕ) → a < n → b < n → T (sole n (read_links (cleared n t) g) a b) ↔ Sole g a b
    sole_exact = noted_sole (cleared_notes S g A) ((accepts (cleared_notes S g A)).0 Y)

    pub cut_exact : (v : ℕ) → v < n → T (cut n (read_links (cleared n t) g) v) ↔ Cut g v
    cut_exact = noted_cut (cleared_notes S g A) ((accepts (cleared_notes S g A)).0 Y)

    pub piece_exact : (v : ℕ) → v < n → Piece g v (piece n (read_links (cleared n t) g) v)
    piece_exact = noted_piece (cleared_notes S g A) ((accepts (cleared_notes S g A)).0 Y)

-- Two forests that a reading accepts, on lists of one set, report the same.
pub equal_reports : {n : ℕ} {s t : Tables} → Standing n s → Standing n t → (g h : List Link) → Among n (linked g) → SameSet g h → T (accepted n (read_links (cleared n s) g)) → T (accepted n (read_links (cleared n t) h)) → SameReports n (read_links (cleared n s) g) (read_links (cleared n t) h)
equal_reports {n} {s} {t} S Z g h A E X Y =
    let M = cleared_notes S g A in
    let N = cleared_notes Z h (λ u v r. A u v (rw (E u v) r)) in
    noted_reports M N ((accepts M).0 X) ((accepts N).0 Y) E
