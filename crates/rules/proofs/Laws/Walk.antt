-- The walk of a piece is depth-first and reaches the whole piece.
-- Assumes nothing.
use Prim.Native.Nat.{ℕ, zero, suc, ◌+◌, ◌-◌, ◌*◌, ◌<◌, ◌≤◌}
use Rattle.std.specs.Prelude.{◌≡◌, refl, List, ◌&&◌, ◌⊎◌, ◌≢◌, T, ltb}
use Rattle.std.proofs.Common.{sym, ap, ◌∙◌, subst, arith, T_not, lt-ltb, le-ltb, eq-eqb, ne_eqb}
use Rattle.std.proofs.Math.Bool.{not}
use Rattle.std.proofs.Math.Logic.{inl, inr, ⊎_map}
use Rattle.std.proofs.Math.Decide.{ℕ_discrete, dec_lt}
use Rattle.std.proofs.Math.Dec.{not_T}
use Rattle.base.specs.Pick.{pick, pick_true, pick_false}
use Rattle.base.specs.Truth.{T_dec, and_l, and_r, and_intro}
use Rattle.base.specs.Link.{Link}
use Rattle.rules.specs.Links.{linked, JoinedBy, here}
use Rattle.rules.specs.Forest.{up, Over}
use Rattle.rules.specs.Search.{count}
use Rattle.rules.specs.Tables.{Tables, parent_of, rank, placed, par, lev, place}
use Rattle.rules.specs.Building.{Walk, next_of, reach_next, go_back, walk_step, walk_steps, walked}
use Rattle.rules.specs.Facts.{Standing, Loose, Ready, Walked}
use Rattle.rules.proofs.Laws.Chain.{join, one, carry}
use Rattle.rules.proofs.Laws.Links.{linked_turn}
use Rattle.rules.proofs.Laws.Up.{over_refl, over_up, over_down, over_antisym}
use Rattle.rules.proofs.Laws.Tables.{placed_rank, rank_placed, placed_loose, placed_or_loose, par_placed, standing_levels, standing_place, place_note, place_mark, place_held, place_crossed, parent_of_place_same, parent_of_place_other, rank_place_same, rank_place_other}
use Rattle.rules.proofs.Laws.Search.{first_passes, first_least, count_le, some_count}
use Rattle.rules.proofs.Laws.Kept.{Kept, place_count, kept_placed, parent_placed, over_rank, over_kept}

-- The fragments of the top's piece.
abbrev pub Member : ℕ → Tables → ℕ → Type 0
Member top t v = JoinedBy (linked t.held) top v

-- a is on b's way to the root in w.
abbrev OverIn : Tables → ℕ → ℕ → Type 0
OverIn w = Over (par w) (lev w)

-- What a walk has reached so far: Walked, of the reached fragments only.
record Reached (n top : ℕ) (t w : Tables) (deepest : ℕ) : Type 0 where
  standing : Standing n w
  same_note : w.note ≡ t.note
  same_mark : w.mark ≡ t.mark
  same_held : w.held ≡ t.held
  same_crossed : w.crossed ≡ t.crossed
  outside_parent : (v : ℕ) → (Member top t v → ⊥) → parent_of w v ≡ parent_of t v
  outside_rank : (v : ℕ) → (Member top t v → ⊥) → rank w v ≡ rank t v
  top_parent : parent_of w top ≡ parent_of t top
  top_rank : rank w top ≡ rank t top
  below : (v : ℕ) → Member top t v → v ≢ top → T (placed w v) → Member top t (parent_of w v) × T (linked t.held v (parent_of w v)) × (rank w v ≡ suc (rank w (parent_of w v)))
  under_top : (v : ℕ) → Member top t v → T (placed w v) → OverIn w top v
  spans : (u v : ℕ) → Member top t u → T (linked t.held u v) → T (placed w u) → T (placed w v) → OverIn w u v ⊎ OverIn w v u
  deepest_in : Member top t deepest
  deepest_placed : T (placed w deepest)
  deepest_most : (v : ℕ) → Member top t v → T (placed w v) → rank w v ≤ rank w deepest

-- A walk that stands at a fragment: what is not on the way to it was left for good, and has no unreached neighbour.
record Open (top : ℕ) (t w : Tables) (at : ℕ) : Type 0 where
  at_in : Member top t at
  at_placed : T (placed w at)
  shut : (v : ℕ) → Member top t v → T (placed w v) → (OverIn w v at → ⊥) → (x : ℕ) → T (linked t.held v x) → T (placed w x)

-- w' is w with one unplaced fragment more, x, under the fragment at.
record Grown (n : ℕ) (w w' : Tables) (at x : ℕ) : Type 0 where
  standing : Standing n w'
  same_note : w'.note ≡ w.note
  same_mark : w'.mark ≡ w.mark
  same_held : w'.held ≡ w.held
  same_crossed : w'.crossed ≡ w.crossed
  new : Loose w x
  new_parent : parent_of w' x ≡ at
  new_rank : rank w' x ≡ suc (rank w at)
  other_parent : (v : ℕ) → v ≢ x → parent_of w' v ≡ parent_of w v
  other_rank : (v : ℕ) → v ≢ x → rank w' v ≡ rank w v

-- Nothing unreached is next to a fragment.
abbrev Shut : Tables → Tables → ℕ → Type 0
Shut t w at = (x : ℕ) → T (linked t.held at x) → T (placed w x)

module _ {n top : ℕ} {t : Tables} (R : Ready n top t) where
  pub member_in : (v : ℕ) → Member top t v → v < n
  member_in v m = carry (λ (x : ℕ). x < n) (λ u x l h. (R.among u x l).1) m R.top_in

  next_member : (u v : ℕ) → Member top t u → T (linked t.held u v) → Member top t v
  next_member u v m l = join m (one l)

  only_top : (v : ℕ) → Member top t v → T (placed t v) → v ≡ top
  only_top v m p = elim (ℕ_discrete v top) [ yes e ↦ e | no d ↦ absurd (omega (arith, placed_rank t v p, R.others v m d)) ]

  top_reached : {w : Tables} {d : ℕ} → Reached n top t w d → T (placed w top)
  top_reached {w} W = rank_placed w top (omega (arith, W.top_rank, placed_rank t top R.top_placed))

  top_least : {w : Tables} {d : ℕ} → Reached n top t w d → (v : ℕ) → Member top t v → T (placed w v) → rank w top ≤ rank w v
  top_least {w} W v m p = over_rank W.standing top v (member_in v m) p (W.under_top v m p)

  starts : Reached n top t t top
  starts = record {
    standing = R.standing;
    same_note = refl;
    same_mark = refl;
    same_held = refl;
    same_crossed = refl;
    outside_parent = λ v m. refl;
    outside_rank = λ v m. refl;
    top_parent = refl;
    top_rank = refl;
    below = λ v m d p. absurd (d (only_top v m p));
    under_top = λ v m p. rw (only_top v m p) (over_refl (standing_levels R.standing) top);
    spans = λ u v m l p q. absurd ((R.among u v l).2 (only_top u m p ∙ sym (only_top v (next_member u v m l) q)));
    deepest_in = here;
    deepest_placed = R.top_placed;
    deepest_most = λ v m p. rw (only_top v m p) (omega arith);
  }

  opens : Open top t t top
  opens = record {
    at_in = here;
    at_placed = R.top_placed;
    shut = λ v m p o. absurd (o (rw (only_top v m p) (over_refl (standing_levels R.standing) top)));
  }

  -- Back to the fragment it came from, where nothing unreached is left.
  module _ {w : Tables} {d at : ℕ} (W : Reached n top t w d) (O : Open top t w at) where
    pops : at ≢ top → Shut t w at → Open top t w (parent_of w at)
    pops f c =
        let L = standing_levels W.standing in
        let h : at < n = member_in at O.at_in in
        record {
          at_in = (W.below at O.at_in f O.at_placed).0;
          at_placed = (parent_placed W.standing at h O.at_placed).1;
          shut = λ v m p o. elim (ℕ_discrete v at) [
            | yes e ↦ rw e c
            | no e ↦ O.shut v m p (λ q. o (rw (par_placed w at O.at_placed) at (over_up L v at h q e)))
          ];
        }

  -- On to a fragment that was not reached yet.
  module _ {w w' : Tables} {d at x : ℕ} (W : Reached n top t w d) (O : Open top t w at) (l : T (linked t.held at x)) (G : Grown n w w' at x) where
    new_in : Member top t x
    new_in = next_member at x O.at_in l

    -- A reached neighbour of the new one is still on the way: else it would have an unreached neighbour.
    on_way : (v : ℕ) → Member top t v → T (linked t.held v x) → T (placed w v) → OverIn w v at
    on_way v m k p = elim (ℕ_discrete (up (par w) (lev w at - lev w v) at) v) [
      | yes o ↦ o
      | no o ↦ absurd (omega (arith, placed_rank w x (O.shut v m p o x k), G.new))
    ]

    not_new : (v : ℕ) → T (placed w v) → v ≢ x
    not_new v p e = omega (arith, placed_rank w v p, ap (rank w) e, G.new)

    kept : Kept w w'
    kept = record { parent = λ v p. G.other_parent v (not_new v p); level = λ v p. G.other_rank v (not_new v p) }

    was_placed : (v : ℕ) → v ≢ x → T (placed w' v) → T (placed w v)
    was_placed v e p = rank_placed w v (omega (arith, placed_rank w' v p, G.other_rank v e))

    new_placed : T (placed w' x)
    new_placed = rank_placed w' x (omega (arith, G.new_rank))

    new_over : (a : ℕ) → OverIn w a at → OverIn w' a x
    new_over a o =
        let e : par w' x ≡ at = par_placed w' x new_placed ∙ G.new_parent in
        over_down (standing_levels G.standing) a x (member_in x new_in) (rw e (over_kept W.standing kept a at (member_in at O.at_in) O.at_placed o))

    old_over : (a b : ℕ) → Member top t b → T (placed w b) → OverIn w a b → OverIn w' a b
    old_over a b m p o = over_kept W.standing kept a b (member_in b m) p o

    discovers : (d' : ℕ) → (((d' ≡ x) × (rank w d < suc (rank w at))) ⊎ ((d' ≡ d) × (suc (rank w at) ≤ rank w d))) → Reached n top t w' d'
    discovers d' e =
        let S = W.standing in
        record {
          standing = G.standing;
          same_note = G.same_note ∙ W.same_note;
          same_mark = G.same_mark ∙ W.same_mark;
          same_held = G.same_held ∙ W.same_held;
          same_crossed = G.same_crossed ∙ W.same_crossed;
          outside_parent = λ v m. G.other_parent v (λ q. m (rw q new_in)) ∙ W.outside_parent v m;
          outside_rank = λ v m. G.other_rank v (λ q. m (rw q new_in)) ∙ W.outside_rank v m;
          top_parent = G.other_parent top (not_new top (top_reached W)) ∙ W.top_parent;
          top_rank = G.other_rank top (not_new top (top_reached W)) ∙ W.top_rank;
          below = λ v m f p. elim (ℕ_discrete v x) [
            | yes q ↦ rw (q, G.new_parent) (O.at_in, linked_turn t.held at x l, G.new_rank ∙ ap suc (sym (kept.level at O.at_placed)))
            | no q ↦
                let h = was_placed v q p in
                let (m', k, r) = W.below v m f h in
                rw (G.other_parent v q) (m', k, G.other_rank v q ∙ r ∙ ap suc (sym (kept.level (parent_of w v) (parent_placed S v (member_in v m) h).1)))
          ];
          under_top = λ v m p. elim (ℕ_discrete v x) [
            | yes q ↦ rw q (new_over top (W.under_top at O.at_in O.at_placed))
            | no q ↦ old_over top v m (was_placed v q p) (W.under_top v m (was_placed v q p))
          ];
          spans = λ u v m k p q. elim (ℕ_discrete u x) [
            | yes i ↦ elim (ℕ_discrete v x) [
              | yes j ↦ absurd ((R.among u v k).2 (i ∙ sym j))
              | no j ↦ inr (rw i (new_over v (on_way v (next_member u v m k) (linked_turn t.held x v (rw i at k)) (was_placed v j q))))
            ]
            | no i ↦ elim (ℕ_discrete v x) [
              | yes j ↦ inl (rw j (new_over u (on_way u m (rw j at k) (was_placed u i p))))
              | no j ↦
                  let a = was_placed u i p in
                  let b = was_placed v j q in
                  ⊎_map (old_over u v (next_member u v m k) b) (old_over v u m a) (W.spans u v m k a b)
            ]
          ];
          deepest_in = elim e [ inl (q, _) ↦ rw q new_in | inr (q, _) ↦ rw q W.deepest_in ];
          deepest_placed = elim e [ inl (q, _) ↦ rw q new_placed | inr (q, _) ↦ rw q (kept_placed kept d W.deepest_placed) ];
          deepest_most = λ v m p. elim (ℕ_discrete v x) [
            | yes q ↦ elim e [
              | inl a ↦ omega (arith, ap (rank w') q, ap (rank w') a.0)
              | inr a ↦ omega (arith, ap (rank w') q, ap (rank w') a.0, a.1, kept.level d W.deepest_placed)
            ]
            | no q ↦
                let h = W.deepest_most v m (was_placed v q p) in
                elim e [
                  | inl a ↦ omega (arith, G.other_rank v q, ap (rank w') a.0, a.1)
                  | inr a ↦ omega (arith, G.other_rank v q, ap (rank w') a.0, kept.level d W.deepest_placed)
                ]
          ];
        }

    enters : Open top t w' x
    enters = record {
      at_in = new_in;
      at_placed = new_placed;
      shut = λ v m p o y k. elim (ℕ_discrete v x) [
        | yes e ↦ absurd (o (rw e (over_refl (standing_levels G.standing) x)))
        | no e ↦ kept_placed kept y (O.shut v m (was_placed v e p) (λ q. o (new_over v q)) y k)
      ];
    }

  -- At rest: nothing unreached is next to the top, so nothing of the piece is unreached.
  module _ {w : Tables} {d : ℕ} (W : Reached n top t w d) (O : Open top t w top) (c : Shut t w top) where
    next_placed : (u x : ℕ) → Member top t u → T (placed w u) → T (linked t.held u x) → T (placed w x)
    next_placed u x m p l = elim (ℕ_discrete (up (par w) (lev w top - lev w u) top) u) [
      | yes o ↦ c x (rw (over_antisym (standing_levels W.standing) u top (member_in u m) R.top_in o (W.under_top u m p)) at l)
      | no o ↦ O.shut u m p o x l
    ]

    all_reached : (v : ℕ) → Member top t v → T (placed w v)
    all_reached v m = (carry (λ (u : ℕ). Member top t u × T (placed w u)) (λ u x l (h, p). (next_member u x h l, next_placed u x h p l)) m (here, O.at_placed)).1

    ends : Walked n top t w d
    ends = record {
      standing = W.standing;
      same_note = W.same_note;
      same_mark = W.same_mark;
      same_held = W.same_held;
      same_crossed = W.same_crossed;
      outside_parent = W.outside_parent;
      outside_rank = W.outside_rank;
      top_parent = W.top_parent;
      top_rank = W.top_rank;
      reached = all_reached;
      below = λ v m d. W.below v m d (all_reached v m);
      under_top = λ v m. W.under_top v m (all_reached v m);
      spans = λ u v m l. W.spans u v m l (all_reached u m) (all_reached v (next_member u v m l));
      deepest_in = W.deepest_in;
      deepest_most = λ v m. W.deepest_most v m (all_reached v m);
    }

-- The smallest unreached neighbour, where there is one.
module _ (n : ℕ) (w : Tables) (at : ℕ) where
  pub next_new : next_of n w at < n → T (linked w.held at (next_of n w at)) × Loose w (next_of n w at)
  unfolding next_of
  next_new h =
      let x = next_of n w at in
      let q = first_passes (λ x. linked w.held at x && not (placed w x)) n h in (
        and_l (linked w.held at x) (not (placed w x)) q,
        elim (placed_or_loose w x) [
          | inl p ↦ absurd (T_not (placed w x) (and_r (linked w.held at x) (not (placed w x)) q) p)
          | inr e ↦ e
        ],
      )

  next_none : n ≤ next_of n w at → (x : ℕ) → x < n → T (linked w.held at x) → T (placed w x)
  unfolding next_of
  next_none h x g l = elim (T_dec (placed w x)) [
    | yes p ↦ p
    | no p ↦ absurd (first_least (λ x. linked w.held at x && not (placed w x)) n x (omega arith) (and_intro (linked w.held at x) (not (placed w x)) l (not_T (placed w x) p)))
  ]

-- Placing an unplaced fragment under a placed one.
grown : {n : ℕ} {w : Tables} {at x : ℕ} → Standing n w → at < n → T (placed w at) → x < n → Loose w x → Grown n w (place x at (suc (rank w at)) w) at x
grown {n} {w} {at} {x} S h p g e =
    let r = suc (rank w at) in
    record {
      standing = standing_place x at r S g e (inr (h, p, refl));
      same_note = place_note x at r w;
      same_mark = place_mark x at r w;
      same_held = place_held x at r w;
      same_crossed = place_crossed x at r w;
      new = e;
      new_parent = parent_of_place_same x at r w (omega (arith, S.long_parent));
      new_rank = rank_place_same x at r w (omega (arith, S.long_level));
      other_parent = parent_of_place_other x at r w;
      other_rank = rank_place_other x at r w;
    }

abbrev Ended : ℕ → ℕ → Tables → Walk → Type 0
Ended n top t w = Walked n top t w.tables w.deepest

-- A walk on its way, and how many steps it has yet to go, at most.
record Walking (n top : ℕ) (t : Tables) (w : Walk) : Type 0 where
  reached : Reached n top t w.tables w.deepest
  opened : Open top t w.tables w.at

abbrev to_go : ℕ → ℕ → Walk → ℕ
to_go n top w = 2 * (n - count (placed w.tables) n) + (rank w.tables w.at - rank w.tables top)

-- The deeper of two, the first among equals.
pick_deeper : (a b x d : ℕ) → ((pick (ltb a b) x d ≡ x) × (a < b)) ⊎ ((pick (ltb a b) x d ≡ d) × (b ≤ a))
pick_deeper a b x d = elim (dec_lt a b) [
  | yes h ↦ inl (rw (lt-ltb a b h) (pick_true x d), h)
  | no h ↦ let g : b ≤ a = omega arith in inr (rw (le-ltb a b g) (pick_false x d), g)
]

-- The three kinds of a step.
pub step_on : (n top : ℕ) (w : Walk) → next_of n w.tables w.at < n → walk_step n top w ≡ reach_next (next_of n w.tables w.at) w
unfolding walk_step
step_on n top w h = rw (lt-ltb _ _ h) (pick_true _ _)

pub step_back : (n top : ℕ) (w : Walk) → n ≤ next_of n w.tables w.at → walk_step n top w ≡ go_back top w
unfolding walk_step
step_back n top w h = rw (le-ltb _ _ h) (pick_false _ _)

back_tables : (top : ℕ) (w : Walk) → (go_back top w).tables ≡ w.tables
unfolding go_back
back_tables top w = refl

back_deepest : (top : ℕ) (w : Walk) → (go_back top w).deepest ≡ w.deepest
unfolding go_back
back_deepest top w = refl

pub back_at : (top : ℕ) (w : Walk) → w.at ≢ top → (go_back top w).at ≡ parent_of w.tables w.at
unfolding go_back
back_at top w d = rw (ne_eqb w.at top d) (pick_false _ _)

pub back_rest : (top : ℕ) (w : Walk) → w.at ≡ top → go_back top w ≡ w
unfolding go_back
back_rest top w e = ap (λ (v : ℕ). record { tables = w.tables; at = v; deepest = w.deepest }) (rw (eq-eqb w.at top e) (pick_true _ _) ∙ sym e)

pub steps_suc : (n top k : ℕ) (w : Walk) {z : Walk} → walk_step n top w ≡ z → walk_steps n top (suc k) w ≡ walk_steps n top k z
unfolding walk_steps
steps_suc n top k w e = ap (walk_steps n top k) e

pub steps_rest : (n top : ℕ) (w : Walk) → walk_step n top w ≡ w → (k : ℕ) → walk_steps n top k w ≡ w
unfolding walk_steps
steps_rest n top w e zero = refl
steps_rest n top w e (suc k) = steps_suc n top k w e ∙ steps_rest n top w e k

module _ {n top : ℕ} {t : Tables} (R : Ready n top t) where
  module _ (w : Walk) (I : Walking n top t w) where
    on : (x : ℕ) → T (linked t.held w.at x) → Loose w.tables x → Walking n top t (reach_next x w) × (suc (to_go n top (reach_next x w)) ≤ to_go n top w)
    unfolding reach_next
    on x l e =
        let W = I.reached in
        let O = I.opened in
        let v = w.at in
        let r = suc (rank w.tables v) in
        let h : x < n = (R.among v x l).1 in
        let G = grown W.standing (R.among v x l).0 O.at_placed h e in
        (record { reached = discovers R W O l G _ (pick_deeper _ _ x w.deepest); opened = enters R W O l G }, omega (arith, G.new_rank, place_count w.tables x v r h W.standing.long_level e (omega arith), count_le (placed (place x v r w.tables)) n, top_least R W v O.at_in O.at_placed, G.other_rank top (not_new R W O l G top (top_reached R W))))

    back : w.at ≢ top → Shut t w.tables w.at → Walking n top t (go_back top w) × (suc (to_go n top (go_back top w)) ≤ to_go n top w)
    back d c =
        let W = I.reached in
        let O = I.opened in
        let v = w.at in
        let u = pops R W O d c in
        rw (back_tables top w, back_deepest top w, back_at top w d)
        (record { reached = W; opened = u }, omega (arith, (W.below v O.at_in d O.at_placed).2, top_least R W (parent_of w.tables v) u.at_in u.at_placed))

  steps : (k : ℕ) (w : Walk) → Walking n top t w → to_go n top w < k → Ended n top t (walk_steps n top k w)
  steps zero w I h = absurd (omega arith)
  steps (suc k) w I h =
      let W = I.reached in
      let O = I.opened in
      let x = next_of n w.tables w.at in
      elim (dec_lt x n) [
        | yes g ↦
            let (l, e) = next_new n w.tables w.at g in
            let (J, m) = on w I x (subst (λ (g : List Link). T (linked g w.at x)) W.same_held l) e in
            subst (Ended n top t) (sym (steps_suc n top k w (step_on n top w g))) (steps k (reach_next x w) J (omega arith))
        | no g ↦
            let g' : n ≤ x = omega arith in
            let c : Shut t w.tables w.at = λ y l. next_none n w.tables w.at g' y (R.among w.at y l).1 (rw W.same_held l) in
            elim (ℕ_discrete w.at top) [
              | yes e ↦
                  subst (Ended n top t) (sym (steps_rest n top w (step_back n top w g' ∙ back_rest top w e) (suc k))) (ends R W (rw e at O) (rw e at c))
              | no e ↦
                  let (J, m) = back w I e c in
                  subst (Ended n top t) (sym (steps_suc n top k w (step_back n top w g'))) (steps k (go_back top w) J (omega arith))
            ]
      ]

pub walk : (n top : ℕ) (t : Tables) → Ready n top t → Walked n top t (walked n top t).tables (walked n top t).deepest
unfolding walked
walk n top t R = steps R (2 * n) (record { tables = t; at = top; deepest = top }) (record { reached = starts R; opened = opens R }) (omega (arith, some_count (placed t) n top R.top_in R.top_placed, count_le (placed t) n))

-- What was placed before the walk stays.
pub walked_kept : {n top : ℕ} {t w : Tables} {deepest : ℕ} → Ready n top t → Walked n top t w deepest → Kept t w
walked_kept {n} {top} {t} R W = record {
  parent = λ v p. elim (ℕ_discrete v top) [ yes e ↦ rw e W.top_parent | no e ↦ W.outside_parent v (λ m. placed_loose t v p (R.others v m e)) ];
  level = λ v p. elim (ℕ_discrete v top) [ yes e ↦ rw e W.top_rank | no e ↦ W.outside_rank v (λ m. placed_loose t v p (R.others v m e)) ];
}
