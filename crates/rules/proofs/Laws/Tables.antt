-- Laws of what is read from the tables after a part of them changed, and of a forest that stands.
-- Assumes nothing.
use Prim.Native.Nat.{ℕ, suc, pred, ◌≤◌, ◌<◌}
use Rattle.std.specs.Prelude.{◌≡◌, Bool, ◌⊎◌, ◌≢◌, T, length, replicate}
use Rattle.std.proofs.Math.Path.{refl, ap}
use Rattle.std.proofs.Common.{◌∙◌, inl, inr, arith}
use Rattle.std.proofs.Math.Bool.{cond}
use mathlib.Core.List.{List}
use Rattle.std.proofs.Math.Decide.{ℕ_discrete, dec_lt}
use Rattle.std.proofs.Math.Dec.{ltb, ltb→lt, lt→ltb}
use Rattle.std.proofs.Math.ListN.{get_or, length-set, get_or-eq_default}
use Rattle.std.proofs.lemmas.List.{length-replicate, get_or-replicate}
use Rattle.std.proofs.Math.Seq.{get_or-set_same, get_or-set_other}
use Rattle.base.specs.Truth.{T_true, T_false}
use Rattle.base.specs.Link.{Link}
use Rattle.rules.specs.Tables.{Tables, parent_of, rank, note_of, mark_of, placed, par, lev, fresh, place, put_note, put_mark, put_held, put_crossed, cleared}
use Rattle.rules.specs.Forest.{Levels}
use Rattle.rules.specs.Facts.{Standing, Loose, Rested, Unnoted}
use Rattle.rules.proofs.Laws.Up.{level_below}

-- What is read of one fragment.
module _ (t : Tables) (v : ℕ) where
  pub placed_rank : T (placed t v) → 0 < rank t v
  unfolding placed
  placed_rank h = ltb→lt 0 (rank t v) h

  pub rank_placed : 0 < rank t v → T (placed t v)
  unfolding placed
  rank_placed h = lt→ltb 0 (rank t v) h

  pub placed_loose : T (placed t v) → Loose t v → ⊥
  placed_loose h e = omega (arith, placed_rank h)

  pub placed_or_loose : T (placed t v) ⊎ Loose t v
  placed_or_loose = elim (dec_lt 0 (rank t v)) [ yes h ↦ inl (rank_placed h) | no h ↦ inr (omega arith) ]

  pub par_placed : T (placed t v) → par t v ≡ parent_of t v
  unfolding par
  par_placed h = rw (T_true (placed t v) h)

  pub par_loose : Loose t v → par t v ≡ v
  unfolding par
  par_loose e = rw (T_false (placed t v) (λ h. placed_loose h e))

  pub lev_rank : lev t v ≡ pred (rank t v)
  unfolding lev
  lev_rank = refl

-- Two tables of one forest.
pub record SameForest (s t : Tables) : Type 0 where
  pub same_parent : s.parent ≡ t.parent
  pub same_level : s.level ≡ t.level

module _ {s t : Tables} (e : SameForest s t) where
  pub same_parent_of : (v : ℕ) → parent_of s v ≡ parent_of t v
  unfolding parent_of
  same_parent_of v = ap (λ (x : List ℕ). get_or x v 0) e.same_parent

  pub same_rank : (v : ℕ) → rank s v ≡ rank t v
  unfolding rank
  same_rank v = ap (λ (x : List ℕ). get_or x v 0) e.same_level

  pub same_placed : placed s ≡ placed t
  unfolding placed rank
  same_placed = ap {B = ℕ → Bool} (λ (x : List ℕ) (v : ℕ). ltb 0 (get_or x v 0)) e.same_level

  pub same_par : par s ≡ par t
  unfolding par placed rank parent_of
  same_par = ap {B = ℕ → ℕ} (λ (x : List ℕ) (v : ℕ). cond (ltb 0 (get_or s.level v 0)) (get_or x v 0) v) e.same_parent ∙ ap {B = ℕ → ℕ} (λ (x : List ℕ) (v : ℕ). cond (ltb 0 (get_or x v 0)) (get_or t.parent v 0) v) e.same_level

  pub same_lev : lev s ≡ lev t
  unfolding lev rank
  same_lev = ap {B = ℕ → ℕ} (λ (x : List ℕ) (v : ℕ). pred (get_or x v 0)) e.same_level

pub forest_refl : (t : Tables) → SameForest t t
forest_refl t = record { same_parent = refl; same_level = refl }

pub forest_trans : {s t r : Tables} → SameForest s t → SameForest t r → SameForest s r
forest_trans e f = record { same_parent = e.same_parent ∙ f.same_parent; same_level = e.same_level ∙ f.same_level }

-- Only `place` changes the forest.
module _ (t : Tables) where
  pub put_note_forest : (v x : ℕ) → SameForest (put_note v x t) t
  unfolding put_note
  put_note_forest v x = record { same_parent = refl; same_level = refl }

  pub put_mark_forest : (v : ℕ) → SameForest (put_mark v t) t
  unfolding put_mark
  put_mark_forest v = record { same_parent = refl; same_level = refl }

  pub put_held_forest : (h : List Link) → SameForest (put_held h t) t
  unfolding put_held
  put_held_forest h = record { same_parent = refl; same_level = refl }

  pub put_crossed_forest : (b : Bool) → SameForest (put_crossed b t) t
  unfolding put_crossed
  put_crossed_forest b = record { same_parent = refl; same_level = refl }

  pub cleared_forest : (n : ℕ) → SameForest (cleared n t) t
  unfolding cleared
  cleared_forest n = record { same_parent = refl; same_level = refl }

-- After a fragment is placed.
module _ (v p r : ℕ) (t : Tables) where
  pub parent_of_place_same : v < length t.parent → parent_of (place v p r t) v ≡ p
  unfolding parent_of place
  parent_of_place_same h = get_or-set_same t.parent v p 0 h

  pub parent_of_place_other : (u : ℕ) → u ≢ v → parent_of (place v p r t) u ≡ parent_of t u
  unfolding parent_of place
  parent_of_place_other u d = get_or-set_other t.parent v u p 0 d

  pub rank_place_same : v < length t.level → rank (place v p r t) v ≡ r
  unfolding rank place
  rank_place_same h = get_or-set_same t.level v r 0 h

  pub rank_place_other : (u : ℕ) → u ≢ v → rank (place v p r t) u ≡ rank t u
  unfolding rank place
  rank_place_other u d = get_or-set_other t.level v u r 0 d

  pub place_note : (place v p r t).note ≡ t.note
  unfolding place
  place_note = refl

  pub place_mark : (place v p r t).mark ≡ t.mark
  unfolding place
  place_mark = refl

  pub place_held : (place v p r t).held ≡ t.held
  unfolding place
  place_held = refl

  pub place_crossed : (place v p r t).crossed ≡ t.crossed
  unfolding place
  place_crossed = refl

  pub place_length : (length (place v p r t).parent ≡ length t.parent) × (length (place v p r t).level ≡ length t.level)
  unfolding place
  place_length = (length-set t.parent v p, length-set t.level v r)

  pub placed_place_same : v < length t.level → 0 < r → T (placed (place v p r t) v)
  placed_place_same h g = rank_placed (place v p r t) v (omega (arith, rank_place_same h))

  pub placed_place_other : (u : ℕ) → u ≢ v → placed (place v p r t) u ≡ placed t u
  unfolding placed
  placed_place_other u d = ap (ltb 0) (rank_place_other u d)

-- After a note, a mark, a crossing.
module _ (v x : ℕ) (t : Tables) where
  pub note_of_put_note_same : v < length t.note → note_of (put_note v x t) v ≡ x
  unfolding note_of put_note
  note_of_put_note_same h = get_or-set_same t.note v x 0 h

  pub note_of_put_note_other : (u : ℕ) → u ≢ v → note_of (put_note v x t) u ≡ note_of t u
  unfolding note_of put_note
  note_of_put_note_other u d = get_or-set_other t.note v u x 0 d

  pub put_note_length : length (put_note v x t).note ≡ length t.note
  unfolding put_note
  put_note_length = length-set t.note v x

  pub put_note_mark : (put_note v x t).mark ≡ t.mark
  unfolding put_note
  put_note_mark = refl

  pub put_note_held : (put_note v x t).held ≡ t.held
  unfolding put_note
  put_note_held = refl

  pub put_note_crossed : (put_note v x t).crossed ≡ t.crossed
  unfolding put_note
  put_note_crossed = refl

module _ (v : ℕ) (t : Tables) where
  pub mark_of_put_mark_same : v < length t.mark → mark_of (put_mark v t) v ≡ 1
  unfolding mark_of put_mark
  mark_of_put_mark_same h = get_or-set_same t.mark v 1 0 h

  pub mark_of_put_mark_other : (u : ℕ) → u ≢ v → mark_of (put_mark v t) u ≡ mark_of t u
  unfolding mark_of put_mark
  mark_of_put_mark_other u d = get_or-set_other t.mark v u 1 0 d

  pub put_mark_length : length (put_mark v t).mark ≡ length t.mark
  unfolding put_mark
  put_mark_length = length-set t.mark v 1

  pub put_mark_note : (put_mark v t).note ≡ t.note
  unfolding put_mark
  put_mark_note = refl

  pub put_mark_held : (put_mark v t).held ≡ t.held
  unfolding put_mark
  put_mark_held = refl

  pub put_mark_crossed : (put_mark v t).crossed ≡ t.crossed
  unfolding put_mark
  put_mark_crossed = refl

module _ (b : Bool) (t : Tables) where
  pub put_crossed_crossed : (put_crossed b t).crossed ≡ b
  unfolding put_crossed
  put_crossed_crossed = refl

  pub put_crossed_note : (put_crossed b t).note ≡ t.note
  unfolding put_crossed
  put_crossed_note = refl

  pub put_crossed_mark : (put_crossed b t).mark ≡ t.mark
  unfolding put_crossed
  put_crossed_mark = refl

  pub put_crossed_held : (put_crossed b t).held ≡ t.held
  unfolding put_crossed
  put_crossed_held = refl

pub same_note_of : (s t : Tables) → s.note ≡ t.note → (v : ℕ) → note_of s v ≡ note_of t v
unfolding note_of
same_note_of s t e v = ap (λ (x : List ℕ). get_or x v 0) e

pub same_mark_of : (s t : Tables) → s.mark ≡ t.mark → (v : ℕ) → mark_of s v ≡ mark_of t v
unfolding mark_of
same_mark_of s t e v = ap (λ (x : List ℕ). get_or x v 0) e

-- Nothing is read from a cleared table.
pub getD_zeros : (n v : ℕ) → get_or (replicate {A = ℕ} n 0) v 0 ≡ 0
getD_zeros n v = elim (dec_lt v n) [
  | yes h ↦ get_or-replicate n v 0 0 h
  | no h ↦ get_or-eq_default (replicate n 0) 0 (omega (arith, length-replicate {A = ℕ} n 0))
]

pub cleared_rested : (n : ℕ) (t : Tables) → Rested n (cleared n t)
unfolding cleared
cleared_rested n t = record { no_note = refl; no_mark = refl; no_held = refl; no_cross = refl }

pub fresh_rested : (n : ℕ) → Rested n (fresh n)
unfolding fresh
fresh_rested n = record { no_note = refl; no_mark = refl; no_held = refl; no_cross = refl }

-- What rests has no note.
pub rested_unnoted : {n : ℕ} {t : Tables} → Rested n t → Unnoted n t
rested_unnoted r = record { no_note = r.no_note; no_mark = r.no_mark; no_cross = r.no_cross }

pub cleared_unnoted : (n : ℕ) (t : Tables) → Unnoted n (cleared n t)
cleared_unnoted n t = rested_unnoted (cleared_rested n t)

pub unnoted_note : {n : ℕ} {t : Tables} → Unnoted n t → (v : ℕ) → note_of t v ≡ 0
unfolding note_of
unnoted_note {n} r v = ap (λ (x : List ℕ). get_or x v 0) r.no_note ∙ getD_zeros n v

pub unnoted_mark : {n : ℕ} {t : Tables} → Unnoted n t → (v : ℕ) → mark_of t v ≡ 0
unfolding mark_of
unnoted_mark {n} r v = ap (λ (x : List ℕ). get_or x v 0) r.no_mark ∙ getD_zeros n v

pub rested_note : {n : ℕ} {t : Tables} → Rested n t → (v : ℕ) → note_of t v ≡ 0
rested_note r = unnoted_note (rested_unnoted r)

pub rested_mark : {n : ℕ} {t : Tables} → Rested n t → (v : ℕ) → mark_of t v ≡ 0
rested_mark r = unnoted_mark (rested_unnoted r)

pub fresh_loose : (n v : ℕ) → Loose (fresh n) v
unfolding fresh rank
fresh_loose n v = getD_zeros n v

pub fresh_standing : (n : ℕ) → Standing n (fresh n)
unfolding fresh
fresh_standing n = record {
  long_parent = length-replicate n 0;
  long_level = length-replicate n 0;
  long_note = length-replicate n 0;
  long_mark = length-replicate n 0;
  stands = λ v h q. absurd (placed_loose (fresh n) v q (fresh_loose n v));
}

-- A forest that stands has the law of levels.
module _ (n : ℕ) (t : Tables)
    (stands : (v : ℕ) → v < n → T (placed t v) → ((parent_of t v ≡ v) × (rank t v ≡ 1)) ⊎ ((parent_of t v < n) × T (placed t (parent_of t v)) × (rank t v ≡ suc (rank t (parent_of t v))))) where
  pub levels_stand : Levels n (par t) (lev t)
  levels_stand v h = elim (placed_or_loose t v) [
    | inl q ↦ elim (stands v h q) [
      | inl a ↦ inl (par_placed t v q ∙ a.0, lev_rank t v ∙ omega (arith, a.1))
      | inr a ↦ inr (rw (par_placed t v q) a.0, lev_rank t v ∙ rw (par_placed t v q, lev_rank t (parent_of t v)) (omega (arith, a.2, placed_rank t (parent_of t v) a.1)))
    ]
    | inr e ↦ inl (par_loose t v e, lev_rank t v ∙ omega arith)
  ]

pub standing_levels : {n : ℕ} {t : Tables} → Standing n t → Levels n (par t) (lev t)
standing_levels {n} {t} S = levels_stand n t S.stands

-- It stands too in tables of the same forest.
pub standing_same : {n : ℕ} {s t : Tables} → SameForest s t → length s.note ≡ n → length s.mark ≡ n → Standing n t → Standing n s
standing_same {n} {s} {t} e hn hm S = record {
  long_parent = ap length e.same_parent ∙ S.long_parent;
  long_level = ap length e.same_level ∙ S.long_level;
  long_note = hn;
  long_mark = hm;
  stands = λ v h q. rw (same_parent_of e v, same_rank e v, same_placed e, same_rank e (parent_of t v)) (S.stands v h (rw (same_placed e) at q));
}

pub standing_cleared : {n : ℕ} {t : Tables} → Standing n t → Standing n (cleared n t)
unfolding cleared
standing_cleared {n} {t} S = standing_same (cleared_forest t n) (length-replicate n 0) (length-replicate n 0) S

-- An unplaced fragment is placed as a root, or under a placed one; what was placed stays as it was.
module _ {n : ℕ} {t : Tables} (v p r : ℕ) (S : Standing n t) (h : v < n) (e : Loose t v) where
  place_under : (u w : ℕ) → parent_of (place v p r t) u ≡ w → w < n → T (placed t w) → rank (place v p r t) u ≡ suc (rank t w) → (parent_of (place v p r t) u < n) × T (placed (place v p r t) (parent_of (place v p r t) u)) × (rank (place v p r t) u ≡ suc (rank (place v p r t) (parent_of (place v p r t) u)))
  place_under u w k g q f =
      let d : w ≢ v = λ d. placed_loose t w q (ap (rank t) d ∙ e) in
      rw (k, placed_place_other v p r t w d, rank_place_other v p r t w d) (g, q, f)

  pub standing_place : ((p ≡ v) × (r ≡ 1)) ⊎ ((p < n) × T (placed t p) × (r ≡ suc (rank t p))) → Standing n (place v p r t)
  standing_place c =
      let hp : v < length t.parent = omega (arith, S.long_parent) in
      let hl : v < length t.level = omega (arith, S.long_level) in
      record {
        long_parent = (place_length v p r t).0 ∙ S.long_parent;
        long_level = (place_length v p r t).1 ∙ S.long_level;
        long_note = ap length (place_note v p r t) ∙ S.long_note;
        long_mark = ap length (place_mark v p r t) ∙ S.long_mark;
        stands = λ u g q. elim (ℕ_discrete u v) [
          | yes d ↦ rw d (elim c [
            | inl a ↦ inl (parent_of_place_same v p r t hp ∙ a.0, rank_place_same v p r t hl ∙ a.1)
            | inr a ↦ inr (place_under v p (parent_of_place_same v p r t hp) a.0 a.1 (rank_place_same v p r t hl ∙ a.2))
          ])
          | no d ↦ elim (S.stands u g (rw (placed_place_other v p r t u d) at q)) [
            | inl a ↦ inl (parent_of_place_other v p r t u d ∙ a.0, rank_place_other v p r t u d ∙ a.1)
            | inr a ↦ inr (place_under u (parent_of t u) (parent_of_place_other v p r t u d) a.0 a.1 (rank_place_other v p r t u d ∙ a.2))
          ]
        ];
      }

-- No fragment is deeper than there are fragments.
pub rank_most : {n : ℕ} {t : Tables} → Standing n t → (v : ℕ) → v < n → rank t v ≤ n
unfolding lev
rank_most {n} {t} S v h =
    let b : pred (rank t v) < n = level_below (standing_levels S) v h in
    omega arith
