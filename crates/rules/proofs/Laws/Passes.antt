-- Passes: each keeps the building invariant, places at least one fragment and, where nothing is lost, all; where all told one set, the
-- result is a depth-first forest of it.
-- Assumes nothing.
use Rattle.std.specs.Prelude.{ℕ, ◌<◌, ◌≤◌, ◌≡◌, T}
use Rattle.std.proofs.Common.{sym, ◌∙◌, arith}
use Rattle.std.proofs.Math.Path.{fun_ext}
use mathlib.Core.List.{List, [], ◌∷◌}
use Rattle.std.proofs.Math.Logic.{inl, inr}
use Rattle.base.specs.Link.{Link}
use Rattle.rules.specs.Links.{Links, linked, Among, Tells, Each}
use Rattle.rules.specs.Forest.{DepthFirst}
use Rattle.rules.specs.Search.{count}
use Rattle.rules.specs.Tables.{Tables, mark_of, placed, par, fresh}
use Rattle.rules.specs.Building.{pieces, lost, build_links, place_pieces, close_building, done, pass, passes}
use Rattle.rules.specs.Facts.{Standing, Rested, Loose, Partial}
use Rattle.rules.proofs.Laws.Facts.{Told}
use Rattle.rules.proofs.Laws.Chain.{wider}
use Rattle.rules.proofs.Laws.Links.{linked_turn}
use Rattle.rules.proofs.Laws.Search.{every_intro}
use Rattle.rules.proofs.Laws.Tables.{SameForest, same_parent_of, same_rank, same_placed, same_par, same_lev, placed_loose, placed_or_loose, standing_same, standing_cleared, cleared_forest, cleared_rested, fresh_loose, fresh_standing, fresh_rested}
use Rattle.rules.proofs.Laws.Kept.{Kept}
use Rattle.rules.proofs.Laws.Told.{lost_elim, told}
use Rattle.rules.proofs.Laws.Partial.{label, Closing}
use Rattle.rules.proofs.Laws.Close.{closing}
use Rattle.rules.proofs.Laws.Closed.{left_lost, close_grows, close_keeps, whole_forest}

-- The invariant speaks of the forest alone.
pub partial_same : {n : ℕ} {E : Links} {s t : Tables} → SameForest s t → Standing n s → Partial n E t → Partial n E s
partial_same {n} {E} {s} {t} e S P = record {
  standing = S;
  tree = rw (same_par e, same_placed e) P.tree;
  spans = rw (same_par e, same_lev e, same_placed e) P.spans;
  one_way = rw (same_par e, same_lev e, same_placed e) (λ u v a b c f. P.one_way u v a b (wider (λ x y (l, fx, fy). (l, loose x fx, loose y fy)) c) (loose u f));
}
  where
    loose : (v : ℕ) → Loose s v → Loose t v
    loose v f = sym (same_rank e v) ∙ f

-- Where nothing stands, every set may still be built.
pub fresh_partial : (n : ℕ) (E : Links) → Partial n E (fresh n)
fresh_partial n E = record {
  standing = fresh_standing n;
  tree = λ v p. absurd (none v p);
  spans = λ u v e p. absurd (none u p);
  one_way = λ u v a b c f e p. absurd (none a p);
}
  where
    none : (v : ℕ) → T (placed (fresh n) v) → ⊥
    none v p = placed_loose (fresh n) v p (fresh_loose n v)

module _ {n k : ℕ} (pos : 1 ≤ k) where
  -- One pass, whatever list it is told.
  module _ {t : Tables} (S : Standing n t) (R : Rested n t) (g : List Link) (among : Among n (linked g)) where
    pub was_told : Told n k (linked g) t (build_links n k t g)
    was_told = told n k t g pos S R among

    pub told_forest : SameForest (build_links n k t g) t
    told_forest = record { same_parent = was_told.same_parent; same_level = was_told.same_level }

    pub told_stands : Standing n (build_links n k t g)
    told_stands = standing_same told_forest was_told.long_note was_told.long_mark S

    pub was_closed : Closing n (linked g) (build_links n k t g) n (place_pieces n (pieces n (build_links n k t g).held) n (build_links n k t g))
    was_closed = closing told_stands was_told.learnt n (omega arith)

    pub pass_forest : SameForest (pass n k t g) (place_pieces n (pieces n (build_links n k t g).held) n (build_links n k t g))
    unfolding pass close_building
    pass_forest = cleared_forest (place_pieces n (pieces n (build_links n k t g).held) n (build_links n k t g)) n

    pub pass_stands : Standing n (pass n k t g)
    unfolding pass close_building
    pass_stands = standing_cleared was_closed.standing

    pub pass_rests : Rested n (pass n k t g)
    unfolding pass close_building
    pass_rests = cleared_rested n (place_pieces n (pieces n (build_links n k t g).held) n (build_links n k t g))

    -- What is placed stays as it is.
    pub pass_kept : Kept t (pass n k t g)
    pass_kept = record {
      parent = λ v p. same_parent_of pass_forest v ∙ was_closed.kept.parent v (rw (same_placed told_forest) p) ∙ same_parent_of told_forest v;
      level = λ v p. same_rank pass_forest v ∙ was_closed.kept.level v (rw (same_placed told_forest) p) ∙ same_rank told_forest v;
    }

    -- A pass that begins with something unplaced places at least one fragment.
    pub pass_grows : (v : ℕ) → v < n → Loose t v → count (placed t) n < count (placed (pass n k t g)) n
    pass_grows v h f = rw (same_placed pass_forest, ← same_placed told_forest) (close_grows told_stands was_told.learnt was_closed v h (same_rank told_forest v ∙ f))

    -- What a pass leaves unplaced lies in a lost piece.
    pub unplaced_lost : (v : ℕ) → v < n → Loose (pass n k t g) v → T (lost n (build_links n k t g) (pieces n (build_links n k t g).held) (label n (build_links n k t g) v))
    unplaced_lost v h f = left_lost told_stands was_told.learnt was_closed v h (sym (same_rank pass_forest v) ∙ f)

    -- A pass that loses nothing places everything.
    pub pass_finishes : ((v : ℕ) → v < n → mark_of (build_links n k t g) v ≡ 0) → T (done n (pass n k t g))
    unfolding done
    pass_finishes none = every_intro (placed (pass n k t g)) n (λ v h. elim (placed_or_loose (pass n k t g) v) [
      | inl p ↦ p
      | inr f ↦
          let (x, hx, _, c) = lost_elim n (build_links n k t g) (pieces n (build_links n k t g).held) (label n (build_links n k t g) v) (unplaced_lost v h f) in
          absurd (omega (arith, none x hx))
    ])

    -- The invariant of the set that is told is kept.
    told_keeps : Partial n (linked g) t → Partial n (linked g) (pass n k t g)
    told_keeps P = partial_same pass_forest pass_stands (close_keeps told_stands was_told.learnt was_closed among (linked_turn g) (partial_same told_forest told_stands P))

  -- A pass that tells the set keeps its invariant.
  module _ {E : Links} (among : Among n E) where
    pub pass_keeps : {t : Tables} → Partial n E t → Rested n t → (g : List Link) → Tells E g → Partial n E (pass n k t g) × Rested n (pass n k t g)
    pass_keeps {t} P R g e =
        let same : linked g ≡ E = fun_ext (λ u. fun_ext (e u)) in
        let a : Among n (linked g) = rw same among in
        let P' : Partial n (linked g) t = rw same P in
        (rw same at (told_keeps P.standing R g a P'), pass_rests P.standing R g a)

    pub passes_keep : (t : Tables) (gs : List (List Link)) → Partial n E t → Rested n t → Each (Tells E) gs → Partial n E (passes n k t gs) × Rested n (passes n k t gs)
    unfolding passes
    passes_keep t [] P R e = (P, R)
    passes_keep t (g ∷ gs) P R (e, es) = let (P', R') = pass_keeps P R g e in passes_keep (pass n k t g) gs P' R' es

    -- Where every pass told the same set, what stands when nothing is unplaced is a depth-first forest of it.
    pub result : (gs : List (List Link)) → Each (Tells E) gs → T (done n (passes n k (fresh n) gs)) → DepthFirst n (par (passes n k (fresh n) gs)) E
    result gs e d = whole_forest among (passes_keep (fresh n) gs (fresh_partial n E) (fresh_rested n) e).0 d
