-- An unfinished pass places more than k fragments, whatever it was told.
-- Assumes nothing.
use Prim.Native.Nat.{ℕ, zero, suc, ◌+◌, ◌≤◌, ◌<◌}
use Rattle.std.specs.Prelude.{◌≡◌, refl, ◌&&◌}
use Rattle.std.proofs.Common.{◌∙◌, inl, inr}
use Rattle.std.proofs.Math.Bool.{not}
use native.Mathlib.Omega.{arith}
use Rattle.std.proofs.Math.Decide.{ℕ_discrete}
use Rattle.std.proofs.Math.Dec.{T, not_T, T_not}
use Rattle.base.specs.Pick.{pick, pick_all}
use Rattle.base.specs.Truth.{and_intro, and_l, and_r, T_dec, T_true, T_false}
use Rattle.rules.specs.Links.{Links, linked, Among, JoinedBy}
use Rattle.rules.specs.Search.{count}
use Rattle.rules.specs.Tables.{Tables, placed}
use Rattle.rules.specs.Building.{pieces, member, lost, place_walk, place_piece, place_from, place_pieces}
use Rattle.rules.specs.Facts.{Standing, Loose, Holding, Ready, Walked}
use Rattle.rules.proofs.Laws.Facts.{Crowded, Told}
use Rattle.rules.proofs.Laws.Search.{count_mono}
use Rattle.rules.proofs.Laws.Tables.{placed_rank, rank_placed, placed_loose}
use Rattle.rules.proofs.Laws.Pieces.{member_elim, member_intro}
use Rattle.rules.proofs.Laws.Told.{lost_elim}
use Rattle.rules.proofs.Laws.Kept.{kept_placed}
use Rattle.rules.proofs.Laws.Partial.{Of, label, Closing}
use Rattle.rules.proofs.Laws.Walk.{walked_kept}
use Rattle.rules.proofs.Laws.Closed.{left_lost}
use Rattle.rules.proofs.Laws.Close.{not_placed, lost_same, of_joined, of_loose, label_of, loose_in, top_of_lem, hung_at_lem, ready_at, walked_at, path_at_lem, closing}
use Rattle.rules.proofs.Laws.Path.{Hung, PathPlaced}
use Rattle.rules.proofs.Laws.Crowd.{more_than_k}

-- The top of a piece is hung, walked from, and the walk or the path to its deepest is placed: what was placed before still is.
module _ {n top deepest : ℕ} {s t w : Tables} (H : Hung n top s t) (R : Ready n top t) (W : Walked n top t w deepest) where
  walk_keeps : (v : ℕ) → T (placed s v) → T (placed w v)
  walk_keeps v p = kept_placed (walked_kept R W) v (rank_placed t v (omega (arith, placed_rank s v p, H.other_rank v (λ e. placed_loose s top (rw e at p) H.top_loose))))

  path_keeps : {s' : Tables} → PathPlaced n top s w s' deepest → (v : ℕ) → T (placed s v) → T (placed s' v)
  path_keeps {s'} P v p = elim (P.decided v) [
    | inl o ↦ P.on_placed v o
    | inr o ↦ rank_placed s' v (omega (arith, placed_rank s v p, P.off_rank v o))
  ]

-- A lost piece places more than k fragments: s' is s with the path to the deepest placed, b the told tables.
module _ {n k top m deepest : ℕ} {b s t w s' : Tables} (W : Walked n top t w deepest) (P : PathPlaced n top s w s' deepest) (H : Holding n k b) (C : Crowded n k b m) (e : t.held ≡ b.held) (J : JoinedBy (linked b.held) top m) where
  crowded_in : Crowded n k t m
  crowded_in = record { crowd = C.crowd; inside = λ v c. rw e (C.inside v c); two = C.two; full = rw e C.full }

  among_in : Among n (linked t.held)
  among_in u v h = let (i, j, d, _, _) = H.ends u v (rw e at h) in (i, j, d)

  pub path_more : count (placed s) n + suc k ≤ count (placed s') n
  path_more = omega (arith, P.more, more_than_k W among_in (λ u v. rw e (H.once u v)) crowded_in (rw e J))

-- A close of told tables t.
module _ {n k : ℕ} {E : Links} {t₀ t : Tables} (S : Standing n t) (D : Told n k E t₀ t) where
  -- It comes to the piece m.
  module _ {m : ℕ} {s : Tables} (C : Closing n E t m s) (own : Of n t m m) (bare : Loose t m) where
    piece_keeps : (v : ℕ) → T (placed s v) → T (placed (place_piece n (pieces n t.held) m s) v)
    unfolding place_piece place_walk
    piece_keeps v p = pick_all (λ x. T (placed x v)) (lost n s (pieces n t.held) m) _ _
        (path_keeps (hung_at_lem S D.learnt C own bare) (ready_at S D.learnt C own bare) (walked_at S D.learnt C own bare) (path_at_lem S D.learnt C own bare) v p)
        (walk_keeps (hung_at_lem S D.learnt C own bare) (ready_at S D.learnt C own bare) (walked_at S D.learnt C own bare) v p)

    piece_more : T (lost n t (pieces n t.held) m) → count (placed s) n + suc k ≤ count (placed (place_piece n (pieces n t.held) m s)) n
    unfolding place_piece place_walk pick
    piece_more c =
        let (x, h, e, d) = lost_elim n t (pieces n t.held) m c in
        rw (lost_same n s t (pieces n t.held) m C.same_mark, T_true (lost n t (pieces n t.held) m) c)
        (path_more (walked_at S D.learnt C own bare) (path_at_lem S D.learnt C own bare) D.learnt.holding (D.crowded x h d) ((hung_at_lem S D.learnt C own bare).same_held ∙ C.same_held) (of_joined S D.learnt (top_of_lem S D.learnt C own bare) (h, e)))

  from_keeps : {m : ℕ} {s : Tables} → m < n → Closing n E t m s → (v : ℕ) → T (placed s v) → T (placed (place_from n (pieces n t.held) m s) v)
  unfolding place_from pick
  from_keeps {m} {s} h C v p =
      let test = not (placed s m) && member (pieces n t.held) m m in
      elim (T_dec test) [
        | yes c ↦
            let own : Of n t m m = (h, member_elim (pieces n t.held) m m (and_r (not (placed s m)) (member (pieces n t.held) m m) c)) in
            let bare : Loose t m = not_placed t m (λ q. T_not (placed s m) (and_l (not (placed s m)) (member (pieces n t.held) m m) c) (kept_placed C.kept m q)) in
            rw (T_true test c) (piece_keeps C own bare v p)
        | no c ↦ rw (T_false test c) p
      ]

  from_more : {m : ℕ} {s : Tables} → Closing n E t m s → Of n t m m → Loose t m → T (lost n t (pieces n t.held) m) → count (placed s) n + suc k ≤ count (placed (place_from n (pieces n t.held) m s)) n
  unfolding place_from pick
  from_more {m} {s} C own bare c =
      let test = not (placed s m) && member (pieces n t.held) m m in
      let taken : T test = and_intro (not (placed s m)) (member (pieces n t.held) m m) (not_T (placed s m) (λ p. placed_loose s m p (loose_in S D.learnt C own bare m own))) (member_intro (pieces n t.held) m m own.1) in
      rw (T_true test taken) (piece_more C own bare c)

  -- After the piece m, which is lost, more than k are placed anew.
  places : (b : ℕ) → b ≤ n → (m : ℕ) → m < b → Of n t m m → Loose t m → T (lost n t (pieces n t.held) m) → count (placed t) n + suc k ≤ count (placed (place_pieces n (pieces n t.held) b t)) n
  unfolding place_pieces
  places zero h m l own bare c = absurd (omega arith)
  places (suc b) h m l own bare c =
      let C = closing S D.learnt b (omega arith) in
      elim (ℕ_discrete m b) [
        | yes e ↦ omega (
          arith,
          count_mono (placed t) (placed (place_pieces n (pieces n t.held) b t)) n (λ v _ p. kept_placed C.kept v p),
          from_more C (rw e at own) (rw e at bare) (rw e at c),
        )
        | no d ↦ omega (
          arith,
          places b (omega arith) m (omega arith) own bare c,
          count_mono (placed (place_pieces n (pieces n t.held) b t)) (placed (place_from n (pieces n t.held) b (place_pieces n (pieces n t.held) b t))) n (λ v _ p. from_keeps (omega arith) C v p),
        )
      ]

  -- What is unplaced after the close is of a lost piece, so more than k are placed.
  pub close_places : (v : ℕ) → v < n → Loose (place_pieces n (pieces n t.held) n t) v → count (placed t) n + suc k ≤ count (placed (place_pieces n (pieces n t.held) n t)) n
  close_places v h f =
      let C = closing S D.learnt n (omega arith) in
      let own : Of n t (label n t v) (label n t v) = label_of S D.learnt v h in
      let free : Loose t v = not_placed t v (λ q. placed_loose (place_pieces n (pieces n t.held) n t) v (kept_placed C.kept v q) f) in
      places n (omega arith) (label n t v) own.0 own (of_loose S D.learnt (h, refl) own free) (left_lost S D.learnt C v h f)
