-- A close from any state of a pass, told or not: what stands after it stands, and more of it.
-- Assumes nothing.
use Rattle.std.specs.Prelude.{ℕ, suc, ◌<◌, ◌≡◌, ◌||◌, T, eqb}
use Rattle.std.proofs.Math.Path.{sym}
use Rattle.std.proofs.Common.{◌∙◌, inl, inr, arith, eqb→eq}
use Rattle.base.specs.Truth.{or_l, or_r, or_cases, eq_to_eqb}
use Rattle.rules.specs.Links.{Links, linked}
use Rattle.rules.specs.Search.{count}
use Rattle.rules.specs.Tables.{Tables, parent_of, note_of, placed}
use Rattle.rules.specs.Building.{pieces, place_pieces, close_building}
use Rattle.rules.specs.Facts.{Standing, Rested, Loose, Underway}
use Rattle.rules.proofs.Laws.Facts.{Learnt}
use Rattle.rules.proofs.Laws.Chain.{one}
use Rattle.rules.proofs.Laws.Tables.{same_parent_of, same_rank, same_placed, placed_loose, standing_cleared, cleared_forest, cleared_rested}
use Rattle.rules.proofs.Laws.Kept.{kept_placed}
use Rattle.rules.proofs.Laws.Partial.{Closing}
use Rattle.rules.proofs.Laws.Close.{not_placed, closing}
use Rattle.rules.proofs.Laws.Closed.{close_grows}

-- The links that the tables themselves tell: those noted and those held.
abbrev pub shown : Tables → Links
shown t u v = eqb (note_of t u) (suc v) || linked t.held u v

module _ {n k : ℕ} {t : Tables} (U : Underway n k t) where
  noted_shown : (u v : ℕ) → note_of t u ≡ suc v → T (shown t u v)
  noted_shown u v e = or_l (eqb (note_of t u) (suc v)) _ (eq_to_eqb (note_of t u) (suc v) e)

  -- A link that is shown is noted, to a placed fragment, or held, between unplaced ones.
  shown_noted : (u v : ℕ) → T (shown t u v) → T (placed t v) → note_of t u ≡ suc v
  shown_noted u v s p = elim (or_cases (eqb (note_of t u) (suc v)) _ s) [
    | inl e ↦ eqb→eq (note_of t u) (suc v) e
    | inr l ↦ absurd (placed_loose t v p (U.holding.ends u v l).4)
  ]

  shown_held : (u v : ℕ) → T (shown t u v) → Loose t v → T (linked t.held u v)
  shown_held u v s f = elim (or_cases (eqb (note_of t u) (suc v)) _ s) [
    | inl e ↦ absurd (placed_loose t v (U.noting u v (eqb→eq (note_of t u) (suc v) e)).3 f)
    | inr l ↦ l
  ]

  pub learnt_shown : Learnt n k (shown t) t
  learnt_shown = record {
    note_of_lem = λ u p e. let (i, j, l, q) = U.noting u p e in (i, j, l, q, noted_shown u p e);
    note_best = λ u p s l q. (p, shown_noted u p s q, omega arith);
    holding = U.holding;
    held_told = λ u v l. or_r (eqb (note_of t u) (suc v)) _ l;
    told_joined = λ u v s f g. one (shown_held u v s g);
    told_held = λ u v s f g. inl (shown_held u v s g);
  }

  closed : Closing n (shown t) t n (place_pieces n (pieces n t.held) n t)
  closed = closing U.standing learnt_shown n (omega arith)

  pub close_stands : Standing n (close_building n t)
  unfolding close_building
  close_stands = standing_cleared closed.standing

  pub close_rests : Rested n (close_building n t)
  unfolding close_building
  close_rests = cleared_rested n (place_pieces n (pieces n t.held) n t)

  -- An unplaced fragment has the parent that it had.
  pub close_loose : (v : ℕ) → Loose (close_building n t) v → (parent_of (close_building n t) v ≡ parent_of t v) × Loose t v
  unfolding close_building
  close_loose v f =
      let s = place_pieces n (pieces n t.held) n t in
      let e = cleared_forest s n in
      let g : Loose s v = sym (same_rank e v) ∙ f in
      (same_parent_of e v ∙ closed.loose_parent v g, not_placed t v (λ p. placed_loose s v (kept_placed closed.kept v p) g))

  -- Where one is unplaced, one more is placed.
  pub close_adds : (v : ℕ) → v < n → Loose t v → count (placed t) n < count (placed (close_building n t)) n
  unfolding close_building
  close_adds v h f =
      rw (same_placed (cleared_forest (place_pieces n (pieces n t.held) n t) n)) (close_grows U.standing learnt_shown closed v h f)
