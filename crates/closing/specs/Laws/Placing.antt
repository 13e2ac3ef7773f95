-- The pieces placed one after another, by smallest member.
-- Assumes nothing.
use Rattle.std.specs.Prelude.{ℕ, zero, suc, ◌+◌, ◌*◌, ◌≤◌, ◌<◌, ◌≡◌, ◌&&◌, not, T, eqb, get_or}
use Rattle.std.proofs.Math.Path.{refl, ap}
use Rattle.std.proofs.Common.{sym, ◌∙◌, arith, add-one, T_not}
use Rattle.std.proofs.Math.Bool.{true, false}
use mathlib.Core.List.{List, []}
use Rattle.base.specs.Pick.{pick_true, pick_false}
use Rattle.base.specs.Truth.{and_l, and_r, true_T, T_true, T_false}
use Rattle.rules.specs.Tables.{Tables, note_of, placed}
use Rattle.rules.specs.Building.{pieces, member, lost, noted, top_of, place_walk, place_piece, place_from, place_pieces}
use Rattle.rules.proofs.Laws.Facts.{Loose}
use Rattle.rules.proofs.Laws.Pieces.{Inside, label_le, member_elim}
use Rattle.rules.proofs.Laws.Noted.{top_none, top_noted}
use Rattle.rules.proofs.Laws.Tables.{same_note_of, placed_loose, rank_placed}
use Rattle.rules.proofs.Laws.Partial.{Of, Closing}
use Rattle.rules.proofs.Laws.Close.{lost_same, not_placed, ready_at, closing}
use Rattle.rules.proofs.Laws.CloseAny.{shown, learnt_shown}
use Rattle.state.specs.Layout.{tables_in, forest_in, bare}
use Rattle.state.proofs.Laws.Layout.{level_word}
use Rattle.closing.specs.Closing.{labels_in, label_at, Chained, top_by, due_at, Beside, Hanging, PathLeaves, WholeLeaves, Due, PieceLeaves, Closable, AllLeaves}
use Rattle.pieces.specs.Gathered.{held_tables}
use Rattle.closing.specs.Walk.{Wide}
use Rattle.closing.specs.Laws.Members.{membered_by}
use Rattle.closing.specs.Laws.Choosing.{label_by, label_word, member_label, noted_same, top_by_lem}
use Rattle.closing.specs.Laws.Walking.{bare_placed}
use Rattle.closing.specs.Laws.Frames.{frame_refl, frame_join, wide_by, beside_section, arranged_beside}

-- The choices for a piece, by the forest alone, are those of the rules.
module _ (n c p : ℕ) (f h₀ h : List ℕ) (D : Due n c p f h₀ h) (note top : ℕ) (en : note ≡ noted (forest_in n f) (labels_in n f) p n) (et : top ≡ top_by n (forest_in n f) (labels_in n f) p note) where
  note_is : note ≡ noted (held_tables n c f h₀) (labels_in n f) p n
  unfolding tables_in
  note_is = en ∙ noted_same (forest_in n f) (held_tables n c f h₀) (labels_in n f) p n refl refl

  top_is : top ≡ top_of n (held_tables n c f h₀) (labels_in n f) p
  unfolding tables_in
  top_is = et ∙ top_by_lem n (forest_in n f) (held_tables n c f h₀) (labels_in n f) p note refl note_is

  -- The top is a member.
  top_label : (x : ℕ) → note ≡ x → label_at n f top ≡ p
  top_label zero e = rw (top_is, top_none (held_tables n c f h₀) (labels_in n f) p n (sym note_is ∙ e)) D.noting.chained.own
  top_label (suc q) e =
      let (l, m, _) = top_noted (held_tables n c f h₀) (labels_in n f) p n q (sym note_is ∙ e) in
      rw top_is (member_label n f p (top_of n (held_tables n c f h₀) (labels_in n f) p) l m)

  pub due_hanging : note ≤ n → Hanging n c p top note f h₀ h
  due_hanging l = record {
    arranged = D.arranged;
    standing = D.standing;
    chained = D.noting.chained;
    labels = D.labels;
    top_of_lem = top_label note refl;
    note_in = l;
    ready = rw (top_is, note_is) D.ready;
  }

  lost_is : lost n (forest_in n f) (labels_in n f) p ≡ lost n (held_tables n c f h₀) (labels_in n f) p
  unfolding tables_in
  lost_is = lost_same n (forest_in n f) (held_tables n c f h₀) (labels_in n f) p refl

  pub piece_path : (f' : List ℕ) → true ≡ lost n (forest_in n f) (labels_in n f) p → PathLeaves n c top note f h₀ f' → PieceLeaves n c p f h₀ f'
  unfolding place_piece place_walk
  piece_path f' e P = record { tables = P.tables ∙ rw (top_is, note_is, ← lost_is, ← e, pick_true); beside = P.beside }

  pub piece_whole : (f' : List ℕ) → false ≡ lost n (forest_in n f) (labels_in n f) p → WholeLeaves n c top note f h₀ f' → PieceLeaves n c p f h₀ f'
  unfolding place_piece place_walk
  piece_whole f' e P = record { tables = P.tables ∙ rw (top_is, note_is, ← lost_is, ← e, pick_false); beside = P.beside }

-- Whether a piece is due, by the words of its smallest member.
module _ (n p : ℕ) (f : List ℕ) (l : p < n) where
  pub due_label : get_or f (n + p) 0 ≡ 0 → eqb (get_or f (7 * n + p) 0) p ≡ due_at n p f
  unfolding due_at
  due_label e =
      let loose : placed (forest_in n f) p ≡ false = T_false (placed (forest_in n f) p) (λ q. placed_loose (forest_in n f) p q (sym (level_word (bare n) f [] p l) ∙ e)) in
      label_word n f p p l ∙ rw loose

  pub due_not : (get_or f (n + p) 0 ≡ 0 → ⊥) → false ≡ due_at n p f
  unfolding due_at
  due_not d =
      let there : placed (forest_in n f) p ≡ true = T_true (placed (forest_in n f) p) (rank_placed (forest_in n f) p (omega (arith, level_word (bare n) f [] p l))) in
      rw there

-- The pieces with smallest member below p are placed.
pub record Placing (n c : ℕ) (f₀ h₀ : List ℕ) (p : ℕ) (f : List ℕ) : Type 0 where
  pub tables : held_tables n c f h₀ ≡ place_pieces n (labels_in n f₀) p (held_tables n c f₀ h₀)
  pub beside : Beside n f₀ f

pub placing_none : (n c : ℕ) (f h₀ : List ℕ) → Placing n c f h₀ 0 f
unfolding place_pieces
placing_none n c f h₀ = record { tables = refl; beside = frame_refl n 2 12 f }

pub placing_all : (n c : ℕ) (f₀ h₀ f : List ℕ) → Placing n c f₀ h₀ n f → AllLeaves n c f₀ h₀ f
placing_all n c f₀ h₀ f P = record { tables = P.tables; beside = P.beside }

module _ (n c : ℕ) (f₀ h₀ h : List ℕ) (p : ℕ) (f : List ℕ) (W : Closable n c f₀ h₀ h) (P : Placing n c f₀ h₀ p f) where
  abbrev before : Tables
  before = held_tables n c f₀ h₀

  pub placing_wide : Wide n f
  placing_wide = wide_by P.beside.same_long W.wide

  labels_now : labels_in n f ≡ labels_in n f₀
  labels_now = beside_section P.beside 7 W.wide (omega arith) (omega arith)

  due_is : due_at n p f ≡ (not (placed (place_pieces n (labels_in n f₀) p before) p) && member (labels_in n f₀) p p)
  unfolding due_at
  due_is = rw (labels_now, bare_placed n c f h₀ p, P.tables)

  pub placing_on : (f' : List ℕ) → true ≡ due_at n p f → PieceLeaves n c p f h₀ f' → Placing n c f₀ h₀ (p + 1) f'
  unfolding place_pieces place_from
  placing_on f' e Q = record {
    tables = rw (add-one, ← due_is, ← e, pick_true) (Q.tables ∙ rw (labels_now, P.tables));
    beside = frame_join P.beside Q.beside;
  }

  pub placing_past : false ≡ due_at n p f → Placing n c f₀ h₀ (p + 1) f
  unfolding place_pieces place_from
  placing_past e = record { tables = rw (add-one, ← due_is, ← e, pick_false) P.tables; beside = P.beside }

  -- A piece that is due can be placed.
  module _ (l : p < n) (e : true ≡ due_at n p f) where
    now_is : held_tables n c f h₀ ≡ place_pieces n (pieces n before.held) p before
    now_is = P.tables ∙ ap (λ (g : List ℕ). place_pieces n g p before) W.labels

    so_far : Closing n (shown before) before p (place_pieces n (pieces n before.held) p before)
    so_far = closing W.underway.standing (learnt_shown W.underway) p (omega arith)

    is_due : T (not (placed (place_pieces n (labels_in n f₀) p before) p) && member (labels_in n f₀) p p)
    is_due = true_T _ (sym (e ∙ due_is))

    own : Of n before p p
    own = (l, rw W.labels at (member_elim (labels_in n f₀) p p (and_r (not (placed (place_pieces n (labels_in n f₀) p before) p)) _ is_due)))

    unplaced : Loose (place_pieces n (pieces n before.held) p before) p
    unplaced =
        let s = place_pieces n (labels_in n f₀) p before in
        rw W.labels at (not_placed s p (T_not (placed s p) (and_l (not (placed s p)) (member (labels_in n f₀) p p) is_due)))

    loose_before : Loose before p
    loose_before = sym (so_far.rest_rank p l (omega (arith, own.1))) ∙ unplaced

    note_few : (v : ℕ) → note_of before v ≤ n
    note_few v = go (note_of before v) refl
      where
        go : (x : ℕ) → note_of before v ≡ x → x ≤ n
        go zero q = omega arith
        go (suc x) q = omega (arith, (W.underway.noting v x q).1)

    notes_now : (v : ℕ) → v < n → note_of (forest_in n f) v ≤ n
    unfolding tables_in note_of
    notes_now v g = omega (arith, ap (λ (t : Tables). note_of t v) now_is, same_note_of (place_pieces n (pieces n before.held) p before) before so_far.same_note v, note_few v)

    inside : Inside n before.held
    inside u v t = let (a, b, _, _, _) = W.underway.holding.ends u v t in (a, b)

    -- The labels are those of the links told.
    label_now : (v : ℕ) → v < n → label_at n f v ≡ get_or (pieces n before.held) v 0
    label_now v g = label_by n f (labels_now ∙ W.labels) v g

    chained_now : Chained n p f
    chained_now = record {
      wide = placing_wide;
      membered = membered_by (λ i a b. P.beside.within i (omega arith) (omega arith)) W.membered;
      in_range = l;
      own = label_now p l ∙ own.1;
      least = λ v g q. omega (arith, label_now v (omega arith), label_le n before.held inside v (omega arith));
    }

    held_now : (held_tables n c f h₀).held ≡ before.held
    unfolding tables_in
    held_now = refl

    pub placing_due : Due n c p f h₀ h
    placing_due = record {
      noting = record { chained = chained_now; notes = notes_now };
      arranged = arranged_beside (omega arith) P.beside W.arranged;
      labels = labels_now ∙ W.labels ∙ ap (pieces n) (sym held_now);
      standing = rw now_is so_far.standing;
      ready = rw (labels_now, W.labels, now_is) (ready_at W.underway.standing (learnt_shown W.underway) so_far own loose_before);
    }
