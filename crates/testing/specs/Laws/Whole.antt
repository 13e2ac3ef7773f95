-- The words of a whole fragment table, and that a call outside Building which its head lets pass is lent one; a numbered one in Reading and Read.
-- Assumes nothing.
use Rattle.std.specs.Prelude.{ℕ, suc, ◌+◌, ◌<◌, ◌≡◌, refl, ◌&&◌, List, [], T, leb, ltb, get_or}
use Rattle.std.proofs.Common.{◌∙◌, arith, leb→le, le→leb, ltb→lt, lt→ltb}
use Rattle.base.specs.Truth.{false_T, and_l, and_r, and_intro, T_ext}
use Rattle.rules.specs.Tables.{par, lev}
use Rattle.rules.specs.Reading.{above}
use Rattle.rules.specs.Numbers.{turn, end}
use Rattle.rules.proofs.Laws.Facts.{Levels}
use Rattle.rules.proofs.Laws.Tables.{SameForest, same_placed, standing_same, lev_rank, placed_rank, standing_levels}
use Rattle.rules.proofs.Laws.Numbers.{above_range}
use Rattle.rules.proofs.Laws.SameNumbers.{same_turn, same_end, same_at_turn}
use Rattle.state.specs.Layout.{tables_in, forest_in, bare, above_in}
use Rattle.state.specs.Test.{is_building, is_numbered}
use Rattle.state.proofs.Laws.Behind.{words_numbers}
use Rattle.state.proofs.Laws.Layout.{level_word}
use Rattle.state.specs.declared.State.{State}
use Rattle.testing.specs.Whole.{Whole, Numbered}
use Rattle.testing.specs.Laws.Head.{Passed}

module _ {n : ℕ} {f : List ℕ} (w : Whole n f) where
  pub levels : Levels n (par (forest_in n f)) (lev (forest_in n f))
  levels = standing_levels w.standing

  pub word_lev : (v : ℕ) → v < n → get_or f (n + v) 0 ≡ suc (lev (forest_in n f) v)
  word_lev v h = level_word (bare n) f [] v h ∙ omega (arith, lev_rank (forest_in n f) v, placed_rank (forest_in n f) v (w.all v h))

pub passed_whole : {s : State} {f h : List ℕ} → Passed s f h → Whole s.n f
unfolding tables_in
passed_whole {s} {f} {h} p =
    let a = p.found.agrees in
    let same : SameForest (forest_in s.n f) (tables_in s f h) = record { same_parent = refl; same_level = refl } in
    record {
      few = p.bounds.fragments;
      long = p.bounds.frag_long;
      standing = standing_same same a.standing.long_note a.standing.long_mark a.standing;
      all = λ v l. rw (same_placed same) (a.all_placed (false_T (is_building s.stage) p.settled) v l);
    }

-- In a numbered table who is above whom is a comparison of turns.
pub above_numbered : (n : ℕ) (f : List ℕ) → Numbered n f → (a b : ℕ) → a < n → b < n → above_in n f a b ≡ above (forest_in n f) a b
unfolding above_in
above_numbered n f N a b ha hb =
    let t = forest_in n f in
    let range = above_range n t (levels N.whole) a b ha hb in
    rw (N.turns a ha, N.turns b hb, N.ends a ha) (T_ext (leb (turn n t a) (turn n t b) && ltb (turn n t b) (end n t a)) (above t a b)
    (λ x. range.1 (leb→le (turn n t a) (turn n t b) (and_l (leb (turn n t a) (turn n t b)) _ x), ltb→lt (turn n t b) (end n t a) (and_r (leb (turn n t a) (turn n t b)) _ x)))
    (λ x. let (l, g) = range.0 x in and_intro (leb (turn n t a) (turn n t b)) _ (le→leb (turn n t a) (turn n t b) l) (lt→ltb (turn n t b) (end n t a) g)))

pub passed_numbered : {s : State} {f h : List ℕ} → Passed s f h → T (is_numbered s.stage) → Numbered s.n f
unfolding tables_in
passed_numbered {s} {f} {h} p r =
    let same : SameForest (tables_in s f h) (forest_in s.n f) = record { same_parent = refl; same_level = refl } in
    let words = words_numbers s (tables_in s f h) f p.bounds.frag_long p.found.back r in
    record {
      whole = passed_whole p;
      turns = λ v l. (words v l).0 ∙ same_turn same s.n v;
      ends = λ v l. (words v l).1 ∙ same_end same s.n v;
      whose = λ i l. (words i l).2 ∙ same_at_turn same s.n i;
    }
