-- The three sections laid in scratch, and that the passes one after another leave them.
-- Assumes nothing.
use Rattle.std.specs.Prelude.{ℕ, ◌+◌, ◌*◌, ◌≤◌, ◌<◌, ◌≡◌, refl, List, T, get_or}
use Rattle.std.proofs.Math.Path.{sym, ap}
use Rattle.std.proofs.Common.{◌∙◌, arith}
use Rattle.std.proofs.Math.Decide.{dec_lt}
use Rattle.std.proofs.Math.ListN.{length}
use Rattle.base.specs.Pick.{tests}
use Rattle.base.specs.Truth.{or_r, T_false}
use Rattle.rules.specs.Tables.{Tables, parent_of, rank, note_of, placed, par, lev}
use Rattle.rules.specs.Reading.{above, lowest, reach, child_of, sole_below, cut, root_of, piece}
use Rattle.state.specs.Layout.{wiped, tables_in, forest_in}
use Rattle.state.specs.Test.{is_building, is_reading, is_read, is_numbered}
use Rattle.state.specs.Call.{head_refusal}
use Rattle.state.proofs.Laws.Lists.{zero_at}
use Rattle.state.proofs.Laws.Behind.{numbered_zero}
use Rattle.state.proofs.Laws.Clear.{wiped_length, wiped_before, wiped_within, wiped_behind}
use Rattle.state.proofs.Laws.Sound.{sound_known}
use Rattle.state.proofs.Laws.Keeps.{head_known}
use Rattle.state.proofs.Laws.KeepsReading.{not_building}
use Rattle.state.specs.declared.State.{State}
use Rattle.testing.specs.Laid.{Laid}
use Rattle.testing.specs.Laws.Whole.{passed_numbered}
use Rattle.testing.specs.Laws.Only.{only_forest}
use Rattle.testing.specs.Laws.Laid.{laid_words, laid_is}
use Rattle.reaches.specs.Spread.{flag, cut_at, sole_at, laid, spread_in}
use Rattle.reaches.specs.Passes.{Ready, Layable}
use Rattle.reaches.specs.Judged.{Lows, Pieces, Reached, Soles, cut_so, Cuttable, Cuts}
use Rattle.reaches.specs.Laws.Passes.{ready_by}
use Rattle.reaches.specs.Laws.Order.{numbered_ready}
use Rattle.reaches.specs.Laws.Judged.{reached_by}

-- The words of the table with the three sections laid.
pub spread_words : (n : ℕ) (t : Tables) (f : List ℕ) → 10 * n ≤ length f → Laid n 7 (piece n t) (cut_at n t) (sole_at n t) f (laid n t f)
unfolding laid
spread_words n t f long = laid_words n 7 (piece n t) (cut_at n t) (sole_at n t) f long

-- The passes one after another.
module _ {n : ℕ} {f g₁ : List ℕ} (o : Layable n f) (a : Lows n f g₁) where
  forest_1 : forest_in n g₁ ≡ forest_in n f
  forest_1 = only_forest n (omega arith) a.only

  pub ready_1 : Ready n g₁
  ready_1 = ready_by n (omega arith) a.only o.ready

  reached_1 : Reached n g₁
  reached_1 = record { whole = ready_1.whole; each = λ v h. a.each v h ∙ ap (λ t. reach n t v) (sym forest_1) }

  module _ {g₂ : List ℕ} (p : Pieces n g₁ g₂) where
    forest_2 : forest_in n g₂ ≡ forest_in n g₁
    forest_2 = only_forest n (omega arith) p.only

    pub reached_2 : Reached n g₂
    reached_2 = reached_by n (omega arith) (omega arith) p.only reached_1

    module _ {g₃ : List ℕ} (s : Soles n n g₂ g₃) where
      forest_3 : forest_in n g₃ ≡ forest_in n g₂
      forest_3 = only_forest n (omega arith) s.only

      low_3 : (i : ℕ) → i < 7 * n → get_or g₃ i 0 ≡ get_or f i 0
      low_3 i h = s.only.before i (omega arith) ∙ p.only.before i h ∙ a.only.before i (omega arith)

      cut_3 : (i : ℕ) → 8 * n ≤ i → i < 9 * n → get_or g₃ i 0 ≡ get_or f i 0
      cut_3 i h k = s.only.before i k ∙ p.only.behind i h ∙ a.only.before i (omega arith)

      high_3 : (i : ℕ) → 11 * n ≤ i → get_or g₃ i 0 ≡ get_or f i 0
      high_3 i h = s.only.behind i (omega arith) ∙ p.only.behind i (omega arith) ∙ a.only.behind i h

      pub cuttable_3 : Cuttable n g₃
      cuttable_3 = record {
        reached = reached_by n (omega arith) (omega arith) s.only reached_2;
        no_cut = λ i h k. cut_3 i h k ∙ o.blank i (omega arith) (omega arith);
        no_child = λ i h k. high_3 i h ∙ o.blank i (omega arith) (omega arith);
      }

      module _ {g₄ : List ℕ} (c : Cuts n n g₃ g₄) where
        long_4 : length g₄ ≡ length f
        long_4 = c.long ∙ s.only.long ∙ p.only.long ∙ a.only.long

        piece_4 : (v : ℕ) → v < n → get_or g₄ (7 * n + v) 0 ≡ piece n (forest_in n f) v
        piece_4 v h = c.before (7 * n + v) (omega arith) ∙ s.only.before (7 * n + v) (omega arith) ∙ p.each v h ∙ ap (λ t. piece n t v) forest_1

        cut_4 : (v : ℕ) → v < n → get_or g₄ (8 * n + v) 0 ≡ cut_at n (forest_in n f) v
        unfolding cut_at cut_so cut
        cut_4 v h = c.each v h ∙ ap (λ t. flag (cut_so n t n v)) (forest_3 ∙ forest_2 ∙ forest_1)

        sole_4 : (v : ℕ) → v < n → get_or g₄ (9 * n + v) 0 ≡ sole_at n (forest_in n f) v
        sole_4 v h = c.between (9 * n + v) (omega arith) (omega arith) ∙ s.each v h ∙ ap (λ t. sole_at n t v) (forest_2 ∙ forest_1)

        pub laid_made : wiped (10 * n) (12 * n) g₄ ≡ laid n (forest_in n f) f
        unfolding laid
        laid_made =
            let t = forest_in n f in
            let l : 12 * n ≤ length g₄ = omega (arith, long_4, o.ready.whole.long) in
            let early = wiped_before (10 * n) (12 * n) g₄ (omega arith) l in
            laid_is n 7 (piece n t) (cut_at n t) (sole_at n t) f (omega (arith, long_4)) (record {
              only = record {
                long = wiped_length (10 * n) (12 * n) g₄ (omega arith) l ∙ long_4;
                before = λ i h. early i (omega arith) ∙ c.before i (omega arith) ∙ low_3 i h;
                behind = λ i h. elim (dec_lt i (12 * n)) [
                  | yes k ↦ wiped_within (10 * n) (12 * n) g₄ (omega arith) l i h k ∙ sym (o.blank i (omega arith) (omega arith))
                  | no k ↦ wiped_behind (10 * n) (12 * n) g₄ (omega arith) l i (omega arith) ∙ c.behind i (omega arith) ∙ high_3 i (omega arith)
                ];
              };
              first = λ v h. early (7 * n + v) (omega arith) ∙ piece_4 v h;
              second = λ v h. early (8 * n + v) (omega arith) ∙ cut_4 v h;
              third = λ v h. early (9 * n + v) (omega arith) ∙ sole_4 v h;
            })

-- What is known where no refusal is due at the head.
pub read_layable : (s : State) (f h : List ℕ) → head_refusal is_read s f h ≡ 0 → Layable s.n f
read_layable s f h e =
    let n = s.n in
    let k = head_known is_read s f h e in
    let b : T (is_numbered s.stage) = or_r (is_reading s.stage) (is_read s.stage) k.allows in
    let S = sound_known s f h k.bounds k.passes.tested in
    let z = numbered_zero s (tables_in s f h) f k.bounds.frag_long S.back b in
    record {
      ready = numbered_ready (passed_numbered {h = h} (record { bounds = k.bounds; settled = T_false (is_building s.stage) (not_building s.stage b); found = S }) b);
      blank = λ i x y. zero_at (7 * n) (9 * n) f z i x (omega arith);
    }

-- The answers are asked of the fragment table alone.
laid_alone : (s : State) (f h : List ℕ) → laid s.n (forest_in s.n f) f ≡ laid s.n (tables_in s f h) f
unfolding laid piece root_of cut_at cut sole_at sole_below reach above lowest child_of par lev placed rank parent_of note_of tables_in
laid_alone s f h = refl

module _ (s : State) (f h : List ℕ) (r : ℕ) (e : r ≡ head_refusal is_read s f h) where
  pub spread_refused : (r ≡ 0 → ⊥) → f ≡ spread_in s f h
  unfolding spread_in
  spread_refused d = rw (← e) (simp tests)

  pub spread_is : r ≡ 0 → spread_in s f h ≡ laid s.n (forest_in s.n f) f
  unfolding spread_in
  spread_is z = rw (← e) (simp tests (sym (laid_alone s f h)))

  pub spread_laid : r ≡ 0 → (g : List ℕ) → g ≡ laid s.n (forest_in s.n f) f → g ≡ spread_in s f h
  spread_laid z g q = q ∙ sym (spread_is z)
