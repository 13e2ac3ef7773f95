-- The report of a state that passes.
-- Assumes nothing.
use Rattle.std.specs.Prelude.{ℕ, ◌+◌, ◌*◌, ◌≤◌, List, ◌≡◌, refl, length, get_or}
use Rattle.std.proofs.Common.{sym, ◌∙◌, arith, ext_get_or}
use Rattle.std.proofs.Math.Path.{ap}
use Rattle.std.proofs.Math.Decide.{dec_lt}
use Rattle.base.specs.Pick.{tests}
use Rattle.base.specs.Answer.{Answer, refuses}
use Rattle.numbers.specs.Number.{Wrote}
use Rattle.rules.specs.Tables.{parent_of, rank, note_of, placed, par, lev}
use Rattle.rules.specs.Reading.{above, lowest, reach, child_of, sole_below, sole, cut, root_of, piece}
use Rattle.state.specs.Layout.{wiped, tables_in, forest_in}
use Rattle.state.specs.Test.{is_read}
use Rattle.state.specs.Call.{head_refusal}
use Rattle.state.proofs.Laws.Clear.{wiped_length, wiped_before, wiped_within, wiped_behind}
use Rattle.state.specs.declared.State.{State}
use Rattle.testing.specs.Only.{Only}
use Rattle.testing.specs.Laws.Only.{only_trans, only_wider, only_forest, only_whole}
use Rattle.text.specs.Lines.{store}
use Rattle.reaches.specs.Spread.{cut_at, sole_at as marked, laid, spread_in}
use Rattle.reaches.specs.Laws.Laid.{spread_words, read_layable, spread_is}
use Rattle.lines.specs.Report.{fragment_at, sole_at, lines_to, soles_from, report_lines, report_call}
use Rattle.text.specs.Put.{ample}
use Rattle.lines.specs.Threads.{Threadable, Threads, Threaded}
use Rattle.lines.specs.Laws.Length.{soles_few}

-- The lines are those of the fragment table alone.
lines_alone : (s : State) (f h : List ℕ) → report_lines s.n s.entries s.passes (forest_in s.n f) ≡ report_lines s.n s.entries s.passes (tables_in s f h)
unfolding report_lines fragment_at soles_from sole_at sole sole_below piece root_of cut reach above lowest child_of par lev placed rank parent_of note_of tables_in
lines_alone s f h = refl

-- The text has room from where the sole links begin.
pub soles_room : {n from : ℕ} {f : List ℕ} → Threaded n f → from ≤ 200 + 200 * n → from + length (lines_to (soles_from n (forest_in n f)) n) ≤ ample
soles_room {n} {from} {f} t h = omega (arith, h, t.answers.whole.few, soles_few n (forest_in n f) (omega (arith, t.answers.whole.few)))

-- Threads do not change the text.
pub lines_kept : (n entries passes : ℕ) {f g : List ℕ} → Threads n 0 f g → report_lines n entries passes (forest_in n g) ≡ report_lines n entries passes (forest_in n f)
lines_kept n entries passes s = ap (report_lines n entries passes) (only_forest n (omega arith) s.only)

module _ (s : State) (f h out : List ℕ) (r : ℕ) (e : r ≡ head_refusal is_read s f h) where
  pub report_refused : (r ≡ 0 → ⊥) → (a : Answer ℕ) → a ≡ refuses r 0 → record { answer = a; buffer = out } ≡ report_call s f h out
  unfolding report_call
  report_refused d a q = rw (← e, q) (simp tests)

  report_stored : r ≡ 0 → (w : Wrote) → w ≡ store out (report_lines s.n s.entries s.passes (forest_in s.n f)) → w ≡ report_call s f h out
  unfolding report_call
  report_stored z w q = rw (← e) (simp tests (q ∙ ap (store out) (lines_alone s f h)))

-- The table after `reaches::spread` where no refusal is due.
module _ (s : State) (f h : List ℕ) (r : ℕ) (e : r ≡ head_refusal is_read s f h) (z : r ≡ 0) (g : List ℕ) (eg : g ≡ spread_in s f h) where
  was : g ≡ laid s.n (forest_in s.n f) f
  was = eg ∙ spread_is s f h r e z

  long : 16 * s.n ≤ length f
  long = (read_layable s f h (sym e ∙ z)).ready.whole.long

  answered : Only (7 * s.n) (10 * s.n) f g
  answered = rw was (spread_words s.n (forest_in s.n f) f (omega (arith, long))).only

  answered_forest : forest_in s.n g ≡ forest_in s.n f
  answered_forest = only_forest s.n (omega arith) answered

  pub answered_fit : Threadable s.n g
  answered_fit =
      let n = s.n in
      let t = forest_in n f in
      let w = spread_words n t f (omega (arith, long)) in
      let o = read_layable s f h (sym e ∙ z) in
      let at : (i : ℕ) → get_or g i 0 ≡ get_or (laid n t f) i 0 = λ i. ap (λ (x : List ℕ). get_or x i 0) was in
      record {
        answers = record {
          whole = only_whole n (omega arith) answered o.ready.whole;
          pieces = λ v k. at (7 * n + v) ∙ w.first v k ∙ ap (λ x. piece n x v) (sym answered_forest);
          cuts = λ v k. at (8 * n + v) ∙ w.second v k ∙ ap (λ x. cut_at n x v) (sym answered_forest);
          soles = λ v k. at (9 * n + v) ∙ w.third v k ∙ ap (λ x. marked n x v) (sym answered_forest);
        };
        blank = λ i a b. answered.behind i a ∙ o.blank i (omega arith) (omega arith);
      }

  pub answered_report : (out : List ℕ) (w : Wrote) → w ≡ store out (report_lines s.n s.entries s.passes (forest_in s.n g)) → w ≡ report_call s f h out
  answered_report out w q = report_stored s f h out r e z w (q ∙ ap (λ t. store out (report_lines s.n s.entries s.passes t)) answered_forest)

  -- And with the threads taken away again.
  pub answered_back : (k : List ℕ) → Only (10 * s.n) (12 * s.n) g k → wiped (7 * s.n) (16 * s.n) k ≡ f
  answered_back k q =
      let n = s.n in
      let o = read_layable s f h (sym e ∙ z) in
      let w : Only (7 * n) (12 * n) f k = only_trans (only_wider (omega arith) (omega arith) answered) (only_wider (omega arith) (omega arith) q) in
      let l : 16 * n ≤ length k = omega (arith, long, w.long) in
      ext_get_or 0 (wiped (7 * n) (16 * n) k) f (wiped_length (7 * n) (16 * n) k (omega arith) l ∙ w.long) (λ i b. elim (dec_lt i (7 * n)) [
        | yes a ↦ wiped_before (7 * n) (16 * n) k (omega arith) l i a ∙ w.before i a
        | no a ↦ elim (dec_lt i (16 * n)) [
          | yes c ↦ wiped_within (7 * n) (16 * n) k (omega arith) l i (omega arith) c ∙ sym (o.blank i (omega arith) c)
          | no c ↦ wiped_behind (7 * n) (16 * n) k (omega arith) l i (omega arith) ∙ w.behind i (omega arith)
        ]
      ])
