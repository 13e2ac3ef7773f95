-- The steps of telling: what each answer of a call below leads to.
-- Assumes nothing.
use Rattle.std.specs.Prelude.{Result, ℕ, ◌+◌, ◌<◌, ◌≤◌, Bool, not, List, ◌≡◌, T, eqb, length}
use Rattle.std.proofs.Math.Bool.{true, false}
use Rattle.std.proofs.Math.Path.{refl, sym, ap}
use Rattle.std.proofs.Common.{◌∙◌, subst}
use borrow.Author.Tests.{not-true, not-false}
use Rattle.base.specs.Pick.{pick_true, pick_false, tests}
use Rattle.base.specs.Answer.{gives, refuses}
use Rattle.numbers.specs.Number.{Wrote, groups_most}
use Rattle.numbers.specs.Answers.{told_end, wrote}
use Rattle.numbers.specs.declared.Why.{Why}
use Rattle.state.specs.Layout.{begun}
use Rattle.state.specs.Call.{Begun, Left, refused}
use Rattle.state.specs.Answers.{told}
use Rattle.state.specs.Start.{start_call}
use Rattle.state.specs.Close.{Ending, more, whole, read, open_call, close_call}
use Rattle.state.specs.declared.State.{State}
use Rattle.state.specs.declared.Stage.TheVariants.{Building}
use Rattle.parts.specs.Parts.{Opens, Feeds, open_part, feed_part}
use Rattle.text.specs.Lines.{refusal_line, no_file_line, store}
use Rattle.lines.specs.Report.{report_call}
use Rattle.telling.specs.Tell.{Does, reads, rereads, reports, refuses_at, lacks, Said, Turn, Goes, telling_of, beginning, size_of, refusing, missing, reporting_by, reporting, opening_by, opening, ending_by, ending, feeding_by, feeding, is_first, is_links, is_over, was_read, is_end, count_in, unheard, entering, unfinished, entered_by, entered, heading_by, heading, parted, given, fails, tell_call}
use Rattle.telling.specs.declared.Step.{Step}
use Rattle.telling.specs.declared.Step.TheVariants.{First, Head, Links, Over}
use Rattle.telling.specs.declared.Telling.{Telling}
use Rattle.telling.specs.declared.Heard.{Heard}
use Rattle.telling.specs.declared.Heard.TheVariants.{Bytes, End, Failed, NoFile}

false_true : false ≡ true → ⊥
false_true e = subst (λ (b : Bool). T (not b)) e tt

-- Lines.
module _ (text text' : List ℕ) (r : Result ℕ Why) (size : ℕ) (z : size ≡ size_of (told_end r)) where
  pub refuse_said : (number place : ℕ) → wrote r text' ≡ store text (refusal_line number place) → record { does = refuses_at number place size; text = text' } ≡ refusing number place text
  unfolding refusing
  refuse_said number place e = rw z (ap (λ (w : Wrote). record { does = refuses_at number place (size_of w.answer); text = w.buffer }) e)

  pub missing_said : (heard : Heard) → heard ≡ NoFile → wrote r text' ≡ store text no_file_line → record { does = lacks size; text = text' } ≡ unheard heard text
  unfolding unheard missing
  missing_said heard q e = rw (q, z) (ap (λ (w : Wrote). record { does = lacks (size_of w.answer); text = w.buffer }) e)

-- The report.
module _ (s : State) (f h text : List ℕ) (w : Wrote) where
  pub reported : (size : ℕ) → record { answer = gives size; buffer = text } ≡ w → record { said = record { does = reports s size; text = text }; frag = f; held = h } ≡ reporting s f h w
  unfolding reporting reporting_by
  reported size e = ap (reporting s f h) e

  pub unreported : (number place : ℕ) (u : Said) → record { answer = refuses number place; buffer = text } ≡ w → u ≡ refusing number place text → record { said = u; frag = f; held = h } ≡ reporting s f h w
  unfolding reporting reporting_by
  unreported number place u e g = rw g (ap (reporting s f h) e)

module _ (text : List ℕ) (s : State) (f h : List ℕ) where
  -- Reading is opened.
  pub opened_on : (l : Left (Unit {0})) (d : Does) → told tt s f h ≡ l → d ≡ rereads (telling_of s Head 0 0) → record { said = record { does = d; text = text }; frag = f; held = h } ≡ opening l text
  unfolding opening opening_by
  opened_on l d e g = rw g (ap (λ (m : Left (Unit {0})). opening m text) e)

  pub opened_bad : (l : Left (Unit {0})) (number place : ℕ) (u : Said) → refused s f h number place ≡ l → u ≡ refusing number place text → record { said = u; frag = f; held = h } ≡ opening l text
  unfolding opening opening_by
  opened_bad l number place u e g = rw g (ap (λ (m : Left (Unit {0})). opening m text) e)

  -- A pass ends.
  module _ (l : Left Ending) where
    pub ended_more : (d : Does) → told more s f h ≡ l → d ≡ rereads (telling_of s Head 0 0) → record { said = record { does = d; text = text }; frag = f; held = h } ≡ ending l text
    unfolding ending ending_by
    ended_more d e g = rw g (ap (λ (m : Left Ending). ending m text) e)

    pub ended_whole : (u : Turn) → told whole s f h ≡ l → u ≡ opening (open_call s f h) text → u ≡ ending l text
    unfolding ending ending_by
    ended_whole u e g = g ∙ ap (λ (m : Left Ending). ending m text) e

    pub ended_read : (u : Turn) → told read s f h ≡ l → u ≡ reporting s f h (report_call s f h text) → u ≡ ending l text
    unfolding ending ending_by
    ended_read u e g = g ∙ ap (λ (m : Left Ending). ending m text) e

    pub ended_bad : (number place : ℕ) (u : Said) → refused s f h number place ≡ l → u ≡ refusing number place text → record { said = u; frag = f; held = h } ≡ ending l text
    unfolding ending ending_by
    ended_bad number place u e g = rw g (ap (λ (m : Left Ending). ending m text) e)

  -- Links are taken.
  module _ (b : List ℕ) (last : Bool) (w : Feeds) where
    module _ (offset have : ℕ) (e : record { left = record { answer = gives (record { offset = offset; have = have }); state = s; frag = f; held = h }; buffer = b } ≡ w) where
      pub fed_last : (u : Turn) → last ≡ true → u ≡ ending (close_call s f h) text → record { turn = u; buffer = b } ≡ feeding last text w
      unfolding feeding feeding_by
      fed_last u p g = rw (p, g) (sym (pick_true _ _) ∙ ap (feeding true text) e)

      pub fed_more : last ≡ false
          → record { turn = record { said = record { does = reads (telling_of s Links offset have); text = text }; frag = f; held = h }; buffer = b } ≡ feeding last text w
      unfolding feeding feeding_by
      fed_more p = rw p (sym (pick_false _ _) ∙ ap (feeding false text) e)

    pub fed_bad : (number place : ℕ) (u : Said) → record { left = refused s f h number place; buffer = b } ≡ w → u ≡ refusing number place text
        → record { turn = record { said = u; frag = f; held = h }; buffer = b } ≡ feeding last text w
    unfolding feeding feeding_by
    fed_bad number place u e g = rw g (ap (feeding last text) e)

-- The head.
module _ (s : State) (step : Step) (n : ℕ) (f h : List ℕ) where
  pub enter_first : (b : Begun) → is_first step ≡ true → b ≡ start_call n s.k f h → b ≡ entering s step n f h
  unfolding entering
  enter_first b p e = rw p (e ∙ sym (pick_true _ _))

  pub enter_other : (r : Bool) → is_first step ≡ false → r ≡ not (eqb n s.n) → r ≡ true → record { answer = refuses 9 0; frag = f; held = h } ≡ entering s step n f h
  unfolding entering
  enter_other r p q e = rw (p, not-true (eqb n s.n) (sym q ∙ e)) (sym (pick_false _ _ ∙ pick_false _ _))

  pub enter_same : (r : Bool) → is_first step ≡ false → r ≡ not (eqb n s.n) → r ≡ false → record { answer = gives s; frag = f; held = h } ≡ entering s step n f h
  unfolding entering
  enter_same r p q e = rw (p, not-false (eqb n s.n) (sym q ∙ e)) (sym (pick_false _ _ ∙ pick_true _ _))

pub unfinished_last : (number : ℕ) (last : Bool) → last ≡ true → false ≡ unfinished number last
unfolding unfinished
unfinished_last number last e = rw e refl

pub unfinished_open : (number : ℕ) (last : Bool) → last ≡ false → eqb number 8 ≡ unfinished number last
unfolding unfinished
unfinished_open number last e = rw e refl

module _ (begins have : ℕ) (last : Bool) (text buffer f h : List ℕ) (b : Begun) where
  pub entered_on : (s : State) (u : Goes) → record { answer = gives s; frag = f; held = h } ≡ b → u ≡ feeding last text (feed_part s f h buffer have begins last) → u ≡ entered begins have last text buffer b
  unfolding entered entered_by
  entered_on s u e g = g ∙ ap (entered begins have last text buffer) e

  pub entered_bad : (number place : ℕ) (u : Said) → record { answer = refuses number place; frag = f; held = h } ≡ b → u ≡ refusing number place text
      → record { turn = record { said = u; frag = f; held = h }; buffer = buffer } ≡ entered begins have last text buffer b
  unfolding entered entered_by
  entered_bad number place u e g = rw g (ap (entered begins have last text buffer) e)

module _ (t : Telling) (f h text : List ℕ) (last : Bool) (b : List ℕ) (w : Opens) where
  pub head_on : (n begins have : ℕ) (u : Goes) → record { answer = gives (record { fragments = n; begins = begins; have = have }); buffer = b } ≡ w
      → u ≡ entered begins have last text b (entering t.state t.step n f h) → u ≡ heading t f h text last w
  unfolding heading heading_by
  head_on n begins have u e g = g ∙ ap (heading t f h text last) e

  module _ (number place : ℕ) (e : record { answer = refuses number place; buffer = b } ≡ w) where
    pub head_wait : true ≡ unfinished number last → record { turn = record { said = record { does = reads t; text = text }; frag = f; held = h }; buffer = b } ≡ heading t f h text last w
    unfolding heading heading_by
    head_wait p = ap (λ (x : Said). record { turn = record { said = x; frag = f; held = h }; buffer = b }) (rw (← p) (sym (pick_true _ _))) ∙ ap (heading t f h text last) e

    pub head_bad : (u : Said) → false ≡ unfinished number last → u ≡ refusing number place text
        → record { turn = record { said = u; frag = f; held = h }; buffer = b } ≡ heading t f h text last w
    unfolding heading heading_by
    head_bad u p g = ap (λ (x : Said). record { turn = record { said = x; frag = f; held = h }; buffer = b }) (rw (← p) (g ∙ sym (pick_false _ _))) ∙ ap (heading t f h text last) e

-- A part, by the step.
module _ (t : Telling) (f h b text : List ℕ) (last : Bool) where
  pub part_over : (step : Step) (u : Said) → is_over step ≡ true → u ≡ refusing 6 0 text → record { turn = record { said = u; frag = f; held = h }; buffer = b } ≡ parted t f h b text last step
  unfolding parted
  part_over First u e g = absurd (false_true e)
  part_over Head u e g = absurd (false_true e)
  part_over Links u e g = absurd (false_true e)
  part_over Over u e g = rw g refl

  pub part_links : (step : Step) (u : Goes) → is_links step ≡ true → u ≡ feeding last text (feed_part t.state f h b t.have t.offset last) → u ≡ parted t f h b text last step
  unfolding parted
  part_links First u e g = absurd (false_true e)
  part_links Head u e g = absurd (false_true e)
  part_links Links u e g = g
  part_links Over u e g = absurd (false_true e)

  pub part_head : (step : Step) (u : Goes) → is_over step ≡ false → is_links step ≡ false → u ≡ heading t f h text last (open_part t.have b) → u ≡ parted t f h b text last step
  unfolding parted
  part_head First u e d g = g
  part_head Head u e d g = g
  part_head Links u e d g = absurd (false_true (sym d))
  part_head Over u e d g = absurd (false_true (sym e))

-- Bytes that the buffer has room for, or not.
module _ (t : Telling) (f h b text : List ℕ) (count : ℕ) (last : Bool) where
  pub give_tight : (u : Said) → length b < groups_most + groups_most → u ≡ refusing 3 0 text → record { turn = record { said = u; frag = f; held = h }; buffer = b } ≡ given t f h b text count last
  unfolding given
  give_tight u l g = rw g (simp tests)

  pub give_short : (u : Said) → groups_most + groups_most ≤ length b → length b < t.have + count → u ≡ refusing 3 0 text → record { turn = record { said = u; frag = f; held = h }; buffer = b } ≡ given t f h b text count last
  unfolding given
  give_short u k l g = rw g (simp tests)

  pub give_part : (u : Goes) → groups_most + groups_most ≤ length b → t.have + count ≤ length b
      → u ≡ parted (telling_of t.state t.step t.offset (t.have + count)) f h b text last t.step → u ≡ given t f h b text count last
  unfolding given
  give_part u k l g = g ∙ simp tests

-- What was heard.
module _ (text : List ℕ) where
  pub unread_bytes : (heard : Heard) (count : ℕ) → heard ≡ Bytes count → record { does = fails; text = text } ≡ unheard heard text
  unfolding unheard
  unread_bytes heard count e = rw e refl

  pub unread_end : (heard : Heard) → heard ≡ End → record { does = fails; text = text } ≡ unheard heard text
  unfolding unheard
  unread_end heard e = rw e refl

  pub unread_failed : (heard : Heard) → heard ≡ Failed → record { does = fails; text = text } ≡ unheard heard text
  unfolding unheard
  unread_failed heard e = rw e refl

module _ (t : Telling) (f h b text : List ℕ) where
  pub tell_unread : (heard : Heard) (u : Said) → was_read heard ≡ false → u ≡ unheard heard text → record { turn = record { said = u; frag = f; held = h }; buffer = b } ≡ tell_call t f h b text heard
  unfolding tell_call unheard
  tell_unread (Bytes count) u e g = absurd (false_true (sym e))
  tell_unread End u e g = absurd (false_true (sym e))
  tell_unread Failed u e g = rw g refl
  tell_unread NoFile u e g = rw g refl

  pub tell_read : (heard : Heard) (u : Goes) (count : ℕ) (last : Bool) → was_read heard ≡ true → count ≡ count_in heard → last ≡ is_end heard → u ≡ given t f h b text count last → u ≡ tell_call t f h b text heard
  unfolding tell_call
  tell_read (Bytes i) u count last e c d g = g ∙ rw (c, d) refl
  tell_read End u count last e c d g = g ∙ rw (c, d) refl
  tell_read Failed u count last e c d g = absurd (false_true e)
  tell_read NoFile u count last e c d g = absurd (false_true e)

pub begin_state : (k : ℕ) (s : State) → s ≡ begun 0 k Building → telling_of s First 0 0 ≡ beginning k
unfolding beginning
begin_state k s e = rw e refl
