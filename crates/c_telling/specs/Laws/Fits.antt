-- What telling goes on with has a state whose numbers fit in words, where the one that it began with has.
-- Assumes nothing.
use Rattle.std.specs.Prelude.{ℕ, ◌+◌, ◌≤◌, ◌≡◌, refl, Bool, List, take}
use Rattle.std.proofs.Math.Path.{ap}
use Rattle.std.proofs.Math.Bool.{true, false}
use Rattle.std.proofs.Common.{arith}
use Rattle.base.specs.Pick.{pick_all}
use Rattle.base.specs.Answer.{Answer, gives, refuses}
use Rattle.lists.specs.Laws.Link.{never_both}
use Rattle.state.specs.Call.{Begun, Left}
use Rattle.state.specs.Take.{take_call}
use Rattle.state.specs.Close.{Ending, more, whole, read, open_call, close_call}
use Rattle.state.proofs.Laws.KeepsCalls.{Upholds, take_keeps, open_keeps, close_keeps}
use Rattle.state.specs.declared.State.{State}
use Rattle.c_words.specs.State.{Fits}
use Rattle.c_words.specs.Laws.Holds.{passed_fits}
use Rattle.parts.specs.Parts.{Header, Opens, Carry, Feeds, open_part, fed_by, fed, tellable, feed_part}
use Rattle.lines.specs.Report.{report_call}
use Rattle.telling.specs.Tell.{Does, reads, rereads, reports, refuses_at, lacks, fails, Said, Goes, telling_of, refusing, missing, reporting_by, reporting, opening_by, opening, ending_by, ending, feeding_by, feeding, entering, entered_by, entered, heading_by, heading, parted, given, tell_call}
use Rattle.c_telling.specs.Telling.{step_word, NoneOver}
use Rattle.telling.specs.declared.Step.{Step}
use Rattle.telling.specs.declared.Step.TheVariants.{First, Head, Links, Over}
use Rattle.telling.specs.declared.Telling.{Telling}
use Rattle.telling.specs.declared.Heard.{Heard}
use Rattle.telling.specs.declared.Heard.TheVariants.{Bytes, End, Failed, NoFile}

abbrev pub FitsNext : Does → Type 0
FitsNext (reads t) = Fits t.state × NoneOver t
FitsNext (rereads t) = Fits t.state × NoneOver t
FitsNext (reports s size) = Fits s
FitsNext (refuses_at number place size) = Unit
FitsNext (lacks size) = Unit
FitsNext fails = Unit

-- One that is not over.
is_on : (p : Step) (have : ℕ) → step_word p ≤ 2 → p ≡ Over → have ≡ 0
is_on p have l e = absurd (omega (arith, ap step_word e))

FitsSaid : Said → Type 0
FitsSaid x = FitsNext x.does

FitsGoes : Goes → Type 0
FitsGoes g = FitsNext g.turn.said.does

-- Accepted, a call leaves a state that fits.
upheld_fits : {A : Type 0} (s : State) (f h : List ℕ) (l : Left A) → Upholds s f h l → (x : A) → l.answer ≡ gives x → Fits l.state
upheld_fits s f h l u x e = passed_fits l.state l.frag l.held (u.keeps x e)

refusing_fits : (number place : ℕ) (text : List ℕ) → FitsNext (refusing number place text).does
unfolding refusing
refusing_fits number place text = tt

reporting_fits : (s : State) (f h text : List ℕ) → Fits s → (x : Answer ℕ) → FitsNext (reporting_by s f h text x).said.does
unfolding reporting_by
reporting_fits s f h text F (gives size) = F
reporting_fits s f h text F (refuses number place) = refusing_fits number place text

opened_fits : (s : State) (f h text : List ℕ) (l : Left (Unit {0})) → Upholds s f h l → (x : Answer (Unit {0})) → l.answer ≡ x → FitsNext (opening_by l text x).said.does
unfolding opening_by
opened_fits s f h text l u (gives x) e = (upheld_fits s f h l u x e, is_on Head 0 (omega arith))
opened_fits s f h text l u (refuses number place) e = refusing_fits number place text

opening_fits : (s : State) (f h text : List ℕ) → FitsNext (opening (open_call s f h) text).said.does
unfolding opening
opening_fits s f h text = opened_fits s f h text (open_call s f h) (open_keeps s f h) (open_call s f h).answer refl

ended_fits : (s : State) (f h text : List ℕ) (l : Left Ending) → Upholds s f h l → (x : Answer Ending) → l.answer ≡ x → FitsNext (ending_by l text x).said.does
unfolding ending_by reporting
ended_fits s f h text l u (gives more) e = (upheld_fits s f h l u more e, is_on Head 0 (omega arith))
ended_fits s f h text l u (gives whole) e = opening_fits l.state l.frag l.held text
ended_fits s f h text l u (gives read) e =
    let w = report_call l.state l.frag l.held text in
    reporting_fits l.state l.frag l.held w.buffer (upheld_fits s f h l u read e) w.answer
ended_fits s f h text l u (refuses number place) e = refusing_fits number place text

ending_fits : (s : State) (f h text : List ℕ) → FitsNext (ending (close_call s f h) text).said.does
unfolding ending
ending_fits s f h text = ended_fits s f h text (close_call s f h) (close_keeps s f h) (close_call s f h).answer refl

-- Links that are fed: accepted, they leave a state that fits.
FitsFed : Feeds → Type 0
FitsFed w = (c : Carry) → w.left.answer ≡ gives c → Fits w.left.state

taken_fed : (len offset end : ℕ) (s : State) (f h b : List ℕ) (l : Left (Unit {0})) → Upholds s f h l → (x : Answer (Unit {0})) → l.answer ≡ x → FitsFed (fed_by len offset end b l x)
unfolding FitsFed fed_by
taken_fed len offset end s f h b l u (gives x) e c q = upheld_fits s f h l u x e
taken_fed len offset end s f h b l u (refuses number place) e c q = absurd (never_both q refl)

fed_fits : (s : State) (f h b : List ℕ) (len offset : ℕ) (last : Bool) → FitsFed (feed_part s f h b len offset last)
unfolding feed_part fed FitsFed
fed_fits s f h b len offset last =
    let end = tellable len last b in
    let l = take_call s f h (take end b) in
    pick_all FitsFed _ _ _ unfed (taken_fed len offset end s f h b l (take_keeps s f h (take end b)) l.answer refl)
  where
    unfed : FitsFed (record { left = record { answer = refuses 3 0; state = s; frag = f; held = h }; buffer = b })
    unfed c q = absurd (never_both q refl)

feeding_by_lem : (last : Bool) (text : List ℕ) (w : Feeds) → FitsFed w → (x : Answer Carry) → w.left.answer ≡ x → FitsGoes (feeding_by last text w x)
unfolding feeding_by FitsFed FitsGoes
feeding_by_lem last text w F (gives c) e = pick_all FitsGoes _ _ _ (ending_fits w.left.state w.left.frag w.left.held text) (F c e, is_on Links c.have (omega arith))
feeding_by_lem last text w F (refuses number place) e = refusing_fits number place text

feeding_fits : (last : Bool) (text : List ℕ) (s : State) (f h b : List ℕ) (len offset : ℕ) → FitsGoes (feeding last text (feed_part s f h b len offset last))
unfolding feeding
feeding_fits last text s f h b len offset = let w = feed_part s f h b len offset last in feeding_by_lem last text w (fed_fits s f h b len offset last) w.left.answer refl

entered_by_lem : (begins have : ℕ) (last : Bool) (text b : List ℕ) (u : Begun) (x : Answer State) → FitsGoes (entered_by begins have last text b u x)
unfolding entered_by FitsGoes
entered_by_lem begins have last text b u (gives s) = feeding_fits last text s u.frag u.held b have begins
entered_by_lem begins have last text b u (refuses number place) = refusing_fits number place text

module _ (t : Telling) (F : Fits t.state) (f h text : List ℕ) (last : Bool) where
  heading_by_lem : step_word t.step ≤ 2 → (b : List ℕ) (x : Answer Header) → FitsGoes (heading_by t f h text last b x)
  unfolding heading_by entered FitsGoes FitsSaid
  heading_by_lem l b (gives head) =
      let u = entering t.state t.step head.fragments f h in
      entered_by_lem head.begins head.have last text b u u.answer
  heading_by_lem l b (refuses number place) = pick_all FitsSaid _ _ _ (F, is_on t.step t.have l) (refusing_fits number place text)

  heading_fits : step_word t.step ≤ 2 → (w : Opens) → FitsGoes (heading t f h text last w)
  unfolding heading
  heading_fits l w = heading_by_lem l w.buffer w.answer

  parted_fits : (b : List ℕ) (step : Step) → t.step ≡ step → FitsGoes (parted t f h b text last step)
  unfolding parted FitsGoes
  parted_fits b First e = heading_fits (omega (arith, ap step_word e)) (open_part t.have b)
  parted_fits b Head e = heading_fits (omega (arith, ap step_word e)) (open_part t.have b)
  parted_fits b Links e = feeding_fits last text t.state f h b t.have t.offset
  parted_fits b Over e = refusing_fits 6 0 text

module _ (t : Telling) (F : Fits t.state) (f h b text : List ℕ) where
  given_fits : (count : ℕ) (last : Bool) → FitsGoes (given t f h b text count last)
  unfolding given FitsGoes
  given_fits count last =
      pick_all FitsGoes _ _ _ (refusing_fits 3 0 text)
      (pick_all FitsGoes _ _ _ (refusing_fits 3 0 text)
      (parted_fits (telling_of t.state t.step t.offset (t.have + count)) F f h text last b t.step refl))

  pub tell_fits : (heard : Heard) → FitsNext (tell_call t f h b text heard).turn.said.does
  unfolding tell_call FitsGoes missing
  tell_fits (Bytes count) = given_fits count false
  tell_fits End = given_fits 0 true
  tell_fits Failed = tt
  tell_fits NoFile = tt
