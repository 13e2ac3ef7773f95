-- A pass under way: the state and the words hold what the rules make of the links told so far, and the calls go on from there as the course does.
-- Assumes nothing.
use Prim.Native.Nat.{ℕ, suc, ◌+◌, ◌<◌, ◌≤◌}
use Rattle.std.specs.Prelude.{Bool, List, [], ◌++◌, ◌≡◌}
use Rattle.std.proofs.Math.Bool.{true, false}
use Rattle.std.proofs.Math.Path.{refl, sym, ap, subst}
use Rattle.std.proofs.Common.{◌∙◌, length-append}
use Rattle.std.proofs.Math.Dec.{T}
use Rattle.std.proofs.Math.ListN.{length}
use Rattle.base.specs.Pick.{pick_true, pick_false, tests}
use Rattle.base.specs.Answer.{Answer, gives, refuses}
use Rattle.base.specs.Truth.{T_dec, T_true, T_false}
use Rattle.base.specs.Link.{Link}
use Rattle.numbers.specs.Number.{put}
use Rattle.lists.specs.List.{block_links}
use Rattle.rules.specs.Tables.{Tables, clear_notes}
use Rattle.rules.specs.Building.{build_links, close_building, pass, done}
use Rattle.rules.specs.Reading.{read_links, accepted}
use Rattle.rules.proofs.Laws.Append.{build_append}
use Rattle.rules.proofs.Laws.Reading.{read_append}
use Rattle.state.specs.Layout.{tables_in}
use Rattle.state.specs.Test.{sound, is_building, is_reading, is_read}
use Rattle.state.specs.Call.{Left, refused, moved, head_refusal}
use Rattle.state.specs.Take.{takes, tell, taken, take_in, take_call}
use Rattle.state.specs.Close.{Ending, more, whole, read, open_call, close_call}
use Rattle.state.proofs.Laws.Keeps.{Passes, Stands, headed_on}
use Rattle.state.proofs.Laws.KeepsCalls.{take_keeps, open_keeps, close_keeps}
use Rattle.state.proofs.Laws.KeepsLeft.{Makes, take_makes, open_makes, whole_makes, more_makes, read_makes, false_makes}
use Rattle.state.specs.declared.State.{State}
use Rattle.state.specs.declared.Stage.{Stage}
use Rattle.state.specs.declared.Stage.TheVariants.{Building, Reading}
use Rattle.text.specs.Lines.{store}
use Rattle.lines.specs.Report.{report_lines, report_call}
use Rattle.telling.specs.Tell.{rereads, reports, Turn, telling_of, refusing, reporting_by, reporting, opening_by, opening, ending_by, ending, retelling}
use Rattle.telling.specs.declared.Step.TheVariants.{Head}
use Rattle.printed.specs.Printed.{Course, unread, again, reported, refused_at, closes_building, closes_reading, closes}

abbrev pub stage_of : Bool → Stage
stage_of true = Reading
stage_of false = Building

-- What the rules make of the links g, told to the tables t.
unfoldable pub during : (k : ℕ) → (reading : Bool) → (n : ℕ) → Tables → List Link → Tables
during k true n t g = read_links t g
during k false n t g = build_links n k t g

pub during_more : (k : ℕ) (r : Bool) (n : ℕ) (t : Tables) (g h : List Link) → during k r n (during k r n t g) h ≡ during k r n t (g ++ h)
unfolding during
during_more k true n t g h = sym (read_append t g h)
during_more k false n t g h = sym (build_append n k t g h)

-- A pass with room k told the links g, from the tables t on.
pub record Under (k : ℕ) (r : Bool) (n p : ℕ) (t : Tables) (g : List Link) (s : State) (f h : List ℕ) : Type 0 where
  pub tested : Passes s f h
  pub size : s.n ≡ n
  pub room : s.k ≡ k
  pub staged : s.stage ≡ stage_of r
  pub passed : s.passes ≡ p
  pub counted : s.entries ≡ length g
  pub holds : tables_in s f h ≡ during k r n t g

stage_takes : (r : Bool) → T (takes (stage_of r))
stage_takes true = tt
stage_takes false = tt

tell_during : (r : Bool) (s : State) (t : Tables) (g : List Link) → s.stage ≡ stage_of r → tell s t g ≡ during s.k r s.n t g
unfolding tell during
tell_during true s t g e = rw e (pick_false _ _)
tell_during false s t g e = rw e (pick_true _ _)

module _ {k : ℕ} {r : Bool} {n p : ℕ} {t : Tables} {g : List Link} {s : State} {f h : List ℕ} (U : Under k r n p t g s f h) where
  under_takes : T (takes s.stage)
  under_takes = rw U.staged (stage_takes r)

  block_links_lem : (block : List ℕ) → block_links s.n s.entries block ≡ block_links n (length g) block
  block_links_lem block = rw (U.size, U.counted) refl

  -- A block that is refused.
  pub take_refused : (block : List ℕ) (number place : ℕ) → block_links n (length g) block ≡ refuses number place → take_call s f h block ≡ refused s f h number place
  unfolding take_call take_in taken
  take_refused block number place e =
      rw (headed_on takes s f h U.tested under_takes (taken s f h (block_links s.n s.entries block)), block_links_lem block, e) refl

  -- A block that is accepted: the pass has told its links too.
  module _ (block : List ℕ) (g' : List Link) (e : block_links n (length g) block ≡ gives g') where
    made : Makes (take_call s f h block) (gives tt) (moved s.stage s.passes (s.entries + length g') (tell s (tables_in s f h) g') s) (tell s (tables_in s f h) g')
    made = take_makes s f h U.tested under_takes block g' (block_links_lem block ∙ e)

    pub take_accepted : (take_call s f h block).answer ≡ gives tt
    take_accepted = made.answer

    pub take_under : Under k r n p t (g ++ g') (take_call s f h block).state (take_call s f h block).frag (take_call s f h block).held
    unfolding moved
    take_under = record {
      tested = (take_keeps s f h block).keeps tt made.answer;
      size = ap (λ (z : State). z.n) made.state ∙ U.size;
      room = ap (λ (z : State). z.k) made.state ∙ U.room;
      staged = ap (λ (z : State). z.stage) made.state ∙ U.staged;
      passed = ap (λ (z : State). z.passes) made.state ∙ U.passed;
      counted = ap (λ (z : State). z.entries) made.state ∙ ap (λ (i : ℕ). i + length g') U.counted ∙ sym (length-append g g');
      holds =
          made.tables
          ∙ tell_during r s (tables_in s f h) g' U.staged
          ∙ ap (λ (i : ℕ). during i r s.n (tables_in s f h) g') U.room
          ∙ ap (λ (i : ℕ). during k r i (tables_in s f h) g') U.size
          ∙ ap (λ (x : Tables). during k r n x g') U.holds
          ∙ during_more k r n t g g';
    }

-- What a course asks of the answer to the end of a file.
abbrev pub Leads : (k : ℕ) → (text : List ℕ) → Course → Turn → Type 0
Leads k text unread u = ⊥
Leads k text (again r n p t) u = (s : State) × (u.said ≡ record { does = rereads (telling_of s Head 0 0); text = text }) × Under k r n p t [] s u.frag u.held
Leads k text (reported lines) u =
    (length lines ≤ length text → (s : State) × (u.said ≡ record { does = reports s (length lines); text = put text 0 lines }))
    × (length text < length lines → u.said ≡ refusing 3 0 text)
Leads k text (refused_at number place) u = u.said ≡ refusing number place text

pub during_none : (k : ℕ) (r : Bool) (n : ℕ) (t : Tables) → t ≡ during k r n t []
unfolding during read_links build_links
during_none k true n t = refl
during_none k false n t = refl

-- A call that goes on to a new pass.
begins_under : {A : Type 0} (k : ℕ) (r : Bool) (n p : ℕ) (t : Tables) (l : Left A) (x : A) (s : State) → Makes l (gives x) (moved (stage_of r) p 0 t s) t → Stands l → s.n ≡ n → s.k ≡ k
    → Under k r n p t [] l.state l.frag l.held
unfolding moved
begins_under k r n p t l x s m z a b = record {
  tested = z;
  size = ap (λ (y : State). y.n) m.state ∙ a;
  room = ap (λ (y : State). y.k) m.state ∙ b;
  staged = ap (λ (y : State). y.stage) m.state;
  passed = ap (λ (y : State). y.passes) m.state;
  counted = ap (λ (y : State). y.entries) m.state;
  holds = m.tables ∙ during_none k r n t;
}

-- The answers of a close.
ending_by_lem : (l : Left Ending) (text : List ℕ) (x : Answer Ending) → l.answer ≡ x → ending l text ≡ ending_by l text x
unfolding ending
ending_by_lem l text x e = ap (ending_by l text) e

opening_by_lem : (l : Left (Unit {0})) (text : List ℕ) (x : Answer (Unit {0})) → l.answer ≡ x → opening l text ≡ opening_by l text x
unfolding opening
opening_by_lem l text x e = ap (opening_by l text) e

-- What leads on.
module _ (k : ℕ) (text : List ℕ) (c : Course) (u : Turn) where
  leads_again : (r : Bool) (n p : ℕ) (t : Tables) (s : State) (f h : List ℕ) → c ≡ again r n p t → u ≡ retelling s f h text → Under k r n p t [] s f h → Leads k text c u
  leads_again r n p t s f h e g U = rw (e, g) (s, refl, U)

  pub leads_refused : (number place : ℕ) → c ≡ refused_at number place → u.said ≡ refusing number place text → Leads k text c u
  leads_refused number place e g = rw e g

  leads_reported : (lines f h : List ℕ) (s : State) → c ≡ reported lines → u ≡ reporting s f h (store text lines) → Leads k text c u
  unfolding reporting reporting_by store
  leads_reported lines f h s e g = rw (e, g) (λ l. (s, simp tests refl), λ l. simp tests refl)

makes_same : {A : Type 0} (l : Left A) (x : A) (g : Stage) (p q : ℕ) (t z : Tables) (s : State) → p ≡ q → t ≡ z → Makes l (gives x) (moved g p 0 t s) t → Makes l (gives x) (moved g q 0 z s) z
makes_same l x g p q t z s e d m = subst (λ (y : Tables). Makes l (gives x) (moved g q 0 y s) y) d (subst (λ (i : ℕ). Makes l (gives x) (moved g i 0 t s) t) e m)

-- The close of a building pass.
module _ {k n p : ℕ} {t : Tables} {g : List Link} {s : State} {f h : List ℕ} (U : Under k false n p t g s f h) (text : List ℕ) where
  in_building : T (is_building s.stage)
  in_building = rw U.staged tt

  abbrev closed : Left Ending
  closed = close_call s f h

  t' : Tables
  t' = close_building s.n (tables_in s f h)

  closed_tables : t' ≡ pass n k t g
  unfolding t' pass during
  closed_tables = ap (λ (i : ℕ). close_building i (tables_in s f h)) U.size ∙ ap (close_building n) U.holds

  building_more : (T (done n (pass n k t g)) → ⊥) → Leads k text (closes k false n p t g) (ending closed text)
  unfolding closes closes_building ending_by t'
  building_more d =
      let d' : T (done s.n t') → ⊥ = λ x. d (subst (λ (y : Tables). T (done n y)) closed_tables (subst (λ (i : ℕ). T (done i t')) U.size x)) in
      let m = more_makes s f h U.tested in_building d' in
      let z = begins_under k false n (suc p) (pass n k t g) closed more s (makes_same closed more Building _ _ _ _ s (ap suc U.passed) closed_tables m) ((close_keeps s f h).keeps more m.answer) U.size U.room in
      leads_again k text (closes k false n p t g) (ending closed text) false n (suc p) (pass n k t g) closed.state closed.frag closed.held
      (rw (T_false (done n (pass n k t g)) d) (pick_false _ _))
      (ending_by_lem closed text (gives more) m.answer) z

  building_whole : T (done n (pass n k t g)) → Leads k text (closes k false n p t g) (ending closed text)
  unfolding closes closes_building ending_by opening_by t' moved
  building_whole d =
      let d' : T (done s.n t') = subst (λ (i : ℕ). T (done i t')) (sym U.size) (subst (λ (y : Tables). T (done n y)) (sym closed_tables) d) in
      let m = whole_makes s f h U.tested in_building d' in
      let w = (close_keeps s f h).keeps whole m.answer in
      let e = ap (λ (y : State). y.stage) m.state in
      let o = open_call closed.state closed.frag closed.held in
      let q = open_makes closed.state closed.frag closed.held w (rw e tt) in
      let a : closed.state.passes ≡ suc p = ap (λ (y : State). y.passes) m.state ∙ ap suc U.passed in
      let b : closed.state.n ≡ n = ap (λ (y : State). y.n) m.state ∙ U.size in
      let c : clear_notes closed.state.n (tables_in closed.state closed.frag closed.held) ≡ clear_notes n (pass n k t g)
      = ap (λ (i : ℕ). clear_notes i (tables_in closed.state closed.frag closed.held)) b ∙ ap (clear_notes n) (m.tables ∙ closed_tables) in
      let z = begins_under k true n (suc p) (clear_notes n (pass n k t g)) o tt closed.state (makes_same o tt Reading _ _ _ _ closed.state a c q)
      ((open_keeps closed.state closed.frag closed.held).keeps tt q.answer) b (ap (λ (y : State). y.k) m.state ∙ U.room) in
      leads_again k text (closes k false n p t g) (ending closed text) true n (suc p) (clear_notes n (pass n k t g)) o.state o.frag o.held
      (rw (T_true (done n (pass n k t g)) d) (pick_true _ _))
      (ending_by_lem closed text (gives whole) m.answer ∙ opening_by_lem o text (gives tt) q.answer) z

-- The report of a state in Read is made, and stored where there is room.
head_none : (allowed : Stage → Bool) (s : State) (f h : List ℕ) → Passes s f h → T (allowed s.stage) → head_refusal allowed s f h ≡ 0
unfolding head_refusal
head_none allowed s f h p a =
    let x = T_true (allowed s.stage) a in
    let y = T_true (sound s f h) p.tested in
    rw (p.in_bounds, x, y) (simp tests)

report_read : (s : State) (f h text : List ℕ) → Passes s f h → T (is_read s.stage) → report_call s f h text ≡ store text (report_lines s.n s.entries s.passes (tables_in s f h))
unfolding report_call
report_read s f h text p a = rw (head_none is_read s f h p a) (simp tests)

-- The close of a reading pass.
module _ {k n p : ℕ} {t : Tables} {g : List Link} {s : State} {f h : List ℕ} (U : Under k true n p t g s f h) (text : List ℕ) where
  in_reading : T (is_reading s.stage)
  in_reading = rw U.staged tt

  abbrev read_closed : Left Ending
  read_closed = close_call s f h

  read_tables_lem : tables_in s f h ≡ read_links t g
  unfolding during
  read_tables_lem = U.holds

  accepted_here : T (accepted n (read_links t g)) → T (accepted s.n (tables_in s f h))
  accepted_here a = subst (λ (i : ℕ). T (accepted i (tables_in s f h))) (sym U.size) (subst (λ (y : Tables). T (accepted n y)) (sym read_tables_lem) a)

  accepted_there : T (accepted s.n (tables_in s f h)) → T (accepted n (read_links t g))
  accepted_there a = subst (λ (y : Tables). T (accepted n y)) read_tables_lem (subst (λ (i : ℕ). T (accepted i (tables_in s f h))) U.size a)

  reading_false : (T (accepted n (read_links t g)) → ⊥) → Leads k text (closes k true n p t g) (ending read_closed text)
  unfolding closes closes_reading ending_by
  reading_false d =
      let m = false_makes s f h U.tested in_reading (λ x. d (accepted_there x)) in
      leads_refused k text (closes k true n p t g) (ending read_closed text) 9 0
      (rw (T_false (accepted n (read_links t g)) d) (pick_false _ _))
      (ap (λ (u : Turn). u.said) (ending_by_lem read_closed text (refuses 9 0) m.answer))

  reading_true : T (accepted n (read_links t g)) → Leads k text (closes k true n p t g) (ending read_closed text)
  unfolding closes closes_reading ending_by moved
  reading_true d =
      let m = read_makes s f h U.tested in_reading (accepted_here d) in
      let w = (close_keeps s f h).keeps read m.answer in
      let l = read_closed in
      let e = ap (λ (y : State). y.stage) m.state in
      let lines = report_lines n (length g) p (read_links t g) in
      let a : report_lines l.state.n l.state.entries l.state.passes (tables_in l.state l.frag l.held) ≡ lines
      = ap (λ (i : ℕ). report_lines i l.state.entries l.state.passes (tables_in l.state l.frag l.held)) (ap (λ (y : State). y.n) m.state ∙ U.size)
      ∙ ap (λ (i : ℕ). report_lines n i l.state.passes (tables_in l.state l.frag l.held)) (ap (λ (y : State). y.entries) m.state ∙ U.counted)
      ∙ ap (λ (i : ℕ). report_lines n (length g) i (tables_in l.state l.frag l.held)) (ap (λ (y : State). y.passes) m.state ∙ U.passed)
      ∙ ap (report_lines n (length g) p) (m.tables ∙ read_tables_lem) in
      leads_reported k text (closes k true n p t g) (ending l text) lines l.frag l.held l.state
      (rw (T_true (accepted n (read_links t g)) d) (pick_true _ _))
      (ending_by_lem l text (gives read) m.answer
      ∙ ap (reporting l.state l.frag l.held) (report_read l.state l.frag l.held text w (rw e tt) ∙ ap (store text) a))

-- The end of any pass.
pub closes_leads : {k : ℕ} (r : Bool) {n p : ℕ} {t : Tables} {g : List Link} {s : State} {f h : List ℕ} → Under k r n p t g s f h → (text : List ℕ)
    → Leads k text (closes k r n p t g) (ending (close_call s f h) text)
closes_leads {k = k} true {n} {p} {t} {g} U text = elim (T_dec (accepted n (read_links t g))) [ yes d ↦ reading_true U text d | no d ↦ reading_false U text d ]
closes_leads {k = k} false {n} {p} {t} {g} U text = elim (T_dec (done n (pass n k t g))) [ yes d ↦ building_whole U text d | no d ↦ building_more U text d ]
