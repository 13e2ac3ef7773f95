-- What holds at every moment of every run: the tables pass the test, and are what the rules make of what was told.
-- Assumes nothing.
use Rattle.std.specs.Prelude.{ℕ, suc, ◌≤◌, ◌≡◌, List, [], ◌∷◌, ◌++◌, T, eqb, Ok}
use Rattle.std.proofs.Math.Path.{refl, sym, ap, subst}
use Rattle.std.proofs.Common.{◌∙◌, inl, inr, arith, length-append, ne_eqb}
use Rattle.std.proofs.Math.Decide.{ℕ_discrete}
use Rattle.std.proofs.Math.ListN.{length}
use Rattle.base.specs.Pick.{pick, pick_true, pick_false}
use Rattle.base.specs.Answer.{gives, refuses}
use Rattle.base.specs.Truth.{or_cases, T_dec, T_true, T_false}
use Rattle.base.specs.Link.{Link}
use Rattle.lists.specs.List.{block_links}
use Rattle.lists.specs.Laws.Link.{never_both, answered}
use Rattle.lists.specs.Theorems.{accepted_sound}
use Rattle.rules.specs.Links.{linked, Among, Each}
use Rattle.rules.specs.Tables.{Tables, clear_notes, cleared}
use Rattle.rules.specs.Building.{build_links, close_building, done, pass, passes}
use Rattle.rules.specs.Reading.{read_links, accepted}
use Rattle.rules.specs.Facts.{Standing, Rested}
use Rattle.rules.proofs.Laws.Links.{among_nil}
use Rattle.rules.proofs.Laws.Tables.{fresh_rested}
use Rattle.rules.proofs.Laws.Reading.{read_append, read_forest}
use Rattle.rules.proofs.Laws.Adopting.{adopted_rested}
use Rattle.rules.proofs.Laws.Append.{build_append, among_append, passes_snoc, each_snoc, passes_stand, cleared_same, rested_cleared, unheld_cleared}
use Rattle.state.specs.Layout.{tables_in}
use Rattle.state.specs.Test.{is_building, is_reading}
use Rattle.state.specs.Call.{bounds_refusal, Begun, moved}
use Rattle.state.specs.Start.{started, start_call}
use Rattle.state.specs.Adopt.{adopted_state, adopt_refusal, adopt_call}
use Rattle.state.specs.Take.{takes, tell}
use Rattle.state.specs.Close.{opens}
use Rattle.state.proofs.Laws.Bounds.{Bounds, bounds_known}
use Rattle.state.proofs.Laws.Sound.{Agrees, sound_known}
use Rattle.state.proofs.Laws.Keeps.{Passes}
use Rattle.state.proofs.Laws.KeepsReading.{held_none}
use Rattle.state.proofs.Laws.KeepsTables.{among_links, reads_settled}
use Rattle.state.proofs.Laws.KeepsCalls.{upholds_on, take_keeps, open_keeps, close_keeps}
use Rattle.state.proofs.Laws.KeepsBegun.{MakesState, start_keeps, start_makes, adopt_keeps, adopt_makes}
use Rattle.state.specs.declared.State.{State}
use Rattle.state.specs.declared.Stage.{Stage}
use Rattle.state.specs.declared.Stage.TheVariants.{Building, Built, Reading, Read}
use Rattle.demands.specs.Run.{Origin, start, adopt, Call, take, close, open_reading, Moment, after_take, after_close, after_open, BeginAnswer, begun_by, opening, Run, begins, goes, fragments, room_for, first_tables, forest_of, tables_of, tables_at}
use Rattle.demands.specs.Step.{step}
use Rattle.demands.proofs.Laws.Answered.{next_step, begun_ready}
use Rattle.demands.proofs.Laws.Steps.{Leads, take_off, take_bad, take_on, open_off, open_on, close_off, whole_on, more_on, read_on, false_on}

-- What holds at a moment.
pub record Holds (o : Origin) (m : Moment) : Type 0 where
  pub tested : Passes m.state m.frag m.held
  pub size : m.state.n ≡ fragments o
  pub room : m.state.k ≡ room_for o
  pub counted : m.state.passes ≡ length m.told
  pub entered : m.state.entries ≡ length m.telling
  pub among : Among (fragments o) (linked m.telling)
  pub amongs : Each (λ g. Among (fragments o) (linked g)) m.told
  pub tables : tables_at m ≡ tables_of o m
  pub first_stands : Standing (fragments o) (first_tables o)
  pub first_rests : Rested (fragments o) (first_tables o)

-- What the test gives at a moment.
module _ {o : Origin} {m : Moment} (H : Holds o m) where
  pub bounds_at : Bounds m.state.n m.state.k (length m.frag) (length m.held)
  bounds_at = bounds_known m.state.n m.state.k (length m.frag) (length m.held) H.tested.in_bounds

  pub agrees_at : Agrees m.state (tables_at m)
  agrees_at = (sound_known m.state m.frag m.held bounds_at H.tested.tested).agrees

  pub some_room : 1 ≤ room_for o
  some_room = omega (arith, bounds_at.some_room, H.room)

  pub forest_stands : Standing (fragments o) (forest_of o m.told) × Rested (fragments o) (forest_of o m.told)
  unfolding forest_of
  forest_stands = passes_stand some_room (first_tables o) m.told H.first_stands H.first_rests H.amongs

-- The tables of a stage, by what was told.
module _ (o : Origin) (m : Moment) where
  pub building_tables : T (is_building m.state.stage) → tables_of o m ≡ build_links (fragments o) (room_for o) (forest_of o m.told) m.telling
  unfolding tables_of
  building_tables b = rw (T_true (is_building m.state.stage) b) (pick_true _ _)

  pub settled_tables : (T (is_building m.state.stage) → ⊥) → tables_of o m ≡ read_links (clear_notes (fragments o) (forest_of o m.told)) m.telling
  unfolding tables_of
  settled_tables b = rw (T_false (is_building m.state.stage) b) (pick_false _ _)

  -- With nothing told in the pass.
  pub building_none : T (is_building m.state.stage) → m.telling ≡ [] → tables_of o m ≡ forest_of o m.told
  unfolding build_links
  building_none b e = building_tables b ∙ rw e refl

  pub settled_none : (T (is_building m.state.stage) → ⊥) → m.telling ≡ [] → tables_of o m ≡ clear_notes (fragments o) (forest_of o m.told)
  unfolding read_links
  settled_none b e = settled_tables b ∙ rw e refl

-- Outside Building nothing is held: what was told last was read from a table with everything but its forest cleared.
pub read_tables_lem : {o : Origin} {m : Moment} → Holds o m → (T (is_building m.state.stage) → ⊥) → tables_at m ≡ read_links (cleared (fragments o) (forest_of o m.told)) m.telling
read_tables_lem {o} {m} H b =
    H.tables ∙ settled_tables o m b ∙ ap (λ (t : Tables). read_links t m.telling) (unheld_cleared (fragments o) (forest_of o m.told) (forest_stands H).1.no_held)

opens_settled : (g : Stage) → T (opens g) → T (is_building g) → ⊥
opens_settled Building o b = o
opens_settled Built o b = b
opens_settled Reading o b = b
opens_settled Read o b = b

-- From one moment to the next.
module _ {o : Origin} {m : Moment} (H : Holds o m) where
  -- What a call leads to holds, where its tables are those of the rules.
  leads_hold : (m' : Moment) (g : Stage) (passes entries : ℕ) (t : Tables) (told : List (List Link)) (telling : List Link)
      → Leads m' (moved g passes entries t m.state) t told telling → Passes m'.state m'.frag m'.held
      → passes ≡ length told → entries ≡ length telling → Among (fragments o) (linked telling) → Each (λ g. Among (fragments o) (linked g)) told
      → (m'.state.stage ≡ g → t ≡ tables_of o m') → Holds o m'
  unfolding moved
  leads_hold m' g passes entries t told telling L p c e a each f = record {
    tested = p;
    size = ap (λ (s : State). s.n) L.state ∙ H.size;
    room = ap (λ (s : State). s.k) L.state ∙ H.room;
    counted = ap (λ (s : State). s.passes) L.state ∙ c ∙ ap length (sym L.as_told);
    entered = ap (λ (s : State). s.entries) L.state ∙ e ∙ ap length (sym L.as_telling);
    among = rw L.as_telling a;
    amongs = rw L.as_told each;
    tables = L.tables ∙ f (ap (λ (s : State). s.stage) L.state);
    first_stands = H.first_stands;
    first_rests = H.first_rests;
  }

  same_hold : (c : Call) → step m c ≡ m → Holds o (step m c)
  same_hold c e = rw e H

  cleared_forest_at : (T (is_building m.state.stage) → ⊥) → clear_notes m.state.n (tables_at m) ≡ clear_notes (fragments o) (forest_of o m.told)
  cleared_forest_at b =
      let (S, R) = forest_stands H in
      unheld_cleared m.state.n (tables_at m) (held_none m.state (tables_at m) (agrees_at H) (bounds_at H).some_room b)
      ∙ rw (read_tables_lem H b, H.size) (cleared_same (fragments o) (read_forest S m.telling H.among))
      ∙ sym (unheld_cleared (fragments o) (forest_of o m.told) R.no_held)

  -- A pass that goes on.
  told_on : (m' : Moment) (g : List Link) → m'.state.stage ≡ m.state.stage → m'.told ≡ m.told → m'.telling ≡ m.telling ++ g
      → T (takes m.state.stage) → tell m.state (tables_at m) g ≡ tables_of o m'
  unfolding tell
  told_on m' g e d t c = elim (T_dec (is_building m.state.stage)) [
    | yes b ↦
        rw (T_true (is_building m.state.stage) b, pick_true, building_tables o m' (rw e b), d, t, build_append, H.tables, building_tables o m b, H.size, H.room) refl
    | no b ↦
        rw (T_false (is_building m.state.stage) b, pick_false, settled_tables o m' (rw e b), d, t, read_append, H.tables, settled_tables o m b) refl
  ]

  -- 'What an accepted call leaves, or a refusal that changes something, passes this test.'
  tested_on : (c : Call) → Passes (step m c).state (step m c).frag (step m c).held
  unfolding step after_take after_close after_open
  tested_on (take block) = upholds_on m.state m.frag m.held _ (take_keeps m.state m.frag m.held block) H.tested
  tested_on close = upholds_on m.state m.frag m.held _ (close_keeps m.state m.frag m.held) H.tested
  tested_on open_reading = upholds_on m.state m.frag m.held _ (open_keeps m.state m.frag m.held) H.tested

  take_holds : (block : List ℕ) → Holds o (step m (take block))
  take_holds block = elim (T_dec (takes m.state.stage)) [
    | no c ↦ same_hold (take block) (take_off m H.tested block c)
    | yes c ↦ elim (answered (block_links m.state.n m.state.entries block)) [
      | inr (number, place, e) ↦ same_hold (take block) (take_bad m H.tested block c number place e)
      | inl (g, e) ↦
          let L = take_on m H.tested block c g e in
          let A = among_links m.state.n g (accepted_sound m.state.n m.state.entries block g e) in
          leads_hold (step m (take block)) _ _ _ _ _ _ L (tested_on (take block)) H.counted
          (omega (arith, H.entered, length-append m.telling g)) (among_append (fragments o) m.telling g H.among (rw H.size at A)) H.amongs
          (λ st. told_on (step m (take block)) g st L.as_told L.as_telling c)
    ]
  ]

  -- Notes are cleared, and the forest stays: open reading, and refusal 9.
  cleared_holds : (c : Call) (g : Stage) → (T (is_building g) → ⊥) → (T (is_building m.state.stage) → ⊥)
      → Leads (step m c) (moved g m.state.passes 0 (clear_notes m.state.n (tables_at m)) m.state) (clear_notes m.state.n (tables_at m)) m.told []
      → Holds o (step m c)
  cleared_holds c g d b L =
      leads_hold (step m c) _ _ _ _ _ _ L (tested_on c) H.counted refl (among_nil (fragments o)) H.amongs
      (λ st. cleared_forest_at b ∙ sym (settled_none o (step m c) (rw st d) L.as_telling ∙ rw L.as_told refl))

  open_holds : Holds o (step m open_reading)
  open_holds = elim (T_dec (opens m.state.stage)) [
    | no c ↦ same_hold open_reading (open_off m H.tested c)
    | yes c ↦ cleared_holds open_reading Reading (λ x. x) (opens_settled m.state.stage c) (open_on m H.tested c)
  ]

  -- A Building close: the pass is told whole.
  passed_at : T (is_building m.state.stage) → close_building m.state.n (tables_at m) ≡ forest_of o (m.told ++ (m.telling ∷ []))
  unfolding forest_of pass
  passed_at b = rw (H.tables, building_tables o m b, H.size, passes_snoc) refl

  each : Each (λ g. Among (fragments o) (linked g)) (m.told ++ (m.telling ∷ []))
  each = each_snoc (λ g. Among (fragments o) (linked g)) m.told m.telling H.amongs H.among

  passed_holds : (g : Stage) → T (is_building m.state.stage)
      → Leads (step m close) (moved g (suc m.state.passes) 0 (close_building m.state.n (tables_at m)) m.state) (close_building m.state.n (tables_at m)) (m.told ++ (m.telling ∷ [])) []
      → ((step m close).state.stage ≡ g → forest_of o (step m close).told ≡ tables_of o (step m close)) → Holds o (step m close)
  passed_holds g b L f =
      leads_hold (step m close) _ _ _ _ _ _ L (tested_on close) (omega (arith, H.counted, length-append m.told (m.telling ∷ []))) refl (among_nil (fragments o))
      each
      (λ st. passed_at b ∙ ap (forest_of o) (sym L.as_told) ∙ f st)

  close_building_lem : T (is_building m.state.stage) → Holds o (step m close)
  unfolding forest_of
  close_building_lem b = elim (T_dec (done m.state.n (close_building m.state.n (tables_at m)))) [
    | yes d ↦
        let L = whole_on m H.tested b d in
        let R = (passes_stand (some_room H) (first_tables o) (m.told ++ (m.telling ∷ [])) H.first_stands H.first_rests each).1 in
        passed_holds Built b L (λ st. sym (settled_none o (step m close) (rw st (λ x. x)) L.as_telling ∙ rw L.as_told (unheld_cleared (fragments o) _ R.no_held ∙ rested_cleared R)))
    | no d ↦
        let L = more_on m H.tested b d in
        passed_holds Building b L (λ st. sym (building_none o (step m close) (rw st tt) L.as_telling))
  ]

  close_reading : T (is_reading m.state.stage) → Holds o (step m close)
  close_reading r = elim (T_dec (accepted m.state.n (tables_at m))) [
    | yes x ↦
        let L = read_on m H.tested r x in
        let b = reads_settled m.state.stage r in
        leads_hold (step m close) _ _ _ _ _ _ L (tested_on close) H.counted H.entered H.among H.amongs
        (λ st. H.tables ∙ settled_tables o m b ∙ sym (settled_tables o (step m close) (rw st (λ x. x)) ∙ rw (L.as_told, L.as_telling) refl))
    | no x ↦ cleared_holds close Built (λ x. x) (reads_settled m.state.stage r) (false_on m H.tested r x)
  ]

  close_holds : Holds o (step m close)
  close_holds = elim (T_dec (takes m.state.stage)) [
    | no c ↦ same_hold close (close_off m H.tested c)
    | yes c ↦ elim (or_cases (is_building m.state.stage) (is_reading m.state.stage) c) [
      | inl b ↦ close_building_lem b
      | inr r ↦ close_reading r
    ]
  ]

-- The first call.
module _ (o : Origin) (b : Begun) (s : State) (p : Passes s b.frag b.held) (R : Rested (fragments o) (first_tables o)) where
  first_tables_lem : tables_of o (opening s b.frag b.held) ≡ first_tables o
  unfolding opening forest_of passes
  first_tables_lem = elim (T_dec (is_building s.stage)) [
    | yes c ↦ building_none o (opening s b.frag b.held) c refl
    | no c ↦ settled_none o (opening s b.frag b.held) c refl ∙ unheld_cleared (fragments o) (first_tables o) R.no_held ∙ rested_cleared R
  ]

  opened : (s₀ : State) → s ≡ s₀ → MakesState b s₀ (first_tables o) → s₀.n ≡ fragments o → s₀.k ≡ room_for o → s₀.passes ≡ 0 → s₀.entries ≡ 0 → Holds o (opening s b.frag b.held)
  unfolding opening
  opened s₀ q (a, t) n k c z =
      let t' : tables_in s b.frag b.held ≡ first_tables o = rw q t in
      let S = (sound_known s b.frag b.held (bounds_known s.n s.k (length b.frag) (length b.held) p.in_bounds) p.tested).agrees.standing in
      let n' : s.n ≡ fragments o = rw q n in
      record {
        tested = p;
        size = n';
        room = rw q k;
        counted = rw q c;
        entered = rw q z;
        among = among_nil (fragments o);
        amongs = tt;
        tables = t' ∙ sym first_tables_lem;
        first_stands = subst (λ (x : ℕ). Standing x (first_tables o)) n' (subst (λ (x : Tables). Standing s.n x) t' S);
        first_rests = R;
      }

-- An accepted first call met no refusal.
none_met : (r : ℕ) (b c : Begun) (s : State) → c.answer ≡ refuses r 0 → (pick (eqb r 0) b c).answer ≡ gives s → r ≡ 0
none_met r b c s d e = elim (ℕ_discrete r 0) [
  | yes z ↦ z
  | no z ↦ absurd (never_both (rw (ne_eqb r 0 z, pick_false) at e) d)
]

start_accepted : (n k : ℕ) (f h : List ℕ) (s : State) → (start_call n k f h).answer ≡ gives s → bounds_refusal n k (length f) (length h) ≡ 0
unfolding start_call
start_accepted n k f h s e = none_met _ _ _ s refl e

adopt_accepted : (n k : ℕ) (ps f h : List ℕ) (s : State) → (adopt_call n k ps f h).answer ≡ gives s → adopt_refusal n k ps (length f) (length h) ≡ 0
unfolding adopt_call
adopt_accepted n k ps f h s e = none_met _ _ _ s refl e

-- The state that it gives.
abbrev pub first_state : Origin → State
first_state (start n k) = started n k
first_state (adopt n k ps) = adopted_state n k

pub begun_state : (o : Origin) (f h : List ℕ) (s : State) → (begun_by o f h).answer ≡ gives s → s ≡ first_state o
begun_state (start n k) f h s e = let given = sym e ∙ (start_makes n k f h (start_accepted n k f h s e)).0 in cc
begun_state (adopt n k ps) f h s e = let given = sym e ∙ (adopt_makes n k f h ps (adopt_accepted n k ps f h s e)).0 in cc

begun_holds : (o : Origin) (f h : List ℕ) (s : State) → (begun_by o f h).answer ≡ gives s → Holds o (opening s (begun_by o f h).frag (begun_by o f h).held)
begun_holds (start n k) f h s e =
    opened (start n k) (start_call n k f h) s ((start_keeps n k f h).keeps s e) (fresh_rested n) (started n k) (begun_state (start n k) f h s e)
    (start_makes n k f h (start_accepted n k f h s e)) refl refl refl refl
begun_holds (adopt n k ps) f h s e =
    opened (adopt n k ps) (adopt_call n k ps f h) s ((adopt_keeps n k f h ps).keeps s e) (adopted_rested n ps) (adopted_state n k) (begun_state (adopt n k ps) f h s e)
    (adopt_makes n k f h ps (adopt_accepted n k ps f h s e)) refl refl refl refl

pub step_holds : {o : Origin} {m : Moment} → Holds o m → (c : Call) → Holds o (step m c)
step_holds H (take block) = take_holds H block
step_holds H close = close_holds H
step_holds H open_reading = open_holds H

-- What the answer of a first call leaves is what its definition leaves.
pub opening_same : (o : Origin) (f h : List ℕ) (a : BeginAnswer o f h) (s : State) → a.answer ≡ Ok s → opening s (begun_by o f h).frag (begun_by o f h).held ≡ opening s a.frag a.held
opening_same o f h a s e = let (_, p, q) = begun_ready a s e in λ i. opening s (sym p i) (sym q i)

pub begins_hold : (o : Origin) (f h : List ℕ) (a : BeginAnswer o f h) (s : State) → a.answer ≡ Ok s → Holds o (opening s a.frag a.held)
begins_hold o f h a s e = subst (Holds o) (opening_same o f h a s e) (begun_holds o f h s (begun_ready a s e).0)

pub run_holds : {o : Origin} {m : Moment} → Run o m → Holds o m
run_holds {o} (begins f h a s e) = begins_hold o f h a s e
run_holds (goes {m} r c a) = rw (next_step m c a) (step_holds (run_holds r) c)
