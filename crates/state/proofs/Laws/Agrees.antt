-- What a state and its tables agree on where they pass the test, in the words of the theory; and the clauses of the test one by one.
-- Assumes nothing.
use Rattle.std.specs.Prelude.{ℕ, suc, ◌*◌, ◌≤◌, ◌<◌, ◌≡◌, Bool, false, ◌||◌, not, List, ◌⊎◌, ◌≢◌, T, eqb, length}
use Rattle.base.specs.Truth.{and_l, and_r, and_intro}
use Rattle.rules.specs.Search.{count}
use Rattle.rules.specs.Tables.{Tables, parent_of, note_of, mark_of, placed, lev}
use Rattle.rules.specs.Building.{done}
use Rattle.rules.specs.Reading.{accepted}
use Rattle.rules.proofs.Laws.Facts.{Standing, Rested, Loose, Holding}
use Rattle.state.specs.Test.{entries_most, is_building, is_built, is_reading, is_read, asked, stage_fits, forest_fits, ends_fit, held_fits, notes_fit, rest_zero, counts_fit, read_fits, rest_agrees, numbers_fit, fits}
use Rattle.state.specs.declared.State.{State}

-- What a state and the tables t that go with it agree on.
pub record Agrees (s : State) (t : Tables) : Type 0 where
  pub standing : Standing s.n t
  pub as_many : s.held ≡ length t.held
  pub as_crossed : s.crossed ≡ t.crossed
  pub ends_fit_lem : T (ends_fit s.n t t.held)
  pub holding : Holding s.n s.k t
  pub held_room : s.held ≤ s.k * s.n
  pub entries_few : s.entries ≤ entries_most
  pub passes_few : s.passes ≤ suc (count (placed t) s.n)
  pub mark_bit : (v : ℕ) → v < s.n → mark_of t v ≤ 1
  pub loose_parent : (v : ℕ) → v < s.n → Loose t v → parent_of t v ≡ 0
  -- Building
  pub unfinished : T (is_building s.stage) → T (done s.n t) → ⊥
  pub noting : T (is_building s.stage) → (u p : ℕ) → note_of t u ≡ suc p → (u < s.n) × (p < s.n) × Loose t u × T (placed t p)
  pub mark_loose : T (is_building s.stage) → (v : ℕ) → v < s.n → (mark_of t v ≡ 0) ⊎ Loose t v
  -- every other stage
  pub all_placed : (T (is_building s.stage) → ⊥) → (v : ℕ) → v < s.n → T (placed t v)
  pub none_held : (T (is_building s.stage) → ⊥) → s.held ≡ 0
  -- Built
  pub rested : T (is_built s.stage) → Rested s.n t
  pub no_entries : T (is_built s.stage) → s.entries ≡ 0
  -- Reading and Read
  pub low : T (is_reading s.stage || is_read s.stage) → (v : ℕ) → v < s.n → note_of t v ≤ lev t v
  pub mark_child : T (is_reading s.stage || is_read s.stage) → (v : ℕ) → v < s.n → (mark_of t v ≡ 0) ⊎ (parent_of t v ≢ v)
  pub whole : T (is_read s.stage) → T (accepted s.n t)
  pub uncrossed : (T (is_reading s.stage) → ⊥) → s.crossed ≡ false

abbrev pub orphans : Tables → ℕ → Bool
orphans t v = asked (not (placed t v)) (eqb (parent_of t v) 0)

-- The clauses of the test, one by one.
pub record Clauses (s : State) (t : Tables) : Type 0 where
  pub stage : T (stage_fits s t)
  pub forest : T (forest_fits s.n t)
  pub held : T (held_fits s.n s.k t)
  pub notes : T (notes_fit s t)
  pub counts : T (counts_fit s t)
  pub read : T (read_fits s t)
  pub rest : T (rest_agrees s t)

pub clauses : (s : State) (t : Tables) (f h : List ℕ) → T (fits s t f h) → Clauses s t × T (rest_zero s f h) × T (numbers_fit s t f)
unfolding fits
clauses s t f h x =
    let x2 = and_r (stage_fits s t) _ x in
    let x3 = and_r (forest_fits s.n t) _ x2 in
    let x4 = and_r (held_fits s.n s.k t) _ x3 in
    let x5 = and_r (notes_fit s t) _ x4 in
    let x6 = and_r (rest_zero s f h) _ x5 in
    let x7 = and_r (counts_fit s t) _ x6 in
    let x8 = and_r (read_fits s t) _ x7 in (
      record {
        stage = and_l (stage_fits s t) _ x;
        forest = and_l (forest_fits s.n t) _ x2;
        held = and_l (held_fits s.n s.k t) _ x3;
        notes = and_l (notes_fit s t) _ x4;
        counts = and_l (counts_fit s t) _ x6;
        read = and_l (read_fits s t) _ x7;
        rest = and_l (rest_agrees s t) _ x8;
      },
      and_l (rest_zero s f h) _ x5,
      and_r (rest_agrees s t) _ x8,
    )

pub fits_made : (s : State) (t : Tables) (f h : List ℕ) → Clauses s t → T (rest_zero s f h) → T (numbers_fit s t f) → T (fits s t f h)
unfolding fits
fits_made s t f h c z x =
    and_intro (stage_fits s t) _ c.stage
    (and_intro (forest_fits s.n t) _ c.forest
    (and_intro (held_fits s.n s.k t) _ c.held
    (and_intro (notes_fit s t) _ c.notes
    (and_intro (rest_zero s f h) _ z
    (and_intro (counts_fit s t) _ c.counts
    (and_intro (read_fits s t) _ c.read
    (and_intro (rest_agrees s t) _ c.rest x)))))))
