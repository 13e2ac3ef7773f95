-- What each call makes of a moment whose tables pass the test.
-- Assumes nothing.
use Rattle.std.specs.Prelude.{ℕ, suc, ◌+◌, ◌≡◌, List, [], ◌∷◌, ◌++◌, T, length}
use Rattle.std.proofs.Math.Path.{refl}
use Rattle.std.proofs.Common.{append-nil}
use Rattle.base.specs.Pick.{pick}
use Rattle.base.specs.Answer.{gives, refuses}
use Rattle.base.specs.Link.{Link}
use Rattle.lists.specs.List.{block_links}
use Rattle.rules.specs.Tables.{Tables, clear_notes}
use Rattle.rules.specs.Building.{close_building, done}
use Rattle.rules.specs.Reading.{accepted}
use Rattle.state.specs.Test.{is_building, is_reading}
use Rattle.state.specs.Call.{moved}
use Rattle.state.specs.Take.{takes, tell, taken, take_in, take_call}
use Rattle.state.specs.Close.{opens, open_call, close_in, close_call}
use Rattle.state.proofs.Laws.Keeps.{Passes, headed_on, headed_off}
use Rattle.state.proofs.Laws.KeepsLeft.{take_makes, open_makes, whole_makes, more_makes, read_makes, false_makes}
use Rattle.state.specs.declared.State.{State}
use Rattle.state.specs.declared.Stage.TheVariants.{Building, Built, Reading, Read}
use Rattle.demands.specs.Run.{take, close, open_reading, Moment, after_take, after_close, after_open, tables_at}
use Rattle.demands.specs.Step.{step}

-- A call that was accepted, or refused with 9, leads to a state, to words that hold the tables t, and to what was told.
pub record Leads (m : Moment) (s : State) (t : Tables) (told : List (List Link)) (telling : List Link) : Type 0 where
  pub state : m.state ≡ s
  pub tables : tables_at m ≡ t
  pub as_told : m.told ≡ told
  pub as_telling : m.telling ≡ telling

module _ (m : Moment) (p : Passes m.state m.frag m.held) where
  abbrev s : State
  s = m.state

  abbrev t : Tables
  t = tables_at m

  -- Take.
  module _ (block : List ℕ) where
    pub take_off : (T (takes s.stage) → ⊥) → step m (take block) ≡ m
    unfolding step after_take take_call take_in
    take_off c = rw (headed_off takes s m.frag m.held p c (taken s m.frag m.held (block_links s.n s.entries block)), append-nil) refl

    pub take_bad : T (takes s.stage) → (number place : ℕ) → block_links s.n s.entries block ≡ refuses number place → step m (take block) ≡ m
    unfolding step after_take take_call take_in taken
    take_bad c number place e = rw (headed_on takes s m.frag m.held p c (taken s m.frag m.held (block_links s.n s.entries block)), e, append-nil) refl

    pub take_on : T (takes s.stage) → (g : List Link) → block_links s.n s.entries block ≡ gives g
        → Leads (step m (take block)) (moved s.stage s.passes (s.entries + length g) (tell s t g) s) (tell s t g) m.told (m.telling ++ g)
    unfolding step after_take
    take_on c g e =
        let M = take_makes s m.frag m.held p c block g e in
        record { state = M.state; tables = M.tables; as_told = refl; as_telling = rw (M.answer, e) refl }

  -- Open reading.
  pub open_off : (T (opens s.stage) → ⊥) → step m open_reading ≡ m
  unfolding step after_open open_call
  open_off c = rw (headed_off opens s m.frag m.held p c _) refl

  pub open_on : T (opens s.stage) → Leads (step m open_reading) (moved Reading s.passes 0 (clear_notes s.n t) s) (clear_notes s.n t) m.told []
  unfolding step after_open
  open_on c =
      let M = open_makes s m.frag m.held p c in
      record { state = M.state; tables = M.tables; as_told = refl; as_telling = rw M.answer refl }

  -- Close.
  pub close_off : (T (takes s.stage) → ⊥) → step m close ≡ m
  unfolding step after_close close_call close_in pick
  close_off c = rw (headed_off takes s m.frag m.held p c _) refl

  module _ (b : T (is_building s.stage)) where
    pub whole_on : T (done s.n (close_building s.n t))
        → Leads (step m close) (moved Built (suc s.passes) 0 (close_building s.n t) s) (close_building s.n t) (m.told ++ (m.telling ∷ [])) []
    unfolding step after_close pick
    whole_on d =
        let M = whole_makes s m.frag m.held p b d in
        record { state = M.state; tables = M.tables; as_told = rw M.answer refl; as_telling = rw M.answer refl }

    pub more_on : (T (done s.n (close_building s.n t)) → ⊥)
        → Leads (step m close) (moved Building (suc s.passes) 0 (close_building s.n t) s) (close_building s.n t) (m.told ++ (m.telling ∷ [])) []
    unfolding step after_close pick
    more_on d =
        let M = more_makes s m.frag m.held p b d in
        record { state = M.state; tables = M.tables; as_told = rw M.answer refl; as_telling = rw M.answer refl }

  module _ (r : T (is_reading s.stage)) where
    pub read_on : T (accepted s.n t) → Leads (step m close) (moved Read s.passes s.entries t s) t m.told m.telling
    unfolding step after_close pick
    read_on x =
        let M = read_makes s m.frag m.held p r x in
        record { state = M.state; tables = M.tables; as_told = rw M.answer refl; as_telling = rw M.answer refl }

    pub false_on : (T (accepted s.n t) → ⊥) → Leads (step m close) (moved Built s.passes 0 (clear_notes s.n t) s) (clear_notes s.n t) m.told []
    unfolding step after_close pick
    false_on x =
        let M = false_makes s m.frag m.held p r x in
        record { state = M.state; tables = M.tables; as_told = rw M.answer refl; as_telling = rw M.answer refl }
