-- What each call makes of a state and tables that pass the test: its answer, the state, and the tables of the rules that are then held.
-- Assumes nothing.
use Rattle.std.specs.Prelude.{ℕ, suc, ◌+◌, ◌≡◌, refl, List, T}
use Rattle.std.proofs.Common.{◌∙◌}
use Rattle.std.proofs.Math.ListN.{length}
use Rattle.base.specs.Pick.{pick_true, pick_false}
use Rattle.base.specs.Answer.{Answer, gives, refuses}
use Rattle.base.specs.Truth.{or_l, or_r, T_true, T_false}
use Rattle.base.specs.Link.{Link}
use Rattle.lists.specs.List.{block_links}
use Rattle.rules.specs.Tables.{Tables, clear_notes}
use Rattle.rules.specs.Building.{close_building, done}
use Rattle.rules.specs.Reading.{accepted}
use Rattle.state.specs.Layout.{tables_in}
use Rattle.state.specs.Test.{is_building, is_reading}
use Rattle.state.specs.Call.{Left, moved, leaves}
use Rattle.state.specs.Take.{takes, tell, taken, take_in, take_call}
use Rattle.state.specs.Close.{opens, open_call, more, whole, read, end_building, end_reading, close_in, close_call}
use Rattle.state.proofs.Laws.Bounds.{Bounds}
use Rattle.state.proofs.Laws.Sound.{Agrees, laid_tables}
use Rattle.state.proofs.Laws.Keeps.{Passes, Head, headed_on, head_passes}
use Rattle.state.proofs.Laws.KeepsTables.{take_agrees, open_agrees, whole_agrees, more_agrees, read_agrees_at, false_agrees, reads_settled}
use Rattle.state.specs.declared.State.{State}
use Rattle.state.specs.declared.Stage.TheVariants.{Building, Built, Reading, Read}

-- A call answers x, and leaves the state s and words that hold the tables t.
pub record Makes {A : Type 0} (l : Left A) (x : Answer A) (s : State) (t : Tables) : Type 0 where
  pub answer : l.answer ≡ x
  pub state : l.state ≡ s
  pub tables : tables_in l.state l.frag l.held ≡ t

leaves_makes : {A : Type 0} (x : A) (s : State) (t : Tables) (f h : List ℕ) → Bounds s.n s.k (length f) (length h) → Agrees s t → Makes (leaves x s t f h) (gives x) s t
unfolding leaves
leaves_makes x s t f h b a = record { answer = refl; state = refl; tables = laid_tables s t f h b.fragments a }

module _ (s : State) (f h : List ℕ) (p : Passes s f h) where
  pub take_makes : T (takes s.stage) → (block : List ℕ) (g : List Link) → block_links s.n s.entries block ≡ gives g
      → let t = tell s (tables_in s f h) g in Makes (take_call s f h block) (gives tt) (moved s.stage s.passes (s.entries + length g) t s) t
  unfolding take_call take_in taken moved
  take_makes c block g e =
      let t = tell s (tables_in s f h) g in
      let H = head_passes takes s f h p c in
      rw (headed_on takes s f h p c (taken s f h (block_links s.n s.entries block)), e)
      (leaves_makes tt (moved s.stage s.passes (s.entries + length g) t s) t f h H.bounds (take_agrees s f h H block g e))

  pub open_makes : T (opens s.stage) → let t = clear_notes s.n (tables_in s f h) in Makes (open_call s f h) (gives tt) (moved Reading s.passes 0 t s) t
  unfolding open_call moved
  open_makes c =
      let t = clear_notes s.n (tables_in s f h) in
      let H = head_passes opens s f h p c in
      rw (headed_on opens s f h p c (leaves (tt {0}) (moved Reading s.passes 0 t s) t f h))
      (leaves_makes tt (moved Reading s.passes 0 t s) t f h H.bounds (open_agrees s f h H))

  -- Close in Building: done, or more.
  module _ (b : T (is_building s.stage)) where
    in_building : Head takes s f h
    in_building = head_passes takes s f h p (or_l (is_building s.stage) (is_reading s.stage) b)

    close_building_lem : close_call s f h ≡ end_building s (close_building s.n (tables_in s f h)) f h
    unfolding close_call close_in
    close_building_lem = headed_on takes s f h p in_building.allows _ ∙ rw (T_true (is_building s.stage) b) (pick_true _ _)

    pub whole_makes : let t = close_building s.n (tables_in s f h) in T (done s.n t) → Makes (close_call s f h) (gives whole) (moved Built (suc s.passes) 0 t s) t
    unfolding end_building moved
    whole_makes d =
        let t = close_building s.n (tables_in s f h) in
        rw (close_building_lem, T_true (done s.n t) d, pick_true)
        (leaves_makes whole (moved Built (suc s.passes) 0 t s) t f h in_building.bounds (whole_agrees s f h in_building b d))

    pub more_makes : let t = close_building s.n (tables_in s f h) in (T (done s.n t) → ⊥) → Makes (close_call s f h) (gives more) (moved Building (suc s.passes) 0 t s) t
    unfolding end_building moved
    more_makes d =
        let t = close_building s.n (tables_in s f h) in
        rw (close_building_lem, T_false (done s.n t) d, pick_false)
        (leaves_makes more (moved Building (suc s.passes) 0 t s) t f h in_building.bounds (more_agrees s f h in_building b d))

  -- Close in Reading: Read, or refusal 9.
  module _ (r : T (is_reading s.stage)) where
    in_reading : Head takes s f h
    in_reading = head_passes takes s f h p (or_r (is_building s.stage) (is_reading s.stage) r)

    close_reading : close_call s f h ≡ end_reading s (tables_in s f h) f h
    unfolding close_call close_in
    close_reading = headed_on takes s f h p in_reading.allows _ ∙ rw (T_false (is_building s.stage) (reads_settled s.stage r)) (pick_false _ _)

    pub read_makes : let t = tables_in s f h in T (accepted s.n t) → Makes (close_call s f h) (gives read) (moved Read s.passes s.entries t s) t
    unfolding end_reading moved
    read_makes x =
        let t = tables_in s f h in
        rw (close_reading, T_true (accepted s.n t) x, pick_true)
        (leaves_makes read (moved Read s.passes s.entries t s) t f h in_reading.bounds (read_agrees_at s f h in_reading r x))

    pub false_makes : (T (accepted s.n (tables_in s f h)) → ⊥) → let t = clear_notes s.n (tables_in s f h) in Makes (close_call s f h) (refuses 9 0) (moved Built s.passes 0 t s) t
    unfolding end_reading moved
    false_makes x =
        let t = clear_notes s.n (tables_in s f h) in
        rw (close_reading, T_false (accepted s.n (tables_in s f h)) x, pick_false)
        (record { answer = refl; state = refl; tables = laid_tables (moved Built s.passes 0 t s) t f h in_reading.bounds.fragments (false_agrees s f h in_reading r) })
