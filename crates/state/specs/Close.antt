-- Open reading, and close: 'Close ends a pass: in Building it answers more or done (then Built); in Reading it gives Read or refusal 9.'
-- 'Open reading is allowed in Built and Read, and clears the notes.' Definitions only.
-- Assumes nothing.
use Rattle.std.specs.Prelude.{ℕ, suc, Bool, ◌||◌, List}
use Rattle.base.specs.Pick.{pick}
use Rattle.base.specs.Answer.{refuses}
use Rattle.rules.specs.Tables.{Tables, clear_notes}
use Rattle.rules.specs.Building.{close_building, done}
use Rattle.rules.specs.Reading.{accepted}
use Rattle.state.specs.Layout.{tables_in, frag_of, held_of}
use Rattle.state.specs.Test.{is_building, is_built, is_read}
use Rattle.state.specs.Take.{takes}
use Rattle.state.specs.Call.{Left, headed, leaves, moved}
use Rattle.state.specs.declared.State.{State}
use Rattle.state.specs.declared.Stage.{Stage}
use Rattle.state.specs.declared.Stage.TheVariants.{Building, Built, Reading, Read}

abbrev pub opens : Stage → Bool
opens stage = is_built stage || is_read stage

-- 'The entry count becomes 0 at .. open reading'
unfoldable pub open_call : State → List ℕ → List ℕ → Left (Unit {0})
open_call s f h =
    headed opens s f h
    (leaves tt (moved Reading s.passes 0 (clear_notes s.n (tables_in s f h)) s) (clear_notes s.n (tables_in s f h)) f h)

-- How a pass ended.
pub data Ending : Type 0 where
  more : Ending
  whole : Ending
  read : Ending

-- B4 to B6; the pass is counted; 'The entry count becomes 0 at .. each Building close'
unfoldable pub end_building : State → Tables → List ℕ → List ℕ → Left Ending
end_building s t f h =
    pick (done s.n t)
    (leaves whole (moved Built (suc s.passes) 0 t s) t f h)
    (leaves more (moved Building (suc s.passes) 0 t s) t f h)

-- 'refusal 9 is given exactly when the pass is false or some parent link was not seen; the notes are cleared and the stage is Built.'
-- 'Read keeps' the entry count.
unfoldable pub end_reading : State → Tables → List ℕ → List ℕ → Left Ending
end_reading s t f h =
    pick (accepted s.n t)
    (leaves read (moved Read s.passes s.entries t s) t f h)
    (record {
      answer = refuses 9 0;
      state = moved Built s.passes 0 (clear_notes s.n t) s;
      frag = frag_of Built s.n (clear_notes s.n t) f;
      held = held_of s.n s.k (clear_notes s.n t) h;
    })

-- A close that is allowed in some stages.
unfoldable pub close_in : (Stage → Bool) → State → List ℕ → List ℕ → Left Ending
close_in allowed s f h =
    headed allowed s f h
    (pick (is_building s.stage)
    (end_building s (close_building s.n (tables_in s f h)) f h)
    (end_reading s (tables_in s f h) f h))

unfoldable pub close_call : State → List ℕ → List ℕ → Left Ending
close_call s f h = close_in takes s f h
