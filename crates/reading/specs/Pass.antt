-- The states that the calls of a reading pass go on to. Definitions only.
-- Assumes nothing.
use Rattle.std.specs.Prelude.{ℕ, Bool, false}
use Rattle.state.specs.Layout.{moved_on}
use Rattle.state.specs.declared.State.{State}
use Rattle.state.specs.declared.Stage.TheVariants.{Built, Reading, Read}

-- Open reading.
abbrev pub opened : State → State
opened s = moved_on s Reading s.passes 0 0 false

-- A take, from what reading the links says of the pass.
abbrev pub told : State → Bool → (entries : ℕ) → State
told s crossed entries = moved_on s s.stage s.passes entries s.held crossed

-- A close of a pass that is true of the forest: 'Read keeps' the entry count.
abbrev pub finished : State → State
finished s = moved_on s Read s.passes s.entries s.held s.crossed

-- Refusal 9: 'the notes are cleared and the stage is Built'.
abbrev pub failed : State → State
failed s = moved_on s Built s.passes 0 0 false
