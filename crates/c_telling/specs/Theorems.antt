-- What is written of a telling is read again: nothing of its numbers is lost, places and sizes of 64 bits included.
-- Assumes nothing.
use Rattle.std.specs.Prelude.{ℕ, ◌≤◌, ◌≡◌, List, length, take}
use Rattle.c_words.specs.State.{state_size, Fits}
use Rattle.telling.specs.declared.Telling.{Telling}
use Rattle.c_telling.specs.Telling.{telling_size, telling_words, NoneOver, HoldsTelling, SaysOver}
use Rattle.c_telling.specs.Answers.{over_words}
use Rattle.c_telling.specs.Laws.Holds.{telling_holds, over_says, over_state}

-- A telling to go on with.
pub telling_back : (t : Telling) (w : List ℕ) → telling_size ≤ length w → Fits t.state → NoneOver t → HoldsTelling (telling_words t w) t
telling_back = telling_holds

-- The place, the size and the number of one that is over, and the words of the state as they were.
pub over_back : (place size number : ℕ) (w : List ℕ) → telling_size ≤ length w
    → SaysOver (over_words place size number w) place size number × (take state_size (over_words place size number w) ≡ take state_size w)
over_back place size number w l = (over_says place size number w l, over_state place size number w l)
