-- The numbers of the forest in a fragment table, laid in it. Definitions only.
-- Assumes nothing.
use Rattle.std.specs.Prelude.{ℕ, Bool, ◌&&◌, List, eqb}
use Rattle.base.specs.Pick.{pick}
use Rattle.rules.specs.Tables.{Tables}
use Rattle.rules.specs.Numbers.{turn, end, at_turn}
use Rattle.state.specs.Layout.{forest_in}
use Rattle.state.specs.Test.{is_built}
use Rattle.state.specs.declared.State.{State}
use Rattle.testing.specs.Test.{head_but_links}
use Rattle.testing.specs.Laid.{laid_at}

-- Section 4, the turns, section 5, where those below end, and section 6, whose each turn is, between the words that stood before and behind them.
unfoldable pub numbered : ℕ → Tables → List ℕ → List ℕ
numbered n t f = laid_at n 4 (turn n t) (end n t) (at_turn n t) f

-- Where no refusal is due at the head of a call, and the forest has just been built, it is numbered; else the table is as it was.
unfoldable pub numbered_in : (allowed : Bool) → State → List ℕ → List ℕ → List ℕ
numbered_in allowed s f h =
    pick (eqb (head_but_links allowed s f h) 0 && is_built s.stage)
    (numbered s.n (forest_in s.n f) f)
    f
