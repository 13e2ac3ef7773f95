-- `building::noted::standing` meets its contract: the word in the slot where its way ends.
-- Assumes nothing.
use native.Mathlib.Omega.{arith}
use Rattle.building.specs.Laws.Noted.{stands_word, stands_nowhere}
use Rattle.building.proofs.noted.standing.Goals as goal

pub returns-then-i-size : goal.returns-then-i-size
returns-then-i-size c = stands_nowhere c.look-i.ensures c.requires.noted c.if-i-size.true

pub returns : goal.returns
returns c = stands_word c.look-i.ensures c.requires.noted (omega (arith, c.look-i.ensures.in_range, c.if-i-size.false))
