-- `tables::sections::is_above` meets its contract.
-- Assumes nothing.
use native.Mathlib.Omega.{arith}
use Rattle.tables.specs.Laws.Sections.{above_before, above_ends}
use Rattle.tables.proofs.sections.is_above.Goals as goal

pub returns-then-turn-turn_at : goal.returns-then-turn-turn_at
returns-then-turn-turn_at c = above_before _ _ _ _ _ _ c.turn_at.ensures.says c.turn_at-turn.ensures.says (omega arith)

pub returns : goal.returns
returns c = above_ends _ _ _ _ _ _ c.turn_at.ensures.says c.turn_at-turn.ensures.says (omega arith) _ c.end_at.ensures.says
