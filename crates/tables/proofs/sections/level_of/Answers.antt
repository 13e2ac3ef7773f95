-- `tables::sections::level_of` meets its contract.
-- Assumes nothing.
use native.Mathlib.Omega.{arith}
use Rattle.tables.specs.Laws.Sections.{level_is}
use Rattle.tables.proofs.sections.level_of.Goals as goal

pub returns-then-rank-eq0 : goal.returns-then-rank-eq0
returns-then-rank-eq0 c = level_is _ _ _ c.rank_at-rank.ensures.says _ (omega arith)

pub returns : goal.returns
returns c = level_is _ _ _ c.rank_at-rank.ensures.says _ (omega arith)
