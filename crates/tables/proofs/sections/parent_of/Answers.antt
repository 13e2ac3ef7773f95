-- `tables::sections::parent_of` meets its contract.
-- Assumes nothing.
use native.Mathlib.Omega.{arith}
use Rattle.tables.specs.Laws.Sections.{parent_loose, parent_placed}
use Rattle.tables.proofs.sections.parent_of.Goals as goal

pub returns-then-rank_at-eq0 : goal.returns-then-rank_at-eq0
returns-then-rank_at-eq0 c = parent_loose _ _ _ c.rank_at.ensures.says (omega arith)

pub returns : goal.returns
returns c = parent_placed _ _ _ c.rank_at.ensures.says (omega arith) _ c.parent_at.ensures.says
