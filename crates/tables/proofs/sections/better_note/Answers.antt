-- `tables::sections::better_note` meets its contract: by the ladder of the rule.
-- Assumes nothing.
use native.Mathlib.Omega.{arith}
use Rattle.tables.specs.Laws.Sections.{better_old, better_new, better_deeper, better_higher, better_smaller, better_same}
use Rattle.tables.proofs.sections.better_note.Goals as goal

pub returns-then-new-eq0 : goal.returns-then-new-eq0
returns-then-new-eq0 c = better_old _ _ _ (omega arith)

pub returns-then-old-eq0 : goal.returns-then-old-eq0
returns-then-old-eq0 c = better_new _ _ _ (omega arith) (omega arith)

pub returns-then-was-is : goal.returns-then-was-is
returns-then-was-is c = better_deeper _ _ _ (omega arith) (omega arith) _ _ c.rank_at-was.ensures.says c.rank_at-is.ensures.says (omega arith)

pub returns-then-is-was : goal.returns-then-is-was
returns-then-is-was c = better_higher _ _ _ (omega arith) (omega arith) _ _ c.rank_at-was.ensures.says c.rank_at-is.ensures.says (omega arith)

pub returns-then-new-old : goal.returns-then-new-old
returns-then-new-old c = better_smaller _ _ _ (omega arith) (omega arith) _ _ c.rank_at-was.ensures.says c.rank_at-is.ensures.says (omega arith) (omega arith) (omega arith)

pub returns : goal.returns
returns c = better_same _ _ _ (omega arith) (omega arith) _ _ c.rank_at-was.ensures.says c.rank_at-is.ensures.says (omega arith) (omega arith) (omega arith)
