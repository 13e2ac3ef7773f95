-- `tables::sections::parent_at` meets its contract: none, past the table, or there.
-- Assumes nothing.
use native.Mathlib.Omega.{arith}
use Rattle.rules.specs.Tables.{parent_of}
use Rattle.state.specs.Layout.{tables_in}
use Rattle.tables.specs.Laws.Sections.{word_none, word_past, word_there}
use Rattle.tables.proofs.sections.parent_at.Goals as goal

pub returns-then-n-v : goal.returns-then-n-v
unfolding tables_in parent_of
returns-then-n-v c = word_none _ 0 _ _ (omega arith)

pub returns-then-frag-v : goal.returns-then-frag-v
unfolding tables_in parent_of
returns-then-frag-v c = word_past _ 0 _ _ (omega arith)

pub returns : goal.returns
unfolding tables_in parent_of
returns c = word_there _ 0 _ _ (omega arith) _ _ (omega arith) c.wide.ensures
