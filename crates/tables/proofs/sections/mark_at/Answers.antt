-- `tables::sections::mark_at` meets its contract.
-- Assumes nothing.
use Rattle.rules.specs.Tables.{mark_of}
use Rattle.state.specs.Layout.{tables_in}
use Rattle.tables.proofs.sections.mark_at.Goals as goal

pub returns : goal.returns
unfolding tables_in mark_of
returns c = c.word_at.ensures
