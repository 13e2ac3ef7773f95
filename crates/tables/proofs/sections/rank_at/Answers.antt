-- `tables::sections::rank_at` meets its contract.
-- Assumes nothing.
use Rattle.rules.specs.Tables.{rank}
use Rattle.state.specs.Layout.{tables_in}
use Rattle.tables.proofs.sections.rank_at.Goals as goal

pub returns : goal.returns
unfolding tables_in rank
returns c = c.word_at.ensures
