-- `tables::sections::note_at` meets its contract.
-- Assumes nothing.
use Rattle.rules.specs.Tables.{note_of}
use Rattle.state.specs.Layout.{tables_in}
use Rattle.tables.proofs.sections.note_at.Goals as goal

pub returns : goal.returns
unfolding tables_in note_of
returns c = c.word_at.ensures
