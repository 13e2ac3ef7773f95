-- `tables::sections::end_at` meets its contract.
-- Assumes nothing.
use Rattle.tables.proofs.sections.end_at.Goals as goal

pub returns : goal.returns
returns c = c.word_at.ensures
