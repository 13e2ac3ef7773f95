-- `tables::sections::turn_at` meets its contract.
-- Assumes nothing.
use Rattle.tables.proofs.sections.turn_at.Goals as goal

pub returns : goal.returns
returns c = c.word_at.ensures
