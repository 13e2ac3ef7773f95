-- `building::noted::word_of` meets its contract: both ends have their place in a word.
-- Assumes nothing.
use mathlib.Core.Path.{◌∙◌}
use Rattle.tables.specs.Laws.Links.{word_within}
use Rattle.building.proofs.noted.word_of.Goals as goal

pub returns : goal.returns
returns c = let p = c.requires in c.word_of.ensures ∙ word_within _ _ p.0 p.1
