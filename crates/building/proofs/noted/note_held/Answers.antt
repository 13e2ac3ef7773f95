-- `building::noted::note_held` meets its contract: the word of the link is marked.
-- Assumes nothing.
use Rattle.building.specs.Laws.Noted.{word_flaggable, word_flags}
use Rattle.building.proofs.noted.note_held.Goals as goal

pub set_flag-requires : goal.set_flag-requires
set_flag-requires c = word_flaggable _ c.word_of.ensures c.requires

pub returns : goal.returns
returns c =
    let p = c.requires in
    word_flags _ c.word_of.ensures p.few_fragments p.ends c.set_flag.ensures
