-- `reaches::laying::lows` meets its contract.
-- Assumes nothing.
use Rattle.reaches.specs.Laws.Judged.{low_sinkable, low_sunk}
use Rattle.reaches.proofs.laying.lows.Goals as goal

pub sink-requires : goal.sink-requires
sink-requires c = low_sinkable c.requires c.note_all.ensures

pub returns : goal.returns
returns c = low_sunk c.requires c.note_all.ensures _ c.sink.ensures
