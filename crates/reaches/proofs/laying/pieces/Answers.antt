-- `reaches::laying::pieces` meets its contract.
-- Assumes nothing.
use Rattle.reaches.specs.Laws.Judged.{own_sinkable, own_ready, own_fallen}
use Rattle.reaches.proofs.laying.pieces.Goals as goal

pub sink-requires : goal.sink-requires
sink-requires c = own_sinkable c.requires c.own_all.ensures

pub fall-requires : goal.fall-requires
fall-requires c = own_ready c.requires c.own_all.ensures _ c.sink.ensures

pub returns : goal.returns
returns c = own_fallen c.requires c.own_all.ensures _ c.sink.ensures _ c.fall.ensures
