-- `reaches::laying::lay` meets its contract.
-- Assumes nothing.
use mathlib.Core.Path.{◌∙◌}
use Rattle.reaches.specs.Laws.Laid.{ready_1, reached_2, cuttable_3, laid_made}
use Rattle.reaches.proofs.laying.lay.Goals as goal

pub pieces-requires : goal.pieces-requires
pieces-requires c = ready_1 c.requires c.lows.ensures

pub mark_soles-requires : goal.mark_soles-requires
mark_soles-requires c = reached_2 c.requires c.lows.ensures c.pieces.ensures

pub mark_cuts-requires : goal.mark_cuts-requires
mark_cuts-requires c = cuttable_3 c.requires c.lows.ensures c.pieces.ensures c.mark_soles.ensures

pub returns : goal.returns
returns c = c.clear.ensures ∙ laid_made c.requires c.lows.ensures c.pieces.ensures c.mark_soles.ensures c.mark_cuts.ensures
