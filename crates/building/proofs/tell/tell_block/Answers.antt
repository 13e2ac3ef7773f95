-- `building::tell::tell_block` meets its contract: held links are noted, the links told, and scratch is cleared.
-- Assumes nothing.
use Rattle.building.specs.Laws.Telling.{unnoted, noted_telling, told_settles}
use Rattle.building.proofs.tell.tell_block.Goals as goal

pub note_all-requires : goal.note_all-requires
note_all-requires c = let p = c.requires.0 in unnoted p.tellable _ p.gathers

pub tell_links-now_held-requires : goal.tell_links-now_held-requires
tell_links-now_held-requires c =
    let p = c.requires in
    let N = c.note_all.ensures in
    (noted_telling p.0.tellable _ p.0.gathers _ N.0 N.1, p.1)

pub returns : goal.returns
returns c =
    let N = c.note_all.ensures in
    λ f W G. told_settles W _ G _ N.0 N.1 _ _ c.tell_links-now_held.ensures _ c.clear.ensures
