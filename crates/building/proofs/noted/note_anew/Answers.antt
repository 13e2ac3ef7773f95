-- `building::noted::note_anew` meets its contract: none is noted, then links of the block, then those held are marked.
-- Assumes nothing.
use Rattle.building.specs.Laws.Noted.{apart_then, cleared_apart, cleared_fresh}
use Rattle.building.proofs.noted.note_anew.Goals as goal

pub note_links-requires : goal.note_links-requires
note_links-requires c =
    let p = c.requires in
    (cleared_fresh c.args.frag.now p.long c.clear.ensures p.some p.few_fragments, c.block_end-end.ensures)

pub returns : goal.returns
returns c =
    let m = c.set_flags.ensures in
    let cleared = cleared_apart c.args.frag.now c.requires.long c.clear.ensures in
    (m.0, apart_then cleared (apart_then c.note_links.ensures.1 m.1))
