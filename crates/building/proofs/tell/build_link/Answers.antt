-- `building::tell::build_link` meets its contract, by which ends of the link are placed.
-- Assumes nothing.
use native.Mathlib.Omega.{arith}
use Rattle.building.specs.Laws.Telling.{notable, build_skip, build_note_second, build_note_first, build_between, build_hold}
use Rattle.building.proofs.tell.build_link.Goals as goal

pub returns-then-rank_at-ne0-2 : goal.returns-then-rank_at-ne0-2
returns-then-rank_at-ne0-2 c =
    let p = c.requires in
    build_skip p.0 p.1 _ _ c.rank_at.ensures.says c.rank_at-then-rank_at-ne0.ensures.says c.if-rank_at-ne0.true c.if-rank_at-ne0-2.true

pub note_link-requires : goal.note_link-requires
note_link-requires c =
    let p = c.requires in
    notable p.0 _ _ p.1.second p.1.first

pub returns-then-rank_at-ne0 : goal.returns-then-rank_at-ne0
returns-then-rank_at-ne0 c =
    let p = c.requires in
    build_note_second p.0 p.1 _ _ c.rank_at.ensures.says c.rank_at-then-rank_at-ne0.ensures.says c.if-rank_at-ne0.true (omega arith) _ c.note_link.ensures

pub note_link-requires-then-rank_at-ne0-3 : goal.note_link-requires-then-rank_at-ne0-3
note_link-requires-then-rank_at-ne0-3 c =
    let p = c.requires in
    notable p.0 _ _ p.1.first p.1.second

pub returns-then-rank_at-ne0-3 : goal.returns-then-rank_at-ne0-3
returns-then-rank_at-ne0-3 c =
    let p = c.requires in
    build_note_first p.0 p.1 _ _ c.rank_at.ensures.says c.rank_at-2.ensures.says (omega arith) c.if-rank_at-ne0-3.true _ c.note_link-then-rank_at-ne0-3.ensures

pub hold_link-requires : goal.hold_link-requires
hold_link-requires c =
    let p = c.requires in
    build_between p.0 p.1 _ _ c.rank_at.ensures.says c.rank_at-2.ensures.says (omega arith) (omega arith)

pub returns : goal.returns
returns c =
    let p = c.requires in
    build_hold p.0 p.1 _ _ c.rank_at.ensures.says c.rank_at-2.ensures.says (omega arith) (omega arith) c.hold_link.ensures
