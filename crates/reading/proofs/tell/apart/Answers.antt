-- `reading::tell::apart` meets its contract: at most three words tell.
-- Assumes nothing.
use native.Mathlib.Omega.{arith}
use Rattle.reading.specs.Laws.Tell.{apart_behind, apart_before}
use Rattle.reading.proofs.tell.apart.Goals as goal

pub returns-then-one-other : goal.returns-then-one-other
returns-then-one-other c =
    let p = c.requires in
    apart_behind p.0 _ _ p.1 p.2 _ _ c.turn_at-one.ensures.says c.turn_at-other.ensures.says _ c.if-one-other.true c.end_at.ensures.says

pub returns : goal.returns
returns c =
    let p = c.requires in
    apart_before p.0 _ _ p.1 p.2 _ _ c.turn_at-one.ensures.says c.turn_at-other.ensures.says _ (omega arith) c.end_at-2.ensures.says
