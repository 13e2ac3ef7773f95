-- `building::hold::hold_link` meets its contract: held now, or left as it is told.
-- Assumes nothing.
use Rattle.building.specs.Laws.Telling.{holdable, learnable, hold_more}
use Rattle.building.proofs.hold.hold_link.Goals as goal

pub hold-requires : goal.hold-requires
hold-requires c = holdable c.requires c.may_hold.ensures c.if-may_hold.true

pub note_held-requires : goal.note_held-requires
note_held-requires c = learnable c.requires c.may_hold.ensures c.if-may_hold.true _ _ c.hold.ensures

pub returns-then-may_hold : goal.returns-then-may_hold
returns-then-may_hold c = hold_more c.requires c.may_hold.ensures c.if-may_hold.true _ _ c.hold.ensures _ c.note_held.ensures.0 c.note_held.ensures.1

pub returns : goal.returns
returns c = c.may_hold.ensures.left c.if-may_hold.false
