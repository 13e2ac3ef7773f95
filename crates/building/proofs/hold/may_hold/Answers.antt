-- `building::hold::may_hold` meets its contract: two pieces; or one, then full and lost, held already, room, or marked lost now.
-- Assumes nothing.
use native.Mathlib.Omega.{arith}
use mathlib.Core.Path.{sym, ◌∙◌}
use Rattle.base.specs.Pick.{flags}
use Rattle.building.specs.Laws.Telling.{askable, found_apart, found_within, found_next, within_sized, within_lost, within_held, within_room, within_full}
use Rattle.building.proofs.hold.may_hold.Goals as goal

pub returns-then-p-q : goal.returns-then-p-q
returns-then-p-q c = found_apart c.requires _ _ _ _ c.find-p.ensures c.find-q.ensures c.if-p-q.true

pub has_room-room-requires : goal.has_room-room-requires
has_room-room-requires c = within_sized (found_within c.requires _ _ _ _ c.find-p.ensures c.find-q.ensures (omega arith))

pub overflow_add-n : goal.overflow_add-n
overflow_add-n c = omega (arith, within_sized (found_within c.requires _ _ _ _ c.find-p.ensures c.find-q.ensures (omega arith)))

pub offset_bounds-frag-n : goal.offset_bounds-frag-n
offset_bounds-frag-n c = omega (arith, within_sized (found_within c.requires _ _ _ _ c.find-p.ensures c.find-q.ensures (omega arith)))

pub bounds-frag-n : goal.bounds-frag-n
bounds-frag-n c = omega (arith, within_sized (found_within c.requires _ _ _ _ c.find-p.ensures c.find-q.ensures (omega arith)))

pub returns-then-frag-n-eq1 : goal.returns-then-frag-n-eq1
returns-then-frag-n-eq1 c = found_next c.requires _ _ _ _ c.find-p.ensures c.find-q.ensures (omega arith) (λ w. within_lost w (sym (c.if-not-room.true) ∙ c.has_room-room.ensures) (omega flags))

pub is_held-requires : goal.is_held-requires
is_held-requires c = askable (found_within c.requires _ _ _ _ c.find-p.ensures c.find-q.ensures (omega arith)).between

pub returns-then-is_held : goal.returns-then-is_held
returns-then-is_held c = found_next c.requires _ _ _ _ c.find-p.ensures c.find-q.ensures (omega arith) (λ w. within_held w _ _ c.is_held.ensures c.if-is_held.true)

pub returns-then-room : goal.returns-then-room
returns-then-room c = found_next c.requires _ _ _ _ c.find-p.ensures c.find-q.ensures (omega arith) (λ w. within_room w _ _ c.is_held.ensures c.if-is_held.false (sym c.if-room.true ∙ c.has_room-room.ensures))

pub overflow_add-frag : goal.overflow_add-frag
overflow_add-frag c = omega (arith, within_sized (found_within c.requires _ _ _ _ c.find-p.ensures c.find-q.ensures (omega arith)))

pub offset_bounds-frag-n-2 : goal.offset_bounds-frag-n-2
offset_bounds-frag-n-2 c = omega (arith, within_sized (found_within c.requires _ _ _ _ c.find-p.ensures c.find-q.ensures (omega arith)))

pub bounds-frag-n-2 : goal.bounds-frag-n-2
bounds-frag-n-2 c = omega (arith, within_sized (found_within c.requires _ _ _ _ c.find-p.ensures c.find-q.ensures (omega arith)), c.is_held.ensures.apart.same_long)

pub returns : goal.returns
returns c = found_next c.requires _ _ _ _ c.find-p.ensures c.find-q.ensures (omega arith) (λ w. within_full w _ _ c.is_held.ensures c.if-is_held.false (sym c.if-room.false ∙ c.has_room-room.ensures))
