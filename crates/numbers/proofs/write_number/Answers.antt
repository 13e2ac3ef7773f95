-- `numbers::write_number` meets its contract. Each answer is the one that the number's width and the room leave.
-- Assumes nothing.
use mathlib.Core.Path.{refl}
use native.Mathlib.Omega.{arith}
use Rattle.numbers.proofs.Laws.Writing.{number_far, number_short, number_room, number_done}
use Rattle.numbers.proofs.write_number.Goals as goal

pub returns-then-size-eq0 : goal.returns-then-size-eq0
returns-then-size-eq0 c = number_far _ _ _ (omega arith) _ refl

pub returns-then-at-buffer : goal.returns-then-at-buffer
returns-then-at-buffer c = number_short _ _ _ (omega arith) _ refl (omega arith)

pub returns-then-buffer-at : goal.returns-then-buffer-at
returns-then-buffer-at c = number_short _ _ _ (omega arith) _ refl (omega arith)

pub put_groups-requires : goal.put_groups-requires
put_groups-requires c = number_room _ _ _ (omega arith) (omega arith)

pub returns : goal.returns
returns c = number_done _ _ _ (omega arith) (omega arith) _ (omega arith) _ c.put_groups.ensures
