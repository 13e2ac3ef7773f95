-- `building::hold::has_room` meets its contract: the words of the piece are compared.
-- Assumes nothing.
use native.Mathlib.Omega.{arith}
use Prim.Native.Nat.{◌+◌, ◌≤◌}
use native.Mathlib.Nat.{mul-le-mul}
use Rattle.building.specs.Laws.Telling.{room_is}
use Rattle.building.proofs.hold.has_room.Goals as goal

pub overflow_mul-result : goal.overflow_mul-result
overflow_mul-result c =
    let h : c.wide-size.result + 1 ≤ 4294967296 = omega (arith, c.wide-size.ensures) in
    omega (arith, mul-le-mul c.requires.few_room h)

pub returns : goal.returns
returns c = room_is _ _ _ _ _ _ c.wide-links.ensures.says c.wide-size.ensures.says
