-- `parts::carry` meets its contract.
-- Assumes nothing.
use Rattle.std.proofs.Common.{◌-◌, ◌≤◌, length, drop, arith, length-drop, length-take-le}
use Rattle.numbers.specs.Number.{put}
use Rattle.parts.specs.Parts.{carried}
use Rattle.parts.proofs.carry.Goals as goal

pub returns : goal.returns
unfolding carried put
returns c =
    let a = c.args in
    let k : a.len - a.from ≤ length (drop a.from a.buffer.now) = rw length-drop (omega arith) in
    rw length-take-le c.copy_within.ensures.after
