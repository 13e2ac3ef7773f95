-- `building::noted::note_all` meets its contract: every held link is told to an index that is whole, or nothing is noted.
-- Assumes nothing.
use Prim.Native.Nat.{◌-◌, ◌*◌}
use native.Mathlib.Omega.{arith}
use Rattle.building.specs.Laws.Noted.{apart_none, apart_set, apart_then, unnoted_noted, unnoted_matching}
use Rattle.building.proofs.noted.note_all.Goals as goal

pub set_flags-requires : goal.set_flags-requires
set_flags-requires c = unnoted_matching c.requires (omega (arith, c.if-count-n.true))

pub returns-then-count-n : goal.returns-then-count-n
returns-then-count-n c =
    let n = c.args.n in
    let m = c.set_flags.ensures in
    (m.0, apart_then (apart_set (9 * n - 1) 1 (omega (arith, c.if-count-n.true))) m.1)

pub returns-else-count-n : goal.returns-else-count-n
returns-else-count-n c = (unnoted_noted c.requires, apart_none)
