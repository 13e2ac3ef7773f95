-- `building::noted::set_flag` meets its contract: one law for each way out.
-- Assumes nothing.
use Prim.Native.Nat.{◌-◌, ◌*◌, ◌<◌}
use native.Mathlib.Omega.{arith}
use Rattle.building.specs.Laws.Noted.{flags_ended, flags_had, flags_now}
use Rattle.building.proofs.noted.set_flag.Goals as goal

pub returns-then-i-size : goal.returns-then-i-size
returns-then-i-size c =
    let p = c.requires in
    flags_ended c.look-i.ensures p.sorted (λ l. absurd (omega (arith, c.if-i-size.true))) p.some p.long

pub returns-then-x-lt-FLAG : goal.returns-then-x-lt-FLAG
returns-then-x-lt-FLAG c =
    let k = c.look-i in
    let h : k.result < 9 * c.args.n - 1 = omega (arith, k.ensures.in_range, c.if-i-size.false) in
    flags_now k.ensures c.requires.sorted h c.if-x-eq0.false c.if-x-lt-FLAG.true

pub returns-else-x-lt-FLAG : goal.returns-else-x-lt-FLAG
returns-else-x-lt-FLAG c =
    let k = c.look-i in
    let h : k.result < 9 * c.args.n - 1 = omega (arith, k.ensures.in_range, c.if-i-size.false) in
    flags_had k.ensures c.requires.sorted h c.if-x-eq0.false (omega (arith, c.if-x-lt-FLAG.false))
