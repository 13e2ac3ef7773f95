-- `building::noted::note_more` meets its contract: one law for each way out.
-- Assumes nothing.
use Prim.Native.Nat.{◌+◌, ◌-◌, ◌*◌}
use lib.ListN.{length-set}
use native.Mathlib.Omega.{arith}
use Rattle.building.specs.Laws.Noted.{flags_none, flags_ended, flags_new}
use Rattle.building.proofs.noted.note_more.Goals as goal

pub returns-then-whole-eq0 : goal.returns-then-whole-eq0
returns-then-whole-eq0 c =
    let p = c.requires in
    flags_none p.place p.flaggable.sorted (λ l. p.empty) c.if-whole-eq0.true

pub overflow_cast-whole : goal.overflow_cast-whole
overflow_cast-whole c =
    let n = c.args.n in
    omega (arith, c.slice_known-1.given (7 * n + (9 * n - 1)))

pub bounds-frag-behind-else-n-whole : goal.bounds-frag-behind-else-n-whole
bounds-frag-behind-else-n-whole c = simp length-set (omega arith)

pub returns-then-n-whole : goal.returns-then-n-whole
returns-then-n-whole c =
    let p = c.requires in
    flags_ended p.place p.flaggable.sorted (λ l. p.empty) p.flaggable.some p.flaggable.long

pub returns-else-n-whole : goal.returns-else-n-whole
returns-else-n-whole c =
    let p = c.requires in
    flags_new p.place p.flaggable.sorted p.in_range p.empty p.flaggable.small p.flaggable.some p.flaggable.long _ c.if-whole-eq0.false
