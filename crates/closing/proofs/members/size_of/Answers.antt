-- `closing::members::size_of` meets its contract: at each member those below are counted.
-- Assumes nothing.
use mathlib.Core.Path.{◌≡◌}
use native.Mathlib.Omega.{arith}
use Rattle.closing.specs.Laws.Members.{along_first, along_next}
use Rattle.closing.specs.Laws.Choosing.{counted_start, counted_next, counted_few, counted_all}
use Rattle.closing.proofs.members.size_of.Goals as goal

pub loop-v-init : goal.loop-v-init
loop-v-init c = let q = c.requires in (along_first q, counted_start _ _ _ q)

pub overflow_add-size : goal.overflow_add-size
overflow_add-size c = let l = c.loop-v in omega (arith, counted_few _ _ _ _ _ l.invariant.1, c.requires.wide.few)

pub next_member-v-requires : goal.next_member-v-requires
next_member-v-requires c = let q = c.requires in (q.wide, q.membered, omega arith)

pub loop-v-smaller : goal.loop-v-smaller
loop-v-smaller c = omega (arith, c.next_member-v.ensures.on)

pub loop-v-preserved : goal.loop-v-preserved
loop-v-preserved c =
    let l = c.loop-v in
    (along_next l.invariant.0 (omega arith) c.next_member-v.ensures, counted_next _ _ _ _ _ l.invariant.0 (omega arith) c.next_member-v.ensures _ l.invariant.1)

pub returns : goal.returns
returns c =
    let l = c.loop-v in
    let e : l.v ≡ c.args.n = omega (arith, l.invariant.0.within) in
    counted_all _ _ _ _ c.requires (rw e at l.invariant.1)
