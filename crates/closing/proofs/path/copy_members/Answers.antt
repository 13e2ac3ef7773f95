-- `closing::path::copy_members` meets its contract: at each member those below are copied.
-- Assumes nothing.
use mathlib.Core.Path.{◌≡◌}
use native.Mathlib.Omega.{arith}
use Rattle.closing.specs.Laws.Members.{along_first, along_next}
use Rattle.closing.specs.Laws.Copying.{copyable_by, copies_start, copied_chained, follows_copied, copies_next}
use Rattle.closing.proofs.path.copy_members.Goals as goal

pub loop-v-init : goal.loop-v-init
loop-v-init c = let q = c.requires.0 in (along_first q, copies_start _ _ _ _ _ q)

pub copy-requires : goal.copy-requires
copy-requires c = (copyable_by c.loop-v.invariant.1.same_long c.requires.1, omega arith)

pub next_member-v-requires : goal.next_member-v-requires
next_member-v-requires c =
    let q = c.requires in
    let l = c.loop-v in
    let k = copied_chained _ _ _ _ _ _ _ q.1 l.invariant.0 (omega arith) l.invariant.1 q.0 in
    rw c.copy.ensures (k.wide, k.membered, omega arith)

pub loop-v-smaller : goal.loop-v-smaller
loop-v-smaller c = omega (arith, c.next_member-v.ensures.on)

pub loop-v-preserved : goal.loop-v-preserved
loop-v-preserved c =
    let q = c.requires in
    let l = c.loop-v in
    let e = c.copy.ensures in
    let d = rw e at c.next_member-v.ensures in
    rw e (along_next l.invariant.0 (omega arith) (follows_copied _ _ _ _ _ _ _ q.1 l.invariant.0 (omega arith) l.invariant.1 _ d), copies_next _ _ _ _ _ _ _ q.1 l.invariant.0 (omega arith) l.invariant.1 _ d)

pub returns : goal.returns
returns c =
    let l = c.loop-v in
    let e : l.v ≡ c.args.n = omega (arith, l.invariant.0.within) in
    rw e at l.invariant.1
