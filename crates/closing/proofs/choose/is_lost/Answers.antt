-- `closing::choose::is_lost` meets its contract: no member below v carries a mark.
-- Assumes nothing.
use mathlib.Core.Path.{◌≡◌}
use native.Mathlib.Omega.{arith}
use Rattle.closing.specs.Laws.Members.{along_first, along_next}
use Rattle.closing.specs.Laws.Choosing.{none_marked_start, none_marked_next, lost_found, lost_nowhere}
use Rattle.closing.proofs.choose.is_lost.Goals as goal

pub loop-v-init : goal.loop-v-init
loop-v-init c = let q = c.requires in (along_first q, none_marked_start _ _ _ q)

pub returns-then-frag-n-ne0 : goal.returns-then-frag-n-ne0
returns-then-frag-n-ne0 c = let l = c.loop-v in lost_found _ _ _ _ (omega arith) (l.invariant.0.member (omega arith)) c.if-frag-n-ne0.true

pub next_member-v-requires : goal.next_member-v-requires
next_member-v-requires c = let q = c.requires in (q.wide, q.membered, omega arith)

pub loop-v-smaller : goal.loop-v-smaller
loop-v-smaller c = omega (arith, c.next_member-v.ensures.on)

pub loop-v-preserved : goal.loop-v-preserved
loop-v-preserved c =
    let l = c.loop-v in
    (along_next l.invariant.0 (omega arith) c.next_member-v.ensures, none_marked_next _ _ _ _ _ l.invariant.0 (omega arith) c.next_member-v.ensures l.invariant.1 c.if-frag-n-ne0.false)

pub returns : goal.returns
returns c =
    let l = c.loop-v in
    let e : l.v ≡ c.args.n = omega (arith, l.invariant.0.within) in
    lost_nowhere _ _ _ (rw e at l.invariant.1)
