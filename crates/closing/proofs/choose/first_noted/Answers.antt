-- `closing::choose::first_noted` meets its contract: no member below v has the note.
-- Assumes nothing.
use mathlib.Core.Path.{◌≡◌}
use native.Mathlib.Omega.{arith}
use Rattle.closing.specs.Laws.Members.{along_first, along_next}
use Rattle.closing.specs.Laws.Choosing.{none_noted_start, none_noted_next, first_found, first_nowhere}
use Rattle.closing.proofs.choose.first_noted.Goals as goal

pub loop-v-init : goal.loop-v-init
loop-v-init c = let q = c.requires in (along_first q, none_noted_start _ _ _ q _)

pub returns-then-frag-n : goal.returns-then-frag-n
returns-then-frag-n c =
    let l = c.loop-v in
    first_found _ _ _ _ _ (omega arith) l.invariant.1 (l.invariant.0.member (omega arith)) c.if-frag-n.true

pub next_member-v-requires : goal.next_member-v-requires
next_member-v-requires c = let q = c.requires in (q.wide, q.membered, omega arith)

pub loop-v-smaller : goal.loop-v-smaller
loop-v-smaller c = omega (arith, c.next_member-v.ensures.on)

pub loop-v-preserved : goal.loop-v-preserved
loop-v-preserved c =
    let l = c.loop-v in
    (along_next l.invariant.0 (omega arith) c.next_member-v.ensures, none_noted_next _ _ _ _ _ l.invariant.0 (omega arith) c.next_member-v.ensures _ l.invariant.1 c.if-frag-n.false)

pub returns : goal.returns
returns c =
    let l = c.loop-v in
    let e : l.v ≡ c.args.n = omega (arith, l.invariant.0.within) in
    rw e (first_nowhere _ _ _ _ (rw e at l.invariant.1))
