-- `closing::walk::next_smaller` meets its contract: each that it goes past is placed.
-- Assumes nothing.
use Prim.Native.Nat.{◌+◌, ◌*◌}
use mathlib.Core.Path.{◌≡◌}
use lib.ListN.{get_or}
use Rattle.closing.specs.Laws.Seeking.{start_next, smaller_more, seek_end, seek_in}
use native.Mathlib.Omega.{arith}
use Rattle.closing.proofs.walk.next_smaller.Goals as goal

pub smaller_at-w-requires : goal.smaller_at-w-requires
smaller_at-w-requires c = let a = c.args in omega (arith, start_next a.n a.frag.now a.v, seek_end c.requires)

pub bounds-frag-n-in-loop-i : goal.bounds-frag-n-in-loop-i
bounds-frag-n-in-loop-i c =
    let a = c.args in
    let l = c.loop-i in
    omega (arith, seek_in c.requires l.i l.invariant (omega (arith, start_next a.n a.frag.now a.v)), c.smaller_at-w.ensures)

pub returns-then-frag-n-eq0 : goal.returns-then-frag-n-eq0
returns-then-frag-n-eq0 c = record { loose = λ l. rw (← c.smaller_at-w.ensures) c.if-frag-n-eq0.true; behind = c.loop-i.invariant }

pub loop-i-preserved : goal.loop-i-preserved
loop-i-preserved c =
    let a = c.args in
    smaller_more _ _ _ _ _ c.loop-i.invariant (omega (arith, start_next a.n a.frag.now a.v)) (rw (← c.smaller_at-w.ensures) (omega arith))

pub returns : goal.returns
returns c =
    let a = c.args in
    let l = c.loop-i in
    let q = start_next a.n a.frag.now a.v in
    let e : l.i ≡ get_or a.frag.now (4 * a.n + (a.v + 1)) 0 = omega (arith, q, l.invariant.to) in
    record { loose = λ g. absurd (omega (arith, q)); behind = rw e at l.invariant }
