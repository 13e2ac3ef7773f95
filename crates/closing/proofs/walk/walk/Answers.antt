-- `closing::walk::walk` meets its contract: the steps that are left make the rest of the walk, which stands still at its rest and reaches nothing where none is missing.
-- Assumes nothing.
use Rattle.closing.specs.Laws.Walking.{Going, going_starts, going_seekable, going_seeks, going_reachable, going_missing, going_on, going_back, going_rests, going_ends, going_done}
use Prim.Native.Nat.{◌-◌, ◌*◌}
use Rattle.std.proofs.Math.Nat.{sub-zero, sub-add-eq}
use native.Mathlib.Omega.{arith}
use Rattle.closing.proofs.walk.walk.Goals as goal
use Rattle.closing.proofs.walk.walk.Goals.{At-loop, then-x-n, else-x-n+else-at-top}

-- The walk on its way along some links.
here : (c : At-loop) → let a = c.args in let l = c.loop in Going a.n a.count a.top a.frag.now c.requires.told a.held.now l.frag l.missing (2 * a.n - l.counter) l.at l.deepest
here c = c.loop.invariant _ _ c.enter.ensures c.requires.walkable

pub loop-init : goal.loop-init
loop-init c f₀ h₀ e W = rw sub-zero (going_starts W _ e)

pub returns-then-missing-eq0 : goal.returns-then-missing-eq0
returns-then-missing-eq0 c h₀ W = going_done _ (c.loop.invariant _ h₀ c.enter.ensures W) c.if-missing-eq0.true

pub next_of-x-requires : goal.next_of-x-requires
next_of-x-requires c = going_seekable (here (goal.at.next_of-x-requires c).At-loop)

pub reach-deepest-requires : goal.reach-deepest-requires
reach-deepest-requires c = going_reachable (going_seeks (here (goal.at.reach-deepest-requires c).At-loop) _ _ c.next_of-x.ensures).0 _ c.if-x-n.true

pub overflow_sub-missing : goal.overflow_sub-missing
overflow_sub-missing c =
    let (G, q) = going_seeks (here (goal.at.overflow_sub-missing c).At-loop) _ _ c.next_of-x.ensures in
    going_missing G _ q c.if-x-n.true

pub returns-then-at-top : goal.returns-then-at-top
returns-then-at-top c h₀ W =
    let (G, q) = going_seeks (c.loop.invariant _ h₀ c.enter.ensures W) _ _ c.next_of-x.ensures in
    going_rests G (omega (arith, q)) c.if-at-top.true

pub offset_bounds-frag-at : goal.offset_bounds-frag-at
offset_bounds-frag-at c =
    omega (arith, (going_seekable (here (goal.at.offset_bounds-frag-at c).At-loop)).in_range, (here (goal.at.offset_bounds-frag-at c).At-loop).arranged.few)

pub bounds-frag-at : goal.bounds-frag-at
bounds-frag-at c =
    let G = (going_seeks (here (goal.at.bounds-frag-at c).At-loop) _ _ c.next_of-x.ensures).0 in
    omega (arith, (going_seekable G).in_range, G.arranged.long)

pub loop-preserved : goal.loop-preserved
loop-preserved c f₀ h₀ e W =
    let (G, q) = going_seeks (c.loop.invariant f₀ h₀ e W) _ _ c.next_of-x.ensures in
    elim c.if-x-n.branch [
      | then-x-n w ↦ rw (w.missing-is, w.at-is, w.frag-is, w.deepest-is, sub-add-eq (2 * c.args.n)) (going_on G _ q w.if-x-n.true (omega arith) _ _ w.reach-deepest.ensures.0 w.reach-deepest.ensures.1)
      | else-x-n+else-at-top w ↦ rw (w.missing-is, w.at-is, w.frag-is, w.deepest-is, sub-add-eq (2 * c.args.n)) (going_back G (omega arith) (omega (arith, q)) w.if-at-top.false)
    ]

pub returns : goal.returns
returns c h₀ W = going_ends (c.loop.invariant _ h₀ c.enter.ensures W) (omega arith)
