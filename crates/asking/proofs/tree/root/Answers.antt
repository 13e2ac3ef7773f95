-- `asking::tree::root` meets its contract: a root whose turn does not come behind that of v, one root after another.
-- Assumes nothing.
use Prim.Native.Nat.{ℕ, ◌≤◌, ◌<◌}
use mathlib.Core.Path.{ap, ◌∙◌}
use native.Mathlib.Omega.{arith}
use Rattle.rules.specs.Numbers.{turn as turn_of, end as end_of}
use Rattle.rules.proofs.Laws.Numbers.{turn_in_lem}
use Rattle.state.specs.Layout.{forest_in, whose_in}
use Rattle.testing.specs.Laws.Whole.{levels}
use Rattle.asking.specs.Tree.{Top}
use Rattle.asking.specs.Laws.Tree.{top_starts, top_on, top_done}
use Rattle.asking.proofs.tree.root.Goals as goal
use Rattle.asking.proofs.tree.root.Goals.{After-whose_at-top-in-loop-top}

-- The next root.
on : (c : After-whose_at-top-in-loop-top)
    → Top c.args.n (forest_in c.args.n c.args.frag.now) c.args.v c.whose_at-top-in-loop-top.result
    × (turn_of c.args.n (forest_in c.args.n c.args.frag.now) c.loop-top.top
    < turn_of c.args.n (forest_in c.args.n c.args.frag.now) c.whose_at-top-in-loop-top.result)
on c =
    let N = c.requires.0 in
    let L = levels N.whole in
    let n = c.args.n in
    let t = forest_in n c.args.frag.now in
    let l = c.loop-top in
    let e = c.end_at-in-loop-top.ensures.says ∙ N.ends l.top l.invariant.1.fragment in
    let m : end_of n t l.top ≤ turn_of n t c.args.v = omega (arith, N.ends l.top l.invariant.1.fragment, l.invariant.0) in
    top_on n t L c.args.v c.requires.1 l.top l.invariant.1 m _ (c.whose_at-top-in-loop-top.ensures.says ∙ ap (λ (i : ℕ). whose_in n c.args.frag.now i) e ∙ N.whose (end_of n t l.top) (omega (arith, turn_in_lem n t L c.args.v c.requires.1)))

pub loop-top-init : goal.loop-top-init
loop-top-init c =
    let N = c.requires.0 in
    let h = c.requires.1 in
    (c.turn_at-turn.ensures.says ∙ N.turns _ h, top_starts _ _ (levels N.whole) _ h _ (c.whose_at-top.ensures.says ∙ N.whose 0 (omega arith)))

pub loop-top-smaller : goal.loop-top-smaller
loop-top-smaller c = omega (arith, on c, c.loop-top.invariant)

pub loop-top-preserved : goal.loop-top-preserved
loop-top-preserved c = (c.loop-top.invariant.0, (on c).0)

pub returns : goal.returns
returns c =
    let N = c.requires.0 in
    let l = c.loop-top in
    top_done _ _ (levels N.whole) _ c.requires.1 _ l.invariant.1 (omega (arith, N.ends l.top l.invariant.1.fragment, l.invariant.0))
