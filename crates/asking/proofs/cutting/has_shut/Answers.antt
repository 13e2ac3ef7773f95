-- `asking::cutting::has_shut` meets its contract: no shut child comes before i, one child at a time.
-- Assumes nothing.
use Prim.Native.Nat.{◌+◌, ◌<◌}
use mathlib.Core.Path.{◌≡◌, ap, ◌∙◌}
use native.Mathlib.Omega.{arith}
use Rattle.rules.specs.Numbers.{turn as turn_of, at_turn}
use Rattle.rules.proofs.Laws.Numbers.{turn_end}
use Rattle.state.specs.Layout.{forest_in}
use Rattle.testing.specs.Laws.Whole.{levels}
use Rattle.asking.specs.Laws.Ranges.{end_in_lem, walk_starts, walk_child, walk_found, walk_on, walk_done}
use Rattle.asking.proofs.cutting.has_shut.Goals as goal
use Rattle.asking.proofs.cutting.has_shut.Goals.{After-whose_at-c}

-- The child whose turn is i.
at : (c : After-whose_at-c) → c.whose_at-c.result ≡ at_turn c.args.n (forest_in c.args.n c.args.frag.now) c.loop-i.i
at c =
    let N = c.requires.0 in
    let l = c.loop-i in
    c.whose_at-c.ensures.says ∙ N.whose l.i (omega (arith, end_in_lem _ _ (levels N.whole) c.args.v c.requires.1, l.invariant.0))

child : (c : After-whose_at-c) → (c.whose_at-c.result < c.args.n) × (turn_of c.args.n (forest_in c.args.n c.args.frag.now) c.whose_at-c.result ≡ c.loop-i.i)
child c =
    let l = c.loop-i in
    let (k, e, x) = walk_child _ _ (levels c.requires.0.whole) _ c.requires.1 l.i l.invariant.1 (omega (arith, l.invariant.0)) _ (at c) in
    (k, e)

pub loop-i-init : goal.loop-i-init
loop-i-init c =
    let N = c.requires.0 in
    let h = c.requires.1 in
    (c.end_at-end.ensures.says ∙ N.ends _ h, walk_starts _ _ (levels N.whole) _ h _ (ap (λ i. i + 1) (c.turn_at-i.ensures.says ∙ N.turns _ h)))

pub reach-requires : goal.reach-requires
reach-requires c = (c.requires.0, (child (goal.at.reach-requires c).After-whose_at-c).0)

pub returns-then-level-reach : goal.returns-then-level-reach
returns-then-level-reach c =
    let l = c.loop-i in
    walk_found _ _ (levels c.requires.0.whole) _ c.requires.1 l.i l.invariant.1 (omega (arith, l.invariant.0)) _ (at (goal.at.returns-then-level-reach c).After-whose_at-c) (omega (arith, c.reach.ensures, c.level_of-level.ensures))

pub loop-i-smaller : goal.loop-i-smaller
loop-i-smaller c =
    let N = c.requires.0 in
    let (k, e) = child (goal.at.loop-i-smaller c).After-whose_at-c in
    omega (arith, turn_end _ _ (levels N.whole) _ k, N.ends _ k)

pub loop-i-preserved : goal.loop-i-preserved
loop-i-preserved c =
    let N = c.requires.0 in
    let l = c.loop-i in
    (l.invariant.0, walk_on _ _ (levels N.whole) _ c.requires.1 l.i l.invariant.1 (omega (arith, l.invariant.0)) _ (at (goal.at.loop-i-preserved c).After-whose_at-c) (omega (arith, c.reach.ensures, c.level_of-level.ensures)) _ (c.end_at-next.ensures.says ∙ N.ends _ (child (goal.at.loop-i-preserved c).After-whose_at-c).0))

pub returns : goal.returns
returns c =
    let l = c.loop-i in
    walk_done _ _ (levels c.requires.0.whole) _ c.requires.1 l.i l.invariant.1 (omega (arith, l.invariant.0))
