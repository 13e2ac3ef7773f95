-- `asking::ranges::reach` meets its contract: the least note of the turns passed, one turn at a time.
-- Assumes nothing.
use Prim.Native.Nat.{◌+◌, ◌<◌}
use mathlib.Core.Path.{◌≡◌, ap, ◌∙◌}
use native.Mathlib.Omega.{arith}
use Rattle.rules.specs.Numbers.{at_turn, end as end_of}
use Rattle.state.specs.Layout.{forest_in}
use Rattle.testing.specs.Laws.Whole.{levels}
use Rattle.asking.specs.Laws.Ranges.{end_in_lem, reach_starts, reach_on, reach_done}
use Rattle.asking.proofs.ranges.reach.Goals as goal

pub loop-i-init : goal.loop-i-init
loop-i-init c =
    let N = c.requires.0 in
    let h = c.requires.1 in
    reach_starts _ _ (levels N.whole) _ h _ _ (ap (λ i. i + 1) (c.turn_at-i.ensures.says ∙ N.turns _ h)) c.low_of-least.ensures

pub loop-i-preserved : goal.loop-i-preserved
loop-i-preserved c =
    let N = c.requires.0 in
    let h = c.requires.1 in
    let L = levels N.whole in
    let l = c.loop-i in
    let k : l.i < end_of c.args.n (forest_in c.args.n c.args.frag.now) c.args.v = omega (arith, c.end_at-end.ensures.says ∙ N.ends _ h) in
    let e : c.whose_at.result ≡ at_turn c.args.n (forest_in c.args.n c.args.frag.now) l.i = c.whose_at.ensures.says ∙ N.whose l.i (omega (arith, end_in_lem _ _ L c.args.v h)) in
    reach_on _ _ L _ h _ _ _ l.invariant k (rw (c.low_of.ensures, e) at c.min-least.ensures)

pub returns : goal.returns
returns c =
    let N = c.requires.0 in
    let h = c.requires.1 in
    reach_done _ _ (levels N.whole) _ h _ _ c.loop-i.invariant (omega (arith, c.end_at-end.ensures.says ∙ N.ends _ h))
