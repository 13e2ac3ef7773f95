-- `asking::ranges::reach` meets its contract: the least note of the turns passed, one turn at a time.
use Rattle.state.specs.Layout.{forest_in}
use Rattle.asking.specs.Ranges.{Reached}
use Rattle.asking.proofs.ranges.reach.Given as goal

abbrev pub invariant-loop-i : goal.invariant-loop-i
invariant-loop-i l = Reached l.n (forest_in l.n l.frag) l.v l.i l.least
