-- `asking::tree::root` meets its contract: a root whose turn does not come behind that of v, one root after another.
use Prim.Native.Nat.{◌-◌}
use mathlib.Core.Path.{◌≡◌}
use Rattle.rules.specs.Numbers.{turn as turn_of}
use Rattle.state.specs.Layout.{forest_in}
use Rattle.asking.specs.Tree.{Top}
use Rattle.asking.proofs.tree.root.Given as goal

abbrev pub invariant-loop-top : goal.invariant-loop-top
invariant-loop-top l = (l.turn ≡ turn_of l.n (forest_in l.n l.frag) l.v) × Top l.n (forest_in l.n l.frag) l.v l.top

abbrev pub decreases-loop-top : goal.decreases-loop-top
decreases-loop-top l = l.turn - turn_of l.n (forest_in l.n l.frag) l.top
