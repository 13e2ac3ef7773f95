-- `asking::cutting::has_shut` meets its contract: no shut child comes before i, one child at a time.
use Prim.Native.Nat.{◌-◌}
use mathlib.Core.Path.{◌≡◌}
use Rattle.rules.specs.Numbers.{end as end_of}
use Rattle.state.specs.Layout.{forest_in}
use Rattle.asking.specs.Ranges.{Walked}
use Rattle.asking.proofs.cutting.has_shut.Given as goal

abbrev pub invariant-loop-i : goal.invariant-loop-i
invariant-loop-i l = (l.end ≡ end_of l.n (forest_in l.n l.frag) l.v) × Walked l.n (forest_in l.n l.frag) l.v l.i

abbrev pub decreases-loop-i : goal.decreases-loop-i
decreases-loop-i l = l.end - l.i
