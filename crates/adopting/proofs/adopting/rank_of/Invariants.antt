-- `adopting::adopting::rank_of` meets its contract: i steps lead to u, and u has the rest of the level.
use Prim.Native.Nat.{◌+◌, ◌<◌}
use mathlib.Core.Path.{◌≡◌}
use Rattle.rules.specs.Forest.{depth}
use Rattle.rules.specs.Adopting.{parent_in}
use Rattle.adopting.proofs.adopting.rank_of.Given as goal

abbrev pub invariant-loop-u : goal.invariant-loop-u
invariant-loop-u l = (l.u < l.n) × (depth (parent_in l.parents) l.n l.v ≡ l.i + depth (parent_in l.parents) l.n l.u)

abbrev pub decreases-loop-u : goal.decreases-loop-u
decreases-loop-u l = depth (parent_in l.parents) l.n l.u
