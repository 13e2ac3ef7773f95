-- `adopting::parents::leads` meets its contract: u is where the steps so far from v lead.
use Prim.Native.Nat.{◌<◌}
use mathlib.Core.Path.{◌≡◌}
use Rattle.rules.specs.Forest.{up}
use Rattle.rules.specs.Adopting.{parent_in}
use Rattle.adopting.proofs.parents.leads.Given as goal

abbrev pub invariant-loop : goal.invariant-loop
invariant-loop l = (l.u < l.n) × (l.u ≡ up (parent_in l.parents) l.counter l.v)
