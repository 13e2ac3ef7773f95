-- `closing::path::climb` meets its contract: what is left of the path keeps the rest.
use Prim.Native.Nat.{◌-◌}
use Rattle.closing.specs.Laws.Copying.{Climbing}
use Rattle.closing.proofs.path.climb.Given as goal

abbrev pub invariant-loop : goal.invariant-loop
invariant-loop l = Climbing l.n l.top l.deepest l.initial.frag l.frag l.v (l.steps - l.counter)
