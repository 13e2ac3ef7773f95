-- `closing::walk::walk` meets its contract: the steps that are left make the rest of the walk, which stands still at its rest and reaches nothing where none is missing.
use Prim.Native.Nat.{◌-◌, ◌*◌}
use Rattle.closing.specs.Laws.Walking.{Goes}
use Rattle.closing.proofs.walk.walk.Given as goal

abbrev pub invariant-loop : goal.invariant-loop
invariant-loop l = Goes l.n l.count l.top l.initial.missing l.initial.frag l.held l.frag l.missing (2 * l.n - l.counter) l.at l.deepest
