-- `differing::twice::none_twice` meets its contract: class by class, the words of those before it stand nowhere else.
use Prim.Native.Nat.{◌≤◌, ◌<◌}
use Rattle.differing.specs.Batches.{classes_most}
use Rattle.differing.specs.Laws.Batches.{Sifted}
use Rattle.differing.proofs.twice.none_twice.Given as goal

abbrev pub invariant-loop-number : goal.invariant-loop-number
invariant-loop-number l = (0 < l.classes) × (l.classes ≤ classes_most) × Sifted l.n l.count l.number l.classes l.initial.frag l.frag l.held
