-- `differing::twice::none_twice` meets its contract: class by class, the words of those before it stand nowhere else.
-- Assumes nothing.
use Prim.Native.Nat.{◌+◌, ◌*◌}
use native.Mathlib.Omega.{arith}
use Rattle.differing.specs.Laws.Batches.{few_classes, sifted_none, sifted_all, sifted_twice, sifted_more}
use Rattle.differing.proofs.twice.none_twice.Goals as goal

pub overflow_mul-classes : goal.overflow_mul-classes
overflow_mul-classes c = omega (arith, c.requires.few_fragments)

pub overflow_add-classes : goal.overflow_add-classes
overflow_add-classes c = omega (arith, c.requires.few_fragments)

pub overflow_add-classes-2 : goal.overflow_add-classes-2
overflow_add-classes-2 c = omega (arith, few_classes c.requires (8 * c.args.n + 1))

pub loop-number-init : goal.loop-number-init
loop-number-init c = (omega arith, few_classes c.requires (8 * c.args.n + 1), sifted_none c.requires)

pub class_differs-requires : goal.class_differs-requires
class_differs-requires c = (c.loop-number.invariant.2.comparable, c.loop-number.invariant.1)

pub returns-then-not-class_differs : goal.returns-then-not-class_differs
returns-then-not-class_differs c = sifted_twice c.loop-number.invariant.2 c.class_differs.ensures (c.if-not-class_differs.true)

pub loop-number-preserved : goal.loop-number-preserved
loop-number-preserved c = (c.loop-number.invariant.0, c.loop-number.invariant.1, sifted_more c.loop-number.invariant.2 c.class_differs.ensures (c.if-not-class_differs.false))

pub returns : goal.returns
returns c = sifted_all c.loop-number.invariant.2 c.loop-number.invariant.0 (omega arith)
