-- `differing::twice::Class::has` meets its contract: the product fits.
-- Assumes nothing.
use Prim.Native.Nat.{◌*◌, ◌%◌, ◌≤◌}
use mathlib.Core.Path.{refl}
use native.Mathlib.Omega.{arith}
use native.Mathlib.Nat.{mul-le-mul}
use Rattle.differing.specs.Batches.{class_of}
use Rattle.differing.proofs.twice.Class.has.Goals as goal

pub overflow_mul-result : goal.overflow_mul-result
overflow_mul-result c =
    let l : c.args.w * 2246822519 % 4294967296 ≤ 4294967295 = omega arith in
    omega (arith, mul-le-mul l c.requires)

pub returns : goal.returns
unfolding class_of
returns c = refl
