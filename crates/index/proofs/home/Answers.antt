-- `index::home` meets its contract: the product fits.
-- Assumes nothing.
use Prim.Native.Nat.{◌-◌, ◌*◌, ◌/◌, ◌%◌, ◌≤◌}
use mathlib.Core.Path.{refl}
use native.Mathlib.Omega.{arith}
use native.Mathlib.Nat.{mul-le-mul}
use Rattle.index.specs.Index.{home_of}
use Rattle.index.proofs.home.Goals as goal

pub overflow_mul-result : goal.overflow_mul-result
overflow_mul-result c =
    let x = c.args.w * 2654435769 % 4294967296 in
    let m = c.args.size - c.args.size / 8 in
    let l : x ≤ 4294967296 = omega arith in
    let b : m ≤ 4294967295 = omega arith in
    omega (arith, mul-le-mul l b)

pub returns : goal.returns
unfolding home_of
returns c = refl
