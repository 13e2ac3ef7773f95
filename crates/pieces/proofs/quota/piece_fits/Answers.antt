-- `pieces::quota::piece_fits` meets its contract: the words of the piece are its size and its links.
-- Assumes nothing.
use Prim.Native.Nat.{◌+◌, ◌≤◌}
use native.Mathlib.Omega.{arith}
use native.Mathlib.Nat.{mul-le-mul}
use Rattle.pieces.specs.Laws.Check.{piece_other, piece_own}
use Rattle.pieces.proofs.quota.piece_fits.Goals as goal

pub returns-then-frag-n-ne0 : goal.returns-then-frag-n-ne0
returns-then-frag-n-ne0 c = piece_other _ _ _ _ c.requires.in_range c.if-frag-n-ne0.true

pub overflow_mul-result : goal.overflow_mul-result
overflow_mul-result c =
    let w = c.wide-size in
    let b : w.result + 1 ≤ 4294967296 = omega (arith, w.ensures.small) in
    omega (arith, mul-le-mul c.requires.room b)

pub returns : goal.returns
returns c = piece_own _ _ _ _ c.requires.in_range c.if-frag-n-ne0.false _ _ c.wide-size.ensures.says c.wide.ensures.says
