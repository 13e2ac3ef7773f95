-- `closing::walk::keep_cursors` meets its contract: two stores.
-- Assumes nothing.
use Rattle.closing.specs.Walk.{cursors_at}
use lib.ListN.{length-set}
use native.Mathlib.Omega.{arith}
use mathlib.Core.Path.{refl}
use Rattle.closing.proofs.walk.keep_cursors.Goals as goal

pub bounds-frag-n-2 : goal.bounds-frag-n-2
bounds-frag-n-2 c = simp length-set (omega arith)

pub returns : goal.returns
unfolding cursors_at
returns c = refl
