-- `closing::walk::put` meets its contract: two stores.
-- Assumes nothing.
use Rattle.closing.specs.Walk.{put_at}
use lib.ListN.{length-set}
use native.Mathlib.Omega.{arith}
use mathlib.Core.Path.{refl}
use Rattle.closing.proofs.walk.put.Goals as goal

pub bounds-frag-n : goal.bounds-frag-n
bounds-frag-n c = simp length-set (omega arith)

pub returns : goal.returns
unfolding put_at
returns c = refl
