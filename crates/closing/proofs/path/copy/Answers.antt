-- `closing::path::copy` meets its contract: two stores.
-- Assumes nothing.
use Prim.Native.Nat.{◌+◌}
use mathlib.Core.Logic.{⊎_elim}
use native.Mathlib.Omega.{arith}
use lib.ListN.{length-set}
use lib.Seq.{get_or-set_other}
use Rattle.closing.specs.Closing.{copied_at}
use Rattle.closing.proofs.path.copy.Goals as goal

pub bounds-frag-from-2 : goal.bounds-frag-from-2
bounds-frag-from-2 c = simp length-set (omega arith)

pub bounds-frag-to-2 : goal.bounds-frag-to-2
bounds-frag-to-2 c = simp length-set (omega arith)

pub returns : goal.returns
unfolding copied_at
returns c =
    let a = c.args in
    rw (get_or-set_other a.frag.now (a.to + a.v) (a.from + a.n + a.v) _ 0 (⊎_elim (λ l e. omega arith) (λ l e. omega arith) c.requires.0.apart))
