-- `pieces::pieces::shorten_one` meets its contract: three words are stored.
-- Assumes nothing.
use mathlib.Core.Path.{refl}
use native.Mathlib.Omega.{arith}
use lib.ListN.{length-set}
use Rattle.pieces.specs.Pieces.{short_at}
use Rattle.pieces.proofs.pieces.shorten_one.Goals as goal

pub bounds-frag-n-4 : goal.bounds-frag-n-4
bounds-frag-n-4 c = simp length-set (omega arith)

pub bounds-frag-n-5 : goal.bounds-frag-n-5
bounds-frag-n-5 c = simp length-set (omega arith)

pub returns : goal.returns
unfolding short_at
returns c = rw c.further.ensures refl
