-- `pieces::pieces::further` meets its contract: by the ladder of its definition.
-- Assumes nothing.
use native.Mathlib.Omega.{arith}
use Rattle.pieces.specs.Laws.Gathered.{shorter_end, shorter_on}
use Rattle.pieces.proofs.pieces.further.Goals as goal

pub returns-then-up-eq0 : goal.returns-then-up-eq0
returns-then-up-eq0 c = shorter_end _ _ (omega arith)

pub returns : goal.returns
returns c = shorter_on _ _ (omega arith)
