-- `pieces::pieces::bind` meets its contract: inside one piece, or of two the smaller member stays.
-- Assumes nothing.
use mathlib.Core.Path.{◌∙◌}
use native.Mathlib.Omega.{arith}
use Rattle.pieces.specs.Laws.Gather.{bound_inside, bound_rising, bound_falling}
use Rattle.pieces.proofs.pieces.bind.Goals as goal

pub returns-then-p-q : goal.returns-then-p-q
returns-then-p-q c = c.count_one.ensures ∙ bound_inside _ _ _ _ (omega arith)

pub returns-then-p-q-2 : goal.returns-then-p-q-2
returns-then-p-q-2 c = c.unite.ensures ∙ bound_rising _ _ _ _ (λ e. omega arith) (omega arith)

pub returns-else-p-q-2 : goal.returns-else-p-q-2
returns-else-p-q-2 c = c.unite-else-p-q-2.ensures ∙ bound_falling _ _ _ _ (λ e. omega arith) (omega arith)
