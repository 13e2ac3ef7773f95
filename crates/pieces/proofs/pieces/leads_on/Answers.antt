-- `pieces::pieces::leads_on` meets its contract: one law for each answer.
-- Assumes nothing.
use native.Mathlib.Omega.{arith}
use Rattle.std.proofs.Common.{eq-eqb}
use Rattle.pieces.specs.Laws.Ways.{leads_nowhere, leads_some}
use Rattle.pieces.proofs.pieces.leads_on.Goals as goal

pub returns-then-word-ne0 : goal.returns-then-word-ne0
returns-then-word-ne0 c = leads_some _ _ (λ e. omega arith)

pub returns-else-word-ne0 : goal.returns-else-word-ne0
returns-else-word-ne0 c = rw (eq-eqb c.args.word 0 c.if-word-ne0.false) (leads_nowhere _ _ c.if-word-ne0.false)
