-- `pieces::pieces::is_in` meets its contract: one law for each answer.
-- Assumes nothing.
use mathlib.Core.Path.{sym, ◌∙◌}
use native.Mathlib.Omega.{arith}
use Rattle.std.proofs.lemmas.Bool.{leb-true, leb-false}
use Rattle.pieces.specs.Laws.Ways.{in_many, in_short, in_long}
use Rattle.pieces.proofs.pieces.is_in.Goals as goal
use Rattle.pieces.proofs.pieces.is_in.Goals.{then-n-le-FRAGMENTS, else-n-le-FRAGMENTS}

pub returns-then-n-len : goal.returns-then-n-len
returns-then-n-len c =
    elim c.if-n-le-FRAGMENTS.branch [
      | then-n-le-FRAGMENTS w ↦ in_long _ _ _ (omega arith) (leb-true _ _ (sym w.value-is ∙ c.if-n-len.true))
      | else-n-le-FRAGMENTS w ↦ absurd (omega (arith, leb-true _ _ (sym w.value-is ∙ c.if-n-len.true)))
    ]

pub returns-else-n-len : goal.returns-else-n-len
returns-else-n-len c =
    c.if-n-len.false ∙ elim c.if-n-le-FRAGMENTS.branch [
      | then-n-le-FRAGMENTS w ↦ in_short _ _ _ (omega arith) (leb-false _ _ (sym w.value-is ∙ c.if-n-len.false))
      | else-n-le-FRAGMENTS w ↦ in_many _ _ _ (omega arith)
    ]
