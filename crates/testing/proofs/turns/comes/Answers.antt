-- `testing::turns::comes` meets its contract: one law for each answer.
-- Assumes nothing.
use mathlib.Core.Path.{◌∙◌}
use native.Mathlib.Omega.{arith}
use borrow.Author.Tests.{le-ltb}
use Rattle.std.proofs.lemmas.Bool.Decides.{nat_tests}
use Rattle.testing.specs.Laws.Turns.{comes_late, comes_other, comes_narrow, comes_alone, comes_first}
use Rattle.testing.proofs.turns.comes.Goals as goal

pub returns-then-t-turn : goal.returns-then-t-turn
returns-then-t-turn c = comes_late _ _ _ _ _ c.turn_at-turn.ensures.says (omega arith)

pub returns-then-whose_at-v : goal.returns-then-whose_at-v
returns-then-whose_at-v c = comes_other _ _ _ _ _ c.turn_at-turn.ensures.says (omega arith) _ c.whose_at.ensures.says (omega arith)

pub returns-else-turn-end : goal.returns-else-turn-end
returns-else-turn-end c = le-ltb _ _ (omega arith) ∙ comes_narrow _ _ _ _ _ c.turn_at-turn.ensures.says (omega arith) _ c.whose_at.ensures.says (omega arith) _ c.end_at-end.ensures.says (omega arith)

pub returns-then-end-turn : goal.returns-then-end-turn
returns-then-end-turn c =
    grind (arith, nat_tests) ∙ comes_alone _ _ _ _ _ c.turn_at-turn.ensures.says (omega arith) _ c.whose_at.ensures.says (omega arith) _ c.end_at-end.ensures.says (omega arith) (omega arith)

pub returns-else-end-turn : goal.returns-else-end-turn
returns-else-end-turn c =
    comes_first _ _ _ _ _ c.turn_at-turn.ensures.says (omega arith) _ c.whose_at.ensures.says (omega arith) _ c.end_at-end.ensures.says (omega arith) (omega arith) _ c.is_under.ensures
