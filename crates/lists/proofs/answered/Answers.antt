-- `lists::answered` meets its contract: each answer by its test.
-- Assumes nothing.
use mathlib.Core.Path.{refl, ◌∙◌}
use Rattle.numbers.proofs.Unique.{number_some, refused_is}
use Rattle.lists.specs.Laws.Scan.{end_bad, end_good}
use Rattle.lists.proofs.answered.Goals as goal

pub returns-in-Ok : goal.returns-in-Ok
returns-in-Ok c = rw c.in-Ok.is (end_good _ _ _ refl)

pub returns-in-Err : goal.returns-in-Err
returns-in-Err c = rw c.in-Err.is (refused_is _ _ _ c.at.ensures ∙ end_bad _ _ _ (number_some c.in-Err.why))
