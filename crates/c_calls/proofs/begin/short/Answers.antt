-- `c_calls::begin::short` meets its contract.
-- Assumes nothing.
use mathlib.Core.Path.{sym, ap, ◌∙◌}
use Rattle.numbers.specs.Answers.{due}
use Rattle.numbers.proofs.Unique.{number_some}
use Rattle.c_calls.specs.Laws.Steps.{short_none, short_some}
use Rattle.c_calls.proofs.begin.short.Goals as goal

pub returns-in-Ok : goal.returns-in-Ok
returns-in-Ok c = c.number.ensures ∙ short_none _ _ _ _ _ c.bounds.ensures (ap due c.in-Ok.is)

pub returns-in-Err : goal.returns-in-Err
returns-in-Err c = c.number-in-Err.ensures ∙ short_some _ _ _ _ _ (sym (ap due c.in-Err.is) ∙ c.bounds.ensures) (number_some _)
