-- `testing::turns::numbers_fit` meets its contract: it tries every fragment.
-- Assumes nothing.
use mathlib.Core.Path.{refl}
use Rattle.std.proofs.Common.{rules}
use Rattle.state.proofs.Laws.Ranges.{every_from_all}
use Rattle.testing.proofs.turns.numbers_fit.Goals as goal

pub returns : goal.returns
returns c = every_from_all _ _ _ _ _ c.all.ensures.ran refl (λ x b q k. search rules)
