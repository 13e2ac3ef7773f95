-- `testing::test::count_placed` meets its contract: it tries every fragment.
-- Assumes nothing.
use Rattle.std.proofs.Common.{rules, tests}
use Rattle.rules.specs.Tables.{placed}
use Rattle.state.proofs.Laws.Ranges.{count_from_filter}
use Rattle.testing.proofs.test.count_placed.Goals as goal

pub returns : goal.returns
unfolding placed
returns c = count_from_filter _ _ _ c.count.ensures.ran c.filter.ensures.source c.filter.ensures.closure (λ v b q k. search (rules, tests))
