-- `state::words::clear` meets its contract: what is filled is what is cleared.
-- Assumes nothing.
use native.Mathlib.Omega.{arith}
use Rattle.state.proofs.Laws.Clear.{wiped_off, wiped_filled}
use Rattle.state.proofs.words.clear.Goals as goal

pub returns-then-from-end : goal.returns-then-from-end
returns-then-from-end c = wiped_filled _ _ _ _ _ c.min-end.ensures c.if-from-end.true (c.fill.ensures.after (λ y e. e))

pub returns-else-from-end : goal.returns-else-from-end
returns-else-from-end c = wiped_off _ _ _ (omega arith)
