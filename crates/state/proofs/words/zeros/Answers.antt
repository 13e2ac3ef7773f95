-- `state::words::zeros` meets its contract: what was found and what is left to look at decide.
-- Assumes nothing.
use mathlib.Core.Path.{refl, ◌∙◌}
use Rattle.state.proofs.Laws.Tests.{zero_part, zero_next, zero_last}
use Rattle.state.proofs.words.zeros.Goals as goal

pub loop-w-init : goal.loop-w-init
loop-w-init c = refl

pub loop-w-preserved : goal.loop-w-preserved
loop-w-preserved c = zero_next _ c.loop-w.w-index c.loop-w.found c.loop-w-test.true ∙ c.loop-w.invariant

pub returns : goal.returns
returns c =
    zero_last _ c.loop-w.w-index c.loop-w.found c.loop-w-test.false ∙ c.loop-w.invariant
    ∙ rw c.min.ensures (zero_part c.args.words.now c.args.from c.args.to _ c.min-end.ensures)
