-- `reading::closing::all_seen` meets its contract: the parent links below v were seen.
-- Assumes nothing.
use mathlib.Core.Path.{◌≡◌, sym, ◌∙◌, ap}
use native.Mathlib.Omega.{arith}
use Rattle.rules.specs.Search.{every}
use Rattle.state.proofs.Laws.Tests.{every_none, every_more, every_fails}
use Rattle.reading.proofs.closing.all_seen.Goals as goal

pub loop-v-init : goal.loop-v-init
loop-v-init c = every_none _

pub returns-then-not-seen_at : goal.returns-then-not-seen_at
returns-then-not-seen_at c = every_fails _ _ _ (omega arith) (sym c.seen_at.ensures ∙ c.if-not-seen_at.true)

pub loop-v-preserved : goal.loop-v-preserved
loop-v-preserved c = every_more _ _ c.loop-v.invariant (sym c.seen_at.ensures ∙ c.if-not-seen_at.false)

pub returns : goal.returns
returns c = let l = c.loop-v in let e : l.v ≡ c.args.n = omega arith in sym l.invariant ∙ ap (every _) e
