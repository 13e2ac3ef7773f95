-- `telling::enter` meets its contract.
-- Assumes nothing.
use mathlib.Core.Path.{sym, ◌∙◌}
use Rattle.telling.specs.Steps.{enter_first, enter_other, enter_same}
use Rattle.telling.proofs.enter.Goals as goal

pub returns-then-is_first : goal.returns-then-is_first
returns-then-is_first c = enter_first _ c.args.t.step _ _ _ _ (sym c.is_first.ensures ∙ c.if-is_first.true) c.start.ensures

pub returns-then-is_other : goal.returns-then-is_other
returns-then-is_other c =
    rw (c.from.ensures.0, c.from.ensures.1) (enter_other c.args.t.state c.args.t.step c.args.n _ _ c.is_other.result (sym c.is_first.ensures ∙ c.if-is_first.false) c.is_other.ensures c.if-is_other.true)

pub returns : goal.returns
returns c =
    enter_same c.args.t.state c.args.t.step c.args.n _ _ c.is_other.result (sym c.is_first.ensures ∙ c.if-is_first.false) c.is_other.ensures c.if-is_other.false
