-- `parts::tell_to` meets its contract.
-- Assumes nothing.
use Rattle.std.proofs.Common.{sym, length-take-le}
use Rattle.parts.specs.Steps.{tell_all, tell_cut}
use Rattle.parts.proofs.tell_to.Goals as goal

pub returns-then-last : goal.returns-then-last
returns-then-last c = tell_all _ _ _ c.if-last.true

pub slice_bounds-cut-end : goal.slice_bounds-cut-end
slice_bounds-cut-end c = sym (length-take-le _ _ c.requires)

pub returns : goal.returns
returns c = tell_cut _ _ _ _ c.requires c.if-last.false c.cut.ensures
