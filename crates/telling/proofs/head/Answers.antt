-- `telling::head` meets its contract.
-- Assumes nothing.
use mathlib.Core.Path.{sym, ◌∙◌}
use Rattle.telling.specs.Steps.{head_wait, head_on, head_bad}
use Rattle.telling.proofs.head.Goals as goal

pub returns-then-is_unfinished : goal.returns-then-is_unfinished
returns-then-is_unfinished c =
    head_wait _ _ _ _ _ _ _ _ _ ((rw c.in-Err.is at c.«open».ensures)) (sym c.if-is_unfinished.true ∙ c.is_unfinished.ensures)

pub returns-in-Ok : goal.returns-in-Ok
returns-in-Ok c = head_on c.args.t _ _ _ _ _ _ _ _ _ _ ((rw c.in-Ok.is at c.«open».ensures)) c.enter_links.ensures

pub returns-else-is_unfinished : goal.returns-else-is_unfinished
returns-else-is_unfinished c =
    head_bad c.args.t _ _ _ _ _ _ _ _ ((rw c.in-Err.is at c.«open».ensures)) _ (sym c.if-is_unfinished.false ∙ c.is_unfinished.ensures) c.refuse.ensures
