-- `telling::tell` meets its contract.
-- Assumes nothing.
use mathlib.Core.Path.{sym, ◌∙◌}
use Rattle.telling.specs.Steps.{tell_unread, tell_read}
use Rattle.telling.proofs.tell.Goals as goal

pub returns-then-not-was_read : goal.returns-then-not-was_read
returns-then-not-was_read c = tell_unread _ _ _ _ _ c.args.heard _ (sym c.was_read.ensures ∙ c.if-not-was_read.true) c.unread.ensures

pub returns : goal.returns
returns c = tell_read _ _ _ _ _ c.args.heard _ _ _ (sym c.was_read.ensures ∙ c.if-not-was_read.false) c.count_in.ensures c.is_end.ensures c.give.ensures
