-- `reading::tell::hear` meets its contract: one store, of the mark or of the note.
-- Assumes nothing.
use mathlib.Core.Path.{sym, ◌∙◌}
use native.Mathlib.Omega.{arith}
use Rattle.reading.specs.Laws.Tell.{hear_mark, hear_note}
use Rattle.reading.proofs.tell.hear.Goals as goal

pub returns-then-parent_of-w : goal.returns-then-parent_of-w
returns-then-parent_of-w c = let p = c.requires in hear_mark p.0 _ p.1 _ (sym c.parent_of.ensures ∙ c.if-parent_of-w.true)

pub returns-else-parent_of-w : goal.returns-else-parent_of-w
returns-else-parent_of-w c = let p = c.requires in hear_note p.0 _ p.1 _ p.2 _ c.parent_of.ensures c.if-parent_of-w.false _ _ _ (omega arith) (omega arith) c.farther.ensures
