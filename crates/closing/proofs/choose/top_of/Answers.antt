-- `closing::choose::top_of` meets its contract: the piece itself, or the first member that has its note.
-- Assumes nothing.
use Rattle.closing.specs.Laws.Choosing.{top_root, top_first}
use native.Mathlib.Omega.{arith}
use Rattle.closing.proofs.choose.top_of.Goals as goal

pub returns-then-note-eq0 : goal.returns-then-note-eq0
returns-then-note-eq0 c = top_root _ _ _ _ (omega arith)

pub returns : goal.returns
returns c = top_first _ _ _ _ (omega arith) _ c.first_noted.ensures
