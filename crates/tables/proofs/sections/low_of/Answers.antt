-- `tables::sections::low_of` meets its contract.
-- Assumes nothing.
use mathlib.Core.Path.{refl}
use native.Mathlib.Omega.{arith}
use Rattle.tables.specs.Laws.Sections.{low_note}
use Rattle.tables.proofs.sections.low_of.Goals as goal

pub returns-then-own-note : goal.returns-then-own-note
returns-then-own-note c = low_note _ _ _ _ _ c.level_of-own.ensures c.note_at-note.ensures.says (omega arith)

pub returns : goal.returns
returns c = low_note _ _ _ _ _ c.level_of-own.ensures c.note_at-note.ensures.says refl
