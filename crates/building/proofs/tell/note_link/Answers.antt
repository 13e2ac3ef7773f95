-- `building::tell::note_link` meets its contract: the better note is stored.
-- Assumes nothing.
use Rattle.tables.specs.Laws.Sections.{better_small}
use Rattle.building.specs.Laws.Telling.{note_stored}
use native.Mathlib.Omega.{arith}
use Rattle.building.proofs.tell.note_link.Goals as goal

pub overflow_cast-frag : goal.overflow_cast-frag
overflow_cast-frag c =
    let q = c.requires in omega (arith, q, better_small _ _ _ c.args.n _ c.better_note-note.ensures (omega (arith, q, c.note_at-old.ensures)) (omega (arith, q)))

pub returns : goal.returns
returns c = note_stored c.requires _ _ c.note_at-old.ensures.says c.better_note-note.ensures
