-- `closing::path::place_piece` meets its contract: by the choices for the piece, either way as the rules do.
-- Assumes nothing.
use Rattle.closing.specs.Laws.Placing.{due_hanging, piece_path, piece_whole}
use mathlib.Core.Path.{sym, ◌∙◌}
use Rattle.closing.proofs.path.place_piece.Goals as goal

pub place_path-requires : goal.place_path-requires
place_path-requires c =
    let q = c.requires in
    let b = c.best_note-note.ensures in
    record { told = q.told; hanging = due_hanging _ _ _ _ _ _ q.due _ _ b.0 c.top_of-top.ensures b.1 }

pub place_whole-requires : goal.place_whole-requires
place_whole-requires c =
    let q = c.requires in
    let b = c.best_note-note.ensures in
    record { told = q.told; hanging = due_hanging _ _ _ _ _ _ q.due _ _ b.0 c.top_of-top.ensures b.1 }

pub returns-then-is_lost : goal.returns-then-is_lost
returns-then-is_lost c =
    let b = c.best_note-note.ensures in
    let t = c.top_of-top.ensures in
    let l = sym c.if-is_lost.true ∙ c.is_lost.ensures in
    λ h₀ D. piece_path _ _ _ _ _ _ D _ _ b.0 t _ l (c.place_path.ensures h₀ (due_hanging _ _ _ _ _ _ D _ _ b.0 t b.1))

pub returns-else-is_lost : goal.returns-else-is_lost
returns-else-is_lost c =
    let b = c.best_note-note.ensures in
    let t = c.top_of-top.ensures in
    let l = sym c.if-is_lost.false ∙ c.is_lost.ensures in
    λ h₀ D. piece_whole _ _ _ _ _ _ D _ _ b.0 t _ l (c.place_whole.ensures h₀ (due_hanging _ _ _ _ _ _ D _ _ b.0 t b.1))
