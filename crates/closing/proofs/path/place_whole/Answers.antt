-- `closing::path::place_whole` meets its contract: the top is hung and the piece walked.
-- Assumes nothing.
use mathlib.Core.Path.{refl}
use Rattle.closing.specs.Laws.Frames.{frame_refl}
use Rattle.closing.specs.Laws.Saving.{hangable_now, hung_walkable, whole_leaves}
use Rattle.closing.proofs.path.place_whole.Goals as goal

pub hang-requires : goal.hang-requires
hang-requires c = hangable_now _ _ _ _ _ _ _ _ c.requires.hanging _ refl (frame_refl _ 2 12 _)

pub walk-requires : goal.walk-requires
walk-requires c =
    let q = c.requires in
    let s = c.size_of-size.ensures.0 in
    record { told = q.told; walkable = hung_walkable _ _ _ _ _ _ _ _ q.hanging _ refl (frame_refl _ 2 12 _) _ c.hang.ensures _ s }

pub returns : goal.returns
returns c =
    let s = c.size_of-size.ensures.0 in
    let e = c.hang.ensures in
    λ h₀ W. whole_leaves _ _ _ _ _ _ _ _ W _ refl (frame_refl _ 2 12 _) _ e _ _ (c.walk.ensures h₀ (hung_walkable _ _ _ _ _ _ _ _ W _ refl (frame_refl _ 2 12 _) _ e _ s))
