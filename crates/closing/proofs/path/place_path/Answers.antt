-- `closing::path::place_path` meets its contract: the members' forest is saved, the piece walked, the path kept, and the saved forest brought back.
-- Assumes nothing.
use Rattle.closing.specs.Laws.Copying.{keepable, restorable}
use Rattle.closing.specs.Laws.Saving.{lost_hangable, lost_walkable, lost_climbable, again_chained, path_leaves}
use Rattle.closing.proofs.path.place_path.Goals as goal

pub copy_members-requires : goal.copy_members-requires
copy_members-requires c = let q = c.requires.hanging.chained in (q, keepable q.wide)

pub hang-requires : goal.hang-requires
hang-requires c = lost_hangable _ _ _ _ _ _ _ _ c.requires.hanging _ c.copy_members.ensures

pub walk-deepest-requires : goal.walk-deepest-requires
walk-deepest-requires c =
    let q = c.requires in
    let s = c.size_of-size.ensures.0 in
    record { told = q.told; walkable = lost_walkable _ _ _ _ _ _ _ _ q.hanging _ c.copy_members.ensures _ c.hang.ensures _ s }

pub climb-requires : goal.climb-requires
climb-requires c =
    let q = c.requires in
    let s = c.size_of-size.ensures.0 in
    let d = c.copy_members.ensures in
    let e = c.hang.ensures in
    lost_climbable _ _ _ _ _ _ _ _ q.hanging _ d _ e _ _ (c.walk-deepest.ensures q.told (lost_walkable _ _ _ _ _ _ _ _ q.hanging _ d _ e _ s))

pub copy_members-requires-2 : goal.copy_members-requires-2
copy_members-requires-2 c =
    let q = c.requires in
    let s = c.size_of-size.ensures.0 in
    let d = c.copy_members.ensures in
    let e = c.hang.ensures in
    let g = c.walk-deepest.ensures q.told (lost_walkable _ _ _ _ _ _ _ _ q.hanging _ d _ e _ s) in
    let k = again_chained _ _ _ _ _ _ _ _ q.hanging _ d _ e _ _ g _ c.climb.ensures in
    (k, restorable k.wide)

pub returns : goal.returns
returns c =
    let s = c.size_of-size.ensures.0 in
    let d = c.copy_members.ensures in
    let e = c.hang.ensures in
    λ h₀ W. path_leaves _ _ _ _ _ _ _ _ W _ d _ e _ _ (c.walk-deepest.ensures h₀ (lost_walkable _ _ _ _ _ _ _ _ W _ d _ e _ s)) _ c.climb.ensures _ c.copy_members-2.ensures
