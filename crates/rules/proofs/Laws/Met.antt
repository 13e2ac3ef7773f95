-- Known instances that meet the premises of theorems, so that these are not empty.
-- Assumes nothing.
use Rattle.std.specs.Prelude.{ℕ, suc, ◌≤◌, ◌≡◌, refl, true, false, [], ◌∷◌, ◌++◌, length}
use Rattle.std.proofs.Common.{◌∙◌, arith}
use Rattle.base.specs.Pick.{pick}
use Rattle.base.specs.Truth.{true_T, false_T}
use Rattle.rules.specs.Links.{between, linked, tally, Among}
use Rattle.rules.specs.Forest.{DepthFirst}
use Rattle.rules.specs.Search.{count, some, every, first, table}
use Rattle.rules.specs.Tables.{parent_of, rank, note_of, mark_of, placed, par, fresh, place, put_note, put_mark, put_held, cleared}
use Rattle.rules.specs.Building.{alone, merged, pieces_from, pieces, member, size_of, held_in, better, note_link, hold, fill, hold_link, build_link, build_links, noted, top_of, hang, next_of, reach_next, go_back, walk_step, walk_steps, walked, place_path, lost, place_walk, place_piece, place_from, place_pieces, close_building, done, pass, passes, ceiling, lower_ceiling}
use Rattle.rules.specs.Known.{square}
use Rattle.rules.specs.Facts.{Loose, Ready}
use Rattle.rules.proofs.Laws.Links.{among_nil, among_cons}
use Rattle.rules.proofs.Laws.Tables.{put_held_forest, same_rank, standing_same, fresh_loose, fresh_standing}
use Rattle.rules.proofs.Laws.Path.{hung, hung_ready}
use Rattle.rules.proofs.Laws.Passes.{result}
use Rattle.rules.proofs.Laws.Ceiling.{within_ceiling}

-- P1 tells links among 4 fragments.
pub met_among : Among 4 (linked square)
unfolding square
met_among =
    among_cons 4 0 1 _ (omega arith) (omega arith) (omega arith)
    (among_cons 4 0 2 _ (omega arith) (omega arith) (omega arith)
    (among_cons 4 0 3 _ (omega arith) (omega arith) (omega arith)
    (among_cons 4 1 2 _ (omega arith) (omega arith) (omega arith) (among_nil 4))))

-- The ceiling: P1's first pass leaves something unplaced,
pub met_unfinished : done 4 (passes 4 1 (fresh 4) (square ∷ [])) ≡ false
unfolding pick between linked tally count some every first table parent_of rank note_of mark_of placed fresh place put_note put_mark put_held cleared alone merged pieces_from pieces member size_of held_in better note_link hold fill hold_link build_link build_links noted top_of hang next_of reach_next go_back walk_step walk_steps walked place_path lost place_walk place_piece place_from place_pieces close_building done pass passes square
met_unfinished = refl

pub met_ceiling : length ((square ∷ []) ++ (square ∷ [])) ≤ ceiling 4 1
met_ceiling = within_ceiling 4 1 (omega arith) (square ∷ []) (met_among, tt) (false_T (done 4 (passes 4 1 (fresh 4) (square ∷ []))) met_unfinished) square

-- and its two passes are all that the lower ceiling allows.
pub met_most : length (square ∷ square ∷ []) ≡ lower_ceiling 4 1
met_most = refl

-- The result: P1's two passes tell one set, among 4 fragments, and leave nothing unplaced; so they give a depth-first forest of it.
pub met_done : done 4 (passes 4 1 (fresh 4) (square ∷ square ∷ [])) ≡ true
unfolding pick between linked tally count some every first table parent_of rank note_of mark_of placed fresh place put_note put_mark put_held cleared alone merged pieces_from pieces member size_of held_in better note_link hold fill hold_link build_link build_links noted top_of hang next_of reach_next go_back walk_step walk_steps walked place_path lost place_walk place_piece place_from place_pieces close_building done pass passes square
met_done = refl

pub met_result : DepthFirst 4 (par (passes 4 1 (fresh 4) (square ∷ square ∷ []))) (linked square)
met_result = result (omega arith) met_among (square ∷ square ∷ []) (λ u v. refl, (λ u v. refl, tt)) (true_T (done 4 (passes 4 1 (fresh 4) (square ∷ square ∷ []))) met_done)

-- The walk: P2's only pass holds every link, and its only piece may be walked from 0, a root.
pub met_held : build_links 4 2 (fresh 4) square ≡ put_held square (fresh 4)
unfolding pick between linked tally count table parent_of rank placed fresh put_held alone merged pieces_from pieces member size_of held_in hold fill hold_link build_link build_links square
met_held = refl

pub met_walk : Ready 4 0 (hang 0 0 (build_links 4 2 (fresh 4) square))
unfolding put_held
met_walk =
    let s = put_held square (fresh 4) in
    let f = put_held_forest (fresh 4) square in
    let loose : (v : ℕ) → Loose s v = λ v. same_rank f v ∙ fresh_loose 4 v in
    let S = standing_same f (fresh_standing 4).long_note (fresh_standing 4).long_mark (fresh_standing 4) in
    rw met_held (hung_ready S met_among (λ v _. loose v) (hung 4 0 0 s S (omega arith) (loose 0) (λ p e. absurd (omega arith))))

-- A link told twice, either way round, is held once.
pub met_once : (build_links 2 2 (fresh 2) ((0, 1) ∷ (1, 0) ∷ [])).held ≡ (0, 1) ∷ []
unfolding pick between linked tally count table parent_of rank placed fresh put_held alone merged pieces_from pieces member size_of held_in hold fill hold_link build_link build_links
met_once = refl

-- With 0 placed and 1 under it, 2 notes 1, the deeper, also where 0 is told last.
pub met_deepest : note_of (build_links 3 1 (place 1 0 2 (place 0 0 1 (fresh 3))) ((1, 2) ∷ (0, 2) ∷ [])) 2 ≡ suc 1
unfolding pick rank note_of placed fresh place put_note better note_link build_link build_links
met_deepest = refl
