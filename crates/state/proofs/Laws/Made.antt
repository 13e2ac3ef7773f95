-- From the facts of the theory to the clauses of the test.
-- Assumes nothing.
use Prim.Native.Nat.{ℕ, suc, pred, ◌*◌, ◌<◌}
use Rattle.std.specs.Prelude.{◌&&◌, ◌||◌, T, ltb, leb}
use Rattle.std.proofs.Math.Bool.{not}
use Rattle.std.proofs.Math.Logic.{inl, inr}
use Rattle.std.proofs.Common.{arith, lt→ltb, eqb→eq}
use Rattle.std.proofs.Math.Decide.{ℕ_discrete}
use Rattle.std.proofs.Math.Dec.{eqb, le→leb, T_not, not_T}
use Rattle.base.specs.Truth.{and_intro, or_l, or_r, false_T, eq_to_eqb}
use Rattle.rules.specs.Search.{count, every}
use Rattle.rules.specs.Tables.{Tables, parent_of, rank, note_of, mark_of, placed, lev}
use Rattle.rules.specs.Building.{done}
use Rattle.rules.proofs.Laws.Search.{every_intro}
use Rattle.rules.proofs.Laws.Tables.{rested_note, rested_mark}
use Rattle.state.specs.Test.{entries_most, is_building, is_built, is_reading, is_read, asked, stage_fits, stands_at, forest_fits, ends_fit, none_twice, held_fits, note_fits, clear_at, low_fits, notes_fit, counts_fit, read_fits, mark_fits, rest_agrees}
use Rattle.state.proofs.Laws.Held.{asked_make, not_placed, loose_not, once_made, quota_made}
use Rattle.state.specs.declared.State.{State}
use Rattle.state.proofs.Laws.Agrees.{Agrees, Clauses, orphans}

-- From the facts to the clauses.
module _ (s : State) (t : Tables) (a : Agrees s t) where
  stage_made : T (stage_fits s t)
  unfolding stage_fits done
  stage_made =
      and_intro (asked (is_building s.stage) (not (done s.n t))) _
      (asked_make (is_building s.stage) _ (λ b. not_T (done s.n t) (a.unfinished b)))
      (asked_make (not (is_building s.stage)) (done s.n t && eqb s.held 0) (λ b.
      let z = T_not (is_building s.stage) b in
      and_intro (done s.n t) _ (every_intro (placed t) s.n (a.all_placed z)) (eq_to_eqb s.held 0 (a.none_held z))))

  forest_made : T (forest_fits s.n t)
  unfolding forest_fits stands_at
  forest_made =
      every_intro (λ v. asked (placed t v) (stands_at s.n t v)) s.n (λ v l. asked_make (placed t v) (stands_at s.n t v) (λ p.
      let root = eqb (parent_of t v) v && eqb (rank t v) 1 in
      elim (a.standing.stands v l p) [
        | inl (e, r) ↦ or_l root _ (and_intro (eqb (parent_of t v) v) _ (eq_to_eqb (parent_of t v) v e) (eq_to_eqb (rank t v) 1 r))
        | inr (q, u, r) ↦
            or_r root _ (and_intro (ltb (parent_of t v) s.n) _ (lt→ltb (parent_of t v) s.n q)
            (and_intro (placed t (parent_of t v)) _ u (eq_to_eqb (rank t v) (suc (rank t (parent_of t v))) r)))
      ]))

  held_made : T (held_fits s.n s.k t)
  unfolding held_fits
  held_made =
      and_intro (ends_fit s.n t t.held) _ a.ends_fit_lem
      (and_intro (none_twice t.held) _ (once_made t.held a.holding.once) (quota_made s.n s.k t.held a.holding.quota))

  counts_made : T (counts_fit s t)
  unfolding counts_fit
  counts_made = and_intro (leb s.entries entries_most) _ (le→leb s.entries entries_most a.entries_few) (le→leb s.passes (suc (count (placed t) s.n)) a.passes_few)

  read_made : T (read_fits s t)
  unfolding read_fits
  read_made = asked_make (is_read s.stage) _ a.whole

  note_made : T (is_building s.stage) → (v : ℕ) → T (note_fits s.n t v)
  unfolding note_fits
  note_made b v =
      let none = eqb (note_of t v) 0 in
      let q = pred (note_of t v) in
      elim (ℕ_discrete (note_of t v) 0) [
        | yes e ↦ or_l none _ (eq_to_eqb (note_of t v) 0 e)
        | no d ↦
            let (i, j, l, p) = a.noting b v q (omega arith) in
            or_r none _ (and_intro (not (placed t v)) _ (loose_not t v l) (and_intro (ltb q s.n) _ (lt→ltb q s.n j) p))
      ]

  notes_made : T (notes_fit s t)
  unfolding notes_fit clear_at low_fits
  notes_made =
      and_intro (asked (is_building s.stage) (every (note_fits s.n t) s.n)) _
      (asked_make (is_building s.stage) (every (note_fits s.n t) s.n) (λ b. every_intro (note_fits s.n t) s.n (λ v l. note_made b v)))
      (and_intro (asked (is_built s.stage) (every (clear_at t) s.n && eqb s.entries 0)) _
      (asked_make (is_built s.stage) (every (clear_at t) s.n && eqb s.entries 0) (λ b.
      and_intro (every (clear_at t) s.n) _
      (every_intro (clear_at t) s.n (λ v l. and_intro (eqb (note_of t v) 0) _ (eq_to_eqb (note_of t v) 0 (rested_note (a.rested b) v)) (eq_to_eqb (mark_of t v) 0 (rested_mark (a.rested b) v))))
      (eq_to_eqb s.entries 0 (a.no_entries b))))
      (asked_make (is_reading s.stage || is_read s.stage) (every (low_fits t) s.n) (λ b. every_intro (low_fits t) s.n (λ v l. le→leb (note_of t v) (lev t v) (a.low b v l)))))

  mark_made : (v : ℕ) → v < s.n → T (mark_fits s t v)
  unfolding mark_fits
  mark_made v l =
      let none = eqb (mark_of t v) 0 in
      and_intro (leb (mark_of t v) 1) _ (le→leb (mark_of t v) 1 (a.mark_bit v l))
      (and_intro (asked (is_building s.stage) (none || not (placed t v))) _
      (asked_make (is_building s.stage) (none || not (placed t v)) (λ b. elim (a.mark_loose b v l) [
        | inl e ↦ or_l none _ (eq_to_eqb (mark_of t v) 0 e)
        | inr e ↦ or_r none _ (loose_not t v e)
      ]))
      (asked_make (is_reading s.stage || is_read s.stage) (none || not (eqb (parent_of t v) v)) (λ b. elim (a.mark_child b v l) [
        | inl e ↦ or_l none _ (eq_to_eqb (mark_of t v) 0 e)
        | inr e ↦ or_r none _ (not_T (eqb (parent_of t v) v) (λ x. e (eqb→eq (parent_of t v) v x)))
      ])))

  rest_made : T (rest_agrees s t)
  unfolding rest_agrees
  rest_made =
      and_intro (every (orphans t) s.n) _
      (every_intro (orphans t) s.n (λ v l. asked_make (not (placed t v)) (eqb (parent_of t v) 0) (λ b. eq_to_eqb (parent_of t v) 0 (a.loose_parent v l (not_placed t v b)))))
      (and_intro (every (mark_fits s t) s.n) _ (every_intro (mark_fits s t) s.n mark_made)
      (and_intro (asked (not (is_reading s.stage)) (not s.crossed)) _
      (asked_make (not (is_reading s.stage)) (not s.crossed) (λ b. not_T s.crossed (false_T s.crossed (a.uncrossed (T_not (is_reading s.stage) b)))))
      (le→leb s.held (s.k * s.n) a.held_room)))

  pub clauses_made : Clauses s t
  clauses_made = record { stage = stage_made; forest = forest_made; held = held_made; notes = notes_made; counts = counts_made; read = read_made; rest = rest_made }
