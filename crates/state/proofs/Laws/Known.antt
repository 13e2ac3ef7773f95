-- From the clauses of the test to the facts of the theory.
-- Assumes nothing.
use Prim.Native.Nat.{ℕ, suc, pred, ◌*◌, ◌≤◌, ◌<◌}
use Rattle.std.specs.Prelude.{◌≡◌, false, ◌&&◌, ◌||◌, ◌⊎◌, ◌≢◌, ltb, leb, length}
use Rattle.std.proofs.Math.Path.{sym, subst}
use Rattle.std.proofs.Common.{◌∙◌}
use Rattle.std.proofs.Math.Bool.{not}
use Rattle.std.proofs.Math.Logic.{inl, inr}
use native.Mathlib.Omega.{arith}
use Rattle.std.proofs.Math.Decide.{dec_lt}
use Rattle.std.proofs.Math.Dec.{T, eqb, ltb→lt, leb→le, eqb→eq, T_not, not_T}
use Rattle.std.proofs.Math.ListN.{get_or-eq_default}
use Rattle.base.specs.Truth.{and_l, and_r, or_l, or_r, or_cases, T_false, eq_to_eqb}
use Rattle.rules.specs.Search.{count, every}
use Rattle.rules.specs.Tables.{Tables, parent_of, rank, note_of, mark_of, placed, lev}
use Rattle.rules.specs.Building.{done}
use Rattle.rules.specs.Reading.{accepted}
use Rattle.rules.proofs.Laws.Facts.{Rested, Loose, Holding}
use Rattle.rules.proofs.Laws.Search.{every_at}
use Rattle.state.specs.Test.{entries_most, is_building, is_built, is_reading, is_read, asked, stage_fits, stands_at, forest_fits, ends_fit, none_twice, held_fits, note_fits, clear_at, low_fits, notes_fit, counts_fit, read_fits, mark_fits, rest_agrees}
use Rattle.state.proofs.Laws.Lists.{length_none, all_none}
use Rattle.state.proofs.Laws.Held.{asked_use, not_placed, loose_not, ends_known, once_known, quota_known}
use Rattle.state.specs.declared.State.{State}
use Rattle.state.specs.declared.Stage.{Stage}
use Rattle.state.specs.declared.Stage.TheVariants.{Building, Built, Reading, Read}
use Rattle.state.proofs.Laws.Agrees.{Agrees, Clauses, orphans}

-- Built is neither Building nor Reading.
built_alone : (g : Stage) → T (is_built g) → T (is_building g || is_reading g) → ⊥
built_alone Building b x = b
built_alone Built b x = x
built_alone Reading b x = b
built_alone Read b x = b

-- Where one fragment stands.
pub stands_at_lem : (n : ℕ) (t : Tables) (v : ℕ) → T (stands_at n t v) → ((parent_of t v ≡ v) × (rank t v ≡ 1)) ⊎ ((parent_of t v < n) × T (placed t (parent_of t v)) × (rank t v ≡ suc (rank t (parent_of t v))))
unfolding stands_at
stands_at_lem n t v z =
    let root = eqb (parent_of t v) v in
    let in_range = ltb (parent_of t v) n in
    let under = placed t (parent_of t v) in
    elim (or_cases (root && eqb (rank t v) 1) _ z) [
      | inl x ↦ inl (eqb→eq (parent_of t v) v (and_l root _ x), eqb→eq (rank t v) 1 (and_r root _ x))
      | inr x ↦
          let y = and_r in_range _ x in
          inr (ltb→lt (parent_of t v) n (and_l in_range _ x), and_l under _ y, eqb→eq (rank t v) (suc (rank t (parent_of t v))) (and_r under _ y))
    ]

-- From the clauses to the facts.
module _ (s : State) (t : Tables) (c : Clauses s t) where
  stands_known : (v : ℕ) → v < s.n → T (placed t v) → ((parent_of t v ≡ v) × (rank t v ≡ 1)) ⊎ ((parent_of t v < s.n) × T (placed t (parent_of t v)) × (rank t v ≡ suc (rank t (parent_of t v))))
  unfolding forest_fits
  stands_known v l p = stands_at_lem s.n t v (asked_use (placed t v) (stands_at s.n t v) (every_at _ s.n c.forest v l) p)

  ends_clause : T (ends_fit s.n t t.held)
  unfolding held_fits
  ends_clause = and_l (ends_fit s.n t t.held) _ c.held

  holding_known : 1 ≤ s.k → Holding s.n s.k t
  unfolding held_fits
  holding_known h =
      let ends = ends_known s.n t t.held ends_clause in
      let x = and_r (ends_fit s.n t t.held) _ c.held in
      record {
        ends = ends;
        once = once_known t.held (and_l (none_twice t.held) _ x);
        quota = quota_known s.n s.k t.held h (λ u v l. ((ends u v l).0, (ends u v l).1)) (and_r (none_twice t.held) _ x);
      }

  counts_known : (s.entries ≤ entries_most) × (s.passes ≤ suc (count (placed t) s.n))
  unfolding counts_fit
  counts_known = (
    leb→le s.entries entries_most (and_l (leb s.entries entries_most) _ c.counts),
    leb→le s.passes (suc (count (placed t) s.n)) (and_r (leb s.entries entries_most) _ c.counts),
  )

  unfinished_known : T (is_building s.stage) → T (done s.n t) → ⊥
  unfolding stage_fits
  unfinished_known b = T_not (done s.n t) (asked_use (is_building s.stage) (not (done s.n t)) (and_l (asked (is_building s.stage) (not (done s.n t))) _ c.stage) b)

  settled_known : (T (is_building s.stage) → ⊥) → T (done s.n t) × (s.held ≡ 0)
  unfolding stage_fits
  settled_known b =
      let x = asked_use (not (is_building s.stage)) _ (and_r (asked (is_building s.stage) (not (done s.n t))) _ c.stage) (not_T (is_building s.stage) b) in
      (and_l (done s.n t) _ x, eqb→eq s.held 0 (and_r (done s.n t) _ x))

  notes_1 : T (asked (is_building s.stage) (every (note_fits s.n t) s.n))
  unfolding notes_fit
  notes_1 = and_l (asked (is_building s.stage) (every (note_fits s.n t) s.n)) _ c.notes

  notes_2 : T (asked (is_built s.stage) (every (clear_at t) s.n && eqb s.entries 0) && asked (is_reading s.stage || is_read s.stage) (every (low_fits t) s.n))
  unfolding notes_fit
  notes_2 = and_r (asked (is_building s.stage) (every (note_fits s.n t) s.n)) _ c.notes

  note_known : T (is_building s.stage) → (u p : ℕ) → u < s.n → note_of t u ≡ suc p → (u < s.n) × (p < s.n) × Loose t u × T (placed t p)
  unfolding note_fits
  note_known b u p l e =
      elim (or_cases (eqb (note_of t u) 0) _ (every_at (note_fits s.n t) s.n (asked_use (is_building s.stage) _ notes_1 b) u l)) [
        | inl x ↦ absurd (omega (arith, eqb→eq (note_of t u) 0 x))
        | inr x ↦
            let q : pred (note_of t u) ≡ p = omega arith in
            let y = and_r (not (placed t u)) _ x in (
              l,
              omega (arith, ltb→lt (pred (note_of t u)) s.n (and_l (ltb (pred (note_of t u)) s.n) _ y)),
              not_placed t u (and_l (not (placed t u)) _ x),
              subst (λ (w : ℕ). T (placed t w)) q (and_r (ltb (pred (note_of t u)) s.n) _ y),
            )
      ]

  clear_known : T (is_built s.stage) → ((v : ℕ) → v < s.n → (note_of t v ≡ 0) × (mark_of t v ≡ 0)) × (s.entries ≡ 0)
  unfolding clear_at
  clear_known b =
      let x = asked_use (is_built s.stage) _ (and_l (asked (is_built s.stage) (every (clear_at t) s.n && eqb s.entries 0)) _ notes_2) b in (
        λ v l. let y = every_at (clear_at t) s.n (and_l (every (clear_at t) s.n) _ x) v l in
            (eqb→eq (note_of t v) 0 (and_l (eqb (note_of t v) 0) _ y), eqb→eq (mark_of t v) 0 (and_r (eqb (note_of t v) 0) _ y)),
        eqb→eq s.entries 0 (and_r (every (clear_at t) s.n) _ x),
      )

  low_known : T (is_reading s.stage || is_read s.stage) → (v : ℕ) → v < s.n → note_of t v ≤ lev t v
  unfolding low_fits
  low_known b v l =
      leb→le (note_of t v) (lev t v)
      (every_at (low_fits t) s.n
      (asked_use (is_reading s.stage || is_read s.stage) _
      (and_r (asked (is_built s.stage) (every (clear_at t) s.n && eqb s.entries 0)) _ notes_2) b) v l)

  whole_known : T (is_read s.stage) → T (accepted s.n t)
  unfolding read_fits
  whole_known b = asked_use (is_read s.stage) (accepted s.n t) c.read b

  loose_known : (v : ℕ) → v < s.n → Loose t v → parent_of t v ≡ 0
  unfolding rest_agrees
  loose_known v l e = eqb→eq (parent_of t v) 0 (asked_use (not (placed t v)) _ (every_at _ s.n (and_l (every (orphans t) s.n) _ c.rest) v l) (loose_not t v e))

  rest_2 : T (every (mark_fits s t) s.n && (asked (not (is_reading s.stage)) (not s.crossed) && leb s.held (s.k * s.n)))
  unfolding rest_agrees
  rest_2 = and_r (every (orphans t) s.n) _ c.rest

  rest_3 : T (asked (not (is_reading s.stage)) (not s.crossed) && leb s.held (s.k * s.n))
  rest_3 = and_r (every (mark_fits s t) s.n) _ rest_2

  uncrossed_known : (T (is_reading s.stage) → ⊥) → s.crossed ≡ false
  uncrossed_known b =
      T_false s.crossed (T_not s.crossed
      (asked_use (not (is_reading s.stage)) _ (and_l (asked (not (is_reading s.stage)) (not s.crossed)) _ rest_3) (not_T (is_reading s.stage) b)))

  pub room_known : s.held ≤ s.k * s.n
  room_known = leb→le s.held (s.k * s.n) (and_r (asked (not (is_reading s.stage)) (not s.crossed)) _ rest_3)

  mark_known : (v : ℕ) → v < s.n → (mark_of t v ≤ 1) × (T (is_building s.stage) → (mark_of t v ≡ 0) ⊎ Loose t v)
      × (T (is_reading s.stage || is_read s.stage) → (mark_of t v ≡ 0) ⊎ (parent_of t v ≢ v))
  unfolding mark_fits
  mark_known v l =
      let none = eqb (mark_of t v) 0 in
      let root = eqb (parent_of t v) v in
      let x = every_at (mark_fits s t) s.n (and_l (every (mark_fits s t) s.n) _ rest_2) v l in
      let y = and_r (leb (mark_of t v) 1) _ x in
      let in_building = asked (is_building s.stage) (none || not (placed t v)) in (
        leb→le (mark_of t v) 1 (and_l (leb (mark_of t v) 1) _ x),
        (λ b. elim (or_cases none _ (asked_use (is_building s.stage) _ (and_l in_building _ y) b)) [
          | inl z ↦ inl (eqb→eq (mark_of t v) 0 z)
          | inr z ↦ inr (not_placed t v z)
        ]),
        (λ b. elim (or_cases none _ (asked_use (is_reading s.stage || is_read s.stage) _ (and_r in_building _ y) b)) [
          | inl z ↦ inl (eqb→eq (mark_of t v) 0 z)
          | inr z ↦ inr (λ e. T_not root z (eq_to_eqb (parent_of t v) v e))
        ]),
      )

  noting_known : length t.note ≡ s.n → T (is_building s.stage) → (u p : ℕ) → note_of t u ≡ suc p → (u < s.n) × (p < s.n) × Loose t u × T (placed t p)
  unfolding note_of
  noting_known o b u p e =
      elim (dec_lt u s.n) [
        | yes l ↦ note_known b u p l e
        | no l ↦ absurd (omega (arith, get_or-eq_default t.note 0 {n = u} (omega arith)))
      ]

  rested_known : length t.note ≡ s.n → length t.mark ≡ s.n → s.held ≡ length t.held → s.crossed ≡ t.crossed → T (is_built s.stage) → Rested s.n t
  unfolding note_of mark_of
  rested_known o m e x b =
      let clear = (clear_known b).0 in
      record {
        no_note = all_none t.note s.n o (λ v l. (clear v l).0);
        no_mark = all_none t.mark s.n m (λ v l. (clear v l).1);
        no_held = length_none t.held (sym e ∙ (settled_known (λ y. built_alone s.stage b (or_l (is_building s.stage) (is_reading s.stage) y))).1);
        no_cross = sym x ∙ uncrossed_known (λ y. built_alone s.stage b (or_r (is_building s.stage) (is_reading s.stage) y));
      }

  -- All facts together, of tables as long as they should be.
  pub agrees_known : 1 ≤ s.k → length t.parent ≡ s.n → length t.level ≡ s.n → length t.note ≡ s.n → length t.mark ≡ s.n
      → s.held ≡ length t.held → s.crossed ≡ t.crossed → Agrees s t
  unfolding done
  agrees_known k p l o m e x = record {
    standing = record { long_parent = p; long_level = l; long_note = o; long_mark = m; stands = stands_known };
    as_many = e;
    as_crossed = x;
    ends_fit_lem = ends_clause;
    holding = holding_known k;
    held_room = room_known;
    entries_few = counts_known.0;
    passes_few = counts_known.1;
    mark_bit = λ v h. (mark_known v h).0;
    loose_parent = loose_known;
    unfinished = unfinished_known;
    noting = noting_known o;
    mark_loose = λ b v h. (mark_known v h).1 b;
    all_placed = λ b v h. every_at (placed t) s.n (settled_known b).0 v h;
    none_held = λ b. (settled_known b).1;
    rested = rested_known o m e x;
    no_entries = λ b. (clear_known b).1;
    low = low_known;
    mark_child = λ b v h. (mark_known v h).2 b;
    whole = whole_known;
    uncrossed = uncrossed_known;
  }
