-- What the clauses of the test but that of the held links ask is what is computed; and what is left are the held links.
-- Assumes nothing.
use Rattle.std.specs.Prelude.{ℕ, zero, suc, ◌+◌, ◌-◌, ◌*◌, ◌≤◌, ◌<◌, ◌≡◌, Bool, ◌&&◌, ◌||◌, List, [], ◌∷◌, ◌⊎◌, ◌≢◌, leb, ltb, take, drop}
use Rattle.std.proofs.Math.Path.{refl, ap, subst}
use Rattle.std.proofs.Common.{sym, ◌∙◌, le→leb, length-take, drop_of_length-le}
use Rattle.std.proofs.Math.Bool.{true, false, not}
use Rattle.std.proofs.Math.Logic.{inl, inr}
use native.Mathlib.Omega.{arith}
use Rattle.std.proofs.Math.Decide.{ℕ_discrete, dec_lt}
use Rattle.std.proofs.Math.Dec.{T, eqb, eqb→eq, leb→le, lt→ltb, ltb→lt, T_not, not_T}
use Rattle.base.specs.Pick.{pick_true, pick_false}
use Rattle.base.specs.Truth.{and_l, and_r, and_intro, or_l, or_r, or_cases, T_dec, T_true, T_false, true_T, false_T, T_ext, eq_to_eqb}
use Rattle.base.specs.Link.{Link}
use Rattle.rules.specs.Search.{count, every}
use Rattle.rules.specs.Tables.{Tables, parent_of, rank, note_of, mark_of, placed, par, lev}
use Rattle.rules.specs.Building.{pieces, member, size_of, held_in, done}
use Rattle.rules.specs.Reading.{seen, accepted}
use Rattle.rules.proofs.Laws.Search.{every_at, every_intro, count_yes}
use Rattle.rules.proofs.Laws.Split.{tally_nil}
use Rattle.rules.proofs.Laws.Ceiling.{count_short}
use Rattle.rules.specs.Forest.{Levels}
use Rattle.rules.proofs.Laws.Tables.{par_placed, levels_stand}
use Rattle.state.specs.Layout.{words, stored, numbers, stored_in, tables_in, forest_in, held_links}
use Rattle.state.specs.Test.{entries_most, is_building, is_built, is_reading, is_read, is_numbered, asked, all_zero, stage_fits, stands_at, forest_fits, ends_fit, none_twice, quota_fits, held_fits, note_fits, clear_at, low_fits, notes_fit, rest_zero, counts_fit, read_fits, mark_fits, rest_agrees, numbers_fit, fits, sound}
use Rattle.state.proofs.Laws.Lists.{drop_take}
use Rattle.state.proofs.Laws.Tests.{and_true_right}
use Rattle.state.proofs.Laws.Held.{asked_use, asked_make}
use Rattle.state.proofs.Laws.Agrees.{orphans}
use Rattle.state.proofs.Laws.Known.{stands_at_lem}
use Rattle.state.specs.declared.State.{State}
use Rattle.state.specs.declared.Stage.{Stage}
use Rattle.state.specs.declared.Stage.TheVariants.{Building, Built, Reading, Read}
use Rattle.testing.specs.Test.{fits_but_links, sound_but_links, links_fit, mark_at, waits_at, noted_at, fragment_fits, counts_hold, stage_holds, under_at, comes_at, rises_to, root_fits, child_fits, words_fit, rest_fits}
use Rattle.testing.specs.Laws.Numbers.{words_are}
use Rattle.testing.specs.Laws.Fragment.{mark_root, mark_none, mark_some}

-- The marks of a reading pass.
module _ (read : Bool) (t : Tables) (v : ℕ) (p : T (placed t v)) where
  seen_known : T (seen t v) → (parent_of t v ≡ v) ⊎ (0 < mark_of t v)
  unfolding seen
  seen_known x = elim (or_cases (eqb (par t v) v) (ltb 0 (mark_of t v)) x) [
    | inl e ↦ inl (sym (par_placed t v p) ∙ eqb→eq (par t v) v e)
    | inr l ↦ inr (ltb→lt 0 (mark_of t v) l)
  ]

  seen_made : (parent_of t v ≡ v) ⊎ (0 < mark_of t v) → T (seen t v)
  unfolding seen
  seen_made (inl e) = or_l (eqb (par t v) v) (ltb 0 (mark_of t v)) (eq_to_eqb (par t v) v (par_placed t v p ∙ e))
  seen_made (inr l) = or_r (eqb (par t v) v) (ltb 0 (mark_of t v)) (lt→ltb 0 (mark_of t v) l)

  mark_made : mark_of t v ≤ 1 → (mark_of t v ≡ 0) ⊎ (parent_of t v ≢ v) → (T read → T (seen t v)) → T (mark_at read t v)
  mark_made l c s = elim (ℕ_discrete (parent_of t v) v) [
    | yes e ↦ subst T (mark_root read t v _ _ refl refl e) (eq_to_eqb (mark_of t v) 0 (elim c [ inl z ↦ z | inr d ↦ absurd (d e) ]))
    | no d ↦ elim (ℕ_discrete (mark_of t v) 0) [
      | yes z ↦ subst T (mark_none read t v _ _ refl refl d z) (not_T read (λ r. elim (seen_known (s r)) [ inl e ↦ d e | inr g ↦ omega arith ]))
      | no z ↦ subst T (mark_some read t v _ _ refl refl d z) (eq_to_eqb (mark_of t v) 1 (omega arith))
    ]
  ]

  mark_used : T (mark_at read t v) → (mark_of t v ≤ 1) × ((mark_of t v ≡ 0) ⊎ (parent_of t v ≢ v)) × (T read → T (seen t v))
  mark_used x = elim (ℕ_discrete (parent_of t v) v) [
    | yes e ↦
        let z = eqb→eq (mark_of t v) 0 (subst T (sym (mark_root read t v _ _ refl refl e)) x) in
        (omega arith, inl z, λ r. seen_made (inl e))
    | no d ↦ elim (ℕ_discrete (mark_of t v) 0) [
      | yes z ↦ (omega arith, inl z, λ r. absurd (T_not read (subst T (sym (mark_none read t v _ _ refl refl d z)) x) r))
      | no z ↦
          let o = eqb→eq (mark_of t v) 1 (subst T (sym (mark_some read t v _ _ refl refl d z)) x) in
          (omega arith, inr d, λ r. seen_made (inr (omega arith)))
    ]
  ]

-- The stages.
reads_alone : (g : Stage) → T (is_reading g || is_read g) → T (is_building g || is_built g) → ⊥
reads_alone Building r b = r
reads_alone Built r b = r
reads_alone Reading r b = b
reads_alone Read r b = b

one_stage : (g : Stage) → T (is_building g) → T (is_built g) → ⊥
one_stage Building b x = x
one_stage Built b x = b
one_stage Reading b x = b
one_stage Read b x = b

once : (g : Stage) → T (is_reading g) → T (is_read g) → ⊥
once Building e x = e
once Built e x = e
once Reading e x = x
once Read e x = e

not_reads : (g : Stage) → (T (is_reading g || is_read g) → ⊥) → (T (is_building g) → ⊥) → T (is_built g)
not_reads Building r b = b tt
not_reads Built r b = tt
not_reads Reading r b = r tt
not_reads Read r b = r tt

-- What the clauses ask of one fragment.
record At (g : Stage) (n : ℕ) (t : Tables) (v : ℕ) : Type 0 where
  settled : (T (is_building g) → ⊥) → T (placed t v)
  stands : T (placed t v) → T (stands_at n t v)
  noting : T (is_building g) → T (note_fits n t v)
  clear : T (is_built g) → T (clear_at t v)
  low : T (is_reading g || is_read g) → T (low_fits t v)
  mark_bit : mark_of t v ≤ 1
  mark_loose : T (is_building g) → (mark_of t v ≡ 0) ⊎ (T (placed t v) → ⊥)
  mark_child : T (is_reading g || is_read g) → (mark_of t v ≡ 0) ⊎ (parent_of t v ≢ v)
  orphan : (T (placed t v) → ⊥) → parent_of t v ≡ 0
  is_seen : T (is_read g) → T (seen t v)

module _ (g : Stage) (n : ℕ) (t : Tables) (v : ℕ) where
  abbrev reads : Bool
  reads = is_reading g || is_read g

  when_placed : T (placed t v) → fragment_fits g n t v ≡ stands_at n t v && noted_at g t v
  unfolding fragment_fits
  when_placed p = rw (T_true (placed t v) p, pick_true)

  when_loose : (T (placed t v) → ⊥) → fragment_fits g n t v ≡ is_building g && waits_at n t v
  unfolding fragment_fits
  when_loose p = rw (T_false (placed t v) p, pick_false)

  when_reads : T reads → noted_at g t v ≡ low_fits t v && mark_at (is_read g) t v
  unfolding noted_at
  when_reads r = rw (T_true reads r, pick_true)

  when_clear : (T reads → ⊥) → noted_at g t v ≡ clear_at t v
  unfolding noted_at
  when_clear r = rw (T_false reads r, pick_false)

  clear_parts : T (clear_at t v) → (note_of t v ≡ 0) × (mark_of t v ≡ 0)
  unfolding clear_at
  clear_parts x = (eqb→eq (note_of t v) 0 (and_l (eqb (note_of t v) 0) _ x), eqb→eq (mark_of t v) 0 (and_r (eqb (note_of t v) 0) _ x))

  at_clear : T (placed t v) → T (stands_at n t v) → (T reads → ⊥) → T (clear_at t v) → At g n t v
  unfolding note_fits
  at_clear p s r x =
      let (o, m) = clear_parts x in
      record {
        settled = λ b. p;
        stands = λ y. s;
        noting = λ b. or_l (eqb (note_of t v) 0) _ (eq_to_eqb (note_of t v) 0 o);
        clear = λ b. x;
        low = λ y. absurd (r y);
        mark_bit = omega arith;
        mark_loose = λ b. inl m;
        mark_child = λ y. inl m;
        orphan = λ y. absurd (y p);
        is_seen = λ y. absurd (r (or_r (is_reading g) _ y));
      }

  at_read : T (placed t v) → T (stands_at n t v) → T reads → T (low_fits t v) → T (mark_at (is_read g) t v) → At g n t v
  at_read p s r l x =
      let m = mark_used (is_read g) t v p x in
      record {
        settled = λ b. p;
        stands = λ y. s;
        noting = λ b. absurd (reads_alone g r (or_l (is_building g) (is_built g) b));
        clear = λ b. absurd (reads_alone g r (or_r (is_building g) (is_built g) b));
        low = λ y. l;
        mark_bit = m.0;
        mark_loose = λ b. absurd (reads_alone g r (or_l (is_building g) (is_built g) b));
        mark_child = λ y. m.1;
        orphan = λ y. absurd (y p);
        is_seen = m.2;
      }

  at_loose : (T (placed t v) → ⊥) → T (is_building g) → T (waits_at n t v) → At g n t v
  unfolding waits_at note_fits
  at_loose p b x =
      let y = and_r (eqb (parent_of t v) 0) _ x in
      let z = and_r (leb (mark_of t v) 1) _ y in
      let none = eqb (note_of t v) 0 in
      let other : T reads → ⊥ = λ r. reads_alone g r (or_l (is_building g) (is_built g) b) in
      record {
        settled = λ c. absurd (c b);
        stands = λ q. absurd (p q);
        noting = λ c. elim (or_cases none _ z) [ inl w ↦ or_l none _ w | inr w ↦ or_r none _ (and_intro (not (placed t v)) _ (not_T (placed t v) p) w) ];
        clear = λ c. absurd (one_stage g b c);
        low = λ r. absurd (other r);
        mark_bit = leb→le (mark_of t v) 1 (and_l (leb (mark_of t v) 1) _ y);
        mark_loose = λ c. inr p;
        mark_child = λ r. absurd (other r);
        orphan = λ q. eqb→eq (parent_of t v) 0 (and_l (eqb (parent_of t v) 0) _ x);
        is_seen = λ r. absurd (other (or_r (is_reading g) _ r));
      }

  at_known : T (fragment_fits g n t v) → At g n t v
  at_known x = elim (T_dec (placed t v)) [
    | yes p ↦
        let y = rw (when_placed p) at x in
        let s = and_l (stands_at n t v) _ y in
        let z = and_r (stands_at n t v) _ y in
        elim (T_dec reads) [
          | yes r ↦ let w = rw (when_reads r) at z in at_read p s r (and_l (low_fits t v) _ w) (and_r (low_fits t v) _ w)
          | no r ↦ at_clear p s r (rw (when_clear r) at z)
        ]
    | no p ↦ let y = rw (when_loose p) at x in at_loose p (and_l (is_building g) _ y) (and_r (is_building g) _ y)
  ]

  clear_made : At g n t v → T (placed t v) → (T reads → ⊥) → T (clear_at t v)
  unfolding clear_at note_fits
  clear_made a p r = elim (T_dec (is_building g)) [
    | yes b ↦
        and_intro (eqb (note_of t v) 0) (eqb (mark_of t v) 0)
        (elim (or_cases (eqb (note_of t v) 0) _ (a.noting b)) [ inl z ↦ z | inr z ↦ absurd (T_not (placed t v) (and_l (not (placed t v)) _ z) p) ])
        (elim (a.mark_loose b) [ inl z ↦ eq_to_eqb (mark_of t v) 0 z | inr z ↦ absurd (z p) ])
    | no b ↦ a.clear (not_reads g r b)
  ]

  loose_made : At g n t v → (T (placed t v) → ⊥) → T (is_building g) → T (waits_at n t v)
  unfolding waits_at note_fits
  loose_made a p b =
      let none = eqb (note_of t v) 0 in
      and_intro (eqb (parent_of t v) 0) _ (eq_to_eqb (parent_of t v) 0 (a.orphan p))
      (and_intro (leb (mark_of t v) 1) _ (le→leb (mark_of t v) 1 a.mark_bit)
      (elim (or_cases none _ (a.noting b)) [ inl z ↦ or_l none _ z | inr z ↦ or_r none _ (and_r (not (placed t v)) _ z) ]))

  at_made : At g n t v → T (fragment_fits g n t v)
  at_made a = elim (T_dec (placed t v)) [
    | yes p ↦ rw (when_placed p) (and_intro (stands_at n t v) (noted_at g t v) (a.stands p) (elim (T_dec reads) [
      | yes r ↦ rw (when_reads r) (and_intro (low_fits t v) _ (a.low r) (mark_made (is_read g) t v p a.mark_bit (a.mark_child r) a.is_seen))
      | no r ↦ rw (when_clear r) (clear_made a p r)
    ]))
    | no p ↦ elim (T_dec (is_building g)) [
      | yes b ↦ rw (when_loose p) (and_intro (is_building g) _ b (loose_made a p b))
      | no b ↦ absurd (p (a.settled b))
    ]
  ]

-- All are placed exactly where as many are placed as there are.
count_every : (p : ℕ → Bool) (n : ℕ) → T (every p n) → count p n ≡ n
unfolding count
count_every p zero x = refl
count_every p (suc n) x = count_yes p n (every_at p (suc n) x n (omega arith)) ∙ ap suc (count_every p n (every_intro p n (λ k l. every_at p (suc n) x k (omega arith))))

-- The clauses together and what is computed.
module _ (s : State) (t : Tables) where
  abbrev g : Stage
  g = s.stage

  abbrev m : ℕ
  m = count (placed t) s.n

  -- The clauses, one by one.
  record Kept : Type 0 where
    stage : T (stage_fits s t)
    forest : T (forest_fits s.n t)
    notes : T (notes_fit s t)
    counts : T (counts_fit s t)
    read : T (read_fits s t)
    rest : T (rest_agrees s t)

  kept_known : (f h : List ℕ) → T (fits_but_links s t f h) → Kept × T (rest_zero s f h) × T (numbers_fit s t f)
  unfolding fits_but_links
  kept_known f h x =
      let x2 = and_r (stage_fits s t) _ x in
      let x3 = and_r (forest_fits s.n t) _ x2 in
      let x4 = and_r (notes_fit s t) _ x3 in
      let x5 = and_r (rest_zero s f h) _ x4 in
      let x6 = and_r (counts_fit s t) _ x5 in
      let x7 = and_r (read_fits s t) _ x6 in (
        record {
          stage = and_l (stage_fits s t) _ x;
          forest = and_l (forest_fits s.n t) _ x2;
          notes = and_l (notes_fit s t) _ x3;
          counts = and_l (counts_fit s t) _ x5;
          read = and_l (read_fits s t) _ x6;
          rest = and_l (rest_agrees s t) _ x7;
        },
        and_l (rest_zero s f h) _ x4,
        and_r (rest_agrees s t) _ x7,
      )

  kept_made : (f h : List ℕ) → Kept → T (rest_zero s f h) → T (numbers_fit s t f) → T (fits_but_links s t f h)
  unfolding fits_but_links
  kept_made f h c z x =
      and_intro (stage_fits s t) _ c.stage
      (and_intro (forest_fits s.n t) _ c.forest
      (and_intro (notes_fit s t) _ c.notes
      (and_intro (rest_zero s f h) _ z
      (and_intro (counts_fit s t) _ c.counts
      (and_intro (read_fits s t) _ c.read
      (and_intro (rest_agrees s t) _ c.rest x))))))

  -- From the clauses to what is computed.
  module _ (c : Kept) where
    stage_1 : T (asked (is_building g) (not (done s.n t)))
    unfolding stage_fits
    stage_1 = and_l (asked (is_building g) (not (done s.n t))) _ c.stage

    stage_2 : T (asked (not (is_building g)) (done s.n t && eqb s.held 0))
    unfolding stage_fits
    stage_2 = and_r (asked (is_building g) (not (done s.n t))) _ c.stage

    settled_by : (T (is_building g) → ⊥) → T (done s.n t) × T (eqb s.held 0)
    settled_by b =
        let x = asked_use (not (is_building g)) (done s.n t && eqb s.held 0) stage_2 (not_T (is_building g) b) in
        (and_l (done s.n t) _ x, and_r (done s.n t) _ x)

    notes_1 : T (asked (is_building g) (every (note_fits s.n t) s.n))
    unfolding notes_fit
    notes_1 = and_l (asked (is_building g) (every (note_fits s.n t) s.n)) _ c.notes

    notes_2 : T (asked (is_built g) (every (clear_at t) s.n && eqb s.entries 0) && asked (is_reading g || is_read g) (every (low_fits t) s.n))
    unfolding notes_fit
    notes_2 = and_r (asked (is_building g) (every (note_fits s.n t) s.n)) _ c.notes

    cleared_by : T (is_built g) → T (every (clear_at t) s.n) × T (eqb s.entries 0)
    cleared_by b =
        let x = asked_use (is_built g) (every (clear_at t) s.n && eqb s.entries 0) (and_l (asked (is_built g) (every (clear_at t) s.n && eqb s.entries 0)) _ notes_2) b in
        (and_l (every (clear_at t) s.n) _ x, and_r (every (clear_at t) s.n) _ x)

    low_by : T (is_reading g || is_read g) → T (every (low_fits t) s.n)
    low_by r = asked_use (is_reading g || is_read g) (every (low_fits t) s.n) (and_r (asked (is_built g) (every (clear_at t) s.n && eqb s.entries 0)) _ notes_2) r

    rest_1 : T (every (orphans t) s.n)
    unfolding rest_agrees
    rest_1 = and_l (every (orphans t) s.n) _ c.rest

    rest_2 : T (every (mark_fits s t) s.n && (asked (not (is_reading g)) (not s.crossed) && leb s.held (s.k * s.n)))
    unfolding rest_agrees
    rest_2 = and_r (every (orphans t) s.n) _ c.rest

    rest_3 : T (asked (not (is_reading g)) (not s.crossed) && leb s.held (s.k * s.n))
    rest_3 = and_r (every (mark_fits s t) s.n) _ rest_2

    counts_pass : T (counts_hold s m)
    unfolding counts_hold counts_fit
    counts_pass =
        and_intro (leb s.passes (suc m)) _ (and_r (leb s.entries entries_most) _ c.counts)
        (and_intro (leb s.entries entries_most) _ (and_l (leb s.entries entries_most) _ c.counts)
        (and_r (asked (not (is_reading g)) (not s.crossed)) _ rest_3))

    stage_passes : T (stage_holds s m)
    unfolding stage_holds done
    stage_passes =
        and_intro (asked (is_building g) (ltb m s.n)) _
        (asked_make (is_building g) (ltb m s.n) (λ b. lt→ltb m s.n (count_short (placed t) s.n (T_not (every (placed t) s.n) (asked_use (is_building g) (not (every (placed t) s.n)) stage_1 b)))))
        (and_intro (asked (not (is_building g)) (eqb s.held 0)) _
        (asked_make (not (is_building g)) (eqb s.held 0) (λ b. (settled_by (T_not (is_building g) b)).1))
        (and_intro (asked (is_built g) (eqb s.entries 0)) _
        (asked_make (is_built g) (eqb s.entries 0) (λ b. (cleared_by b).1))
        (and_l (asked (not (is_reading g)) (not s.crossed)) _ rest_3)))

    at_passes : (v : ℕ) → v < s.n → At g s.n t v
    unfolding forest_fits done mark_fits read_fits accepted
    at_passes v l =
        let none = eqb (mark_of t v) 0 in
        let x = every_at (mark_fits s t) s.n (and_l (every (mark_fits s t) s.n) _ rest_2) v l in
        let y = and_r (leb (mark_of t v) 1) _ x in
        let loose = asked (is_building g) (none || not (placed t v)) in
        let child = none || not (eqb (parent_of t v) v) in
        record {
          settled = λ b. every_at (placed t) s.n (settled_by b).0 v l;
          stands = asked_use (placed t v) (stands_at s.n t v) (every_at (λ u. asked (placed t u) (stands_at s.n t u)) s.n c.forest v l);
          noting = λ b. every_at (note_fits s.n t) s.n (asked_use (is_building g) (every (note_fits s.n t) s.n) notes_1 b) v l;
          clear = λ b. every_at (clear_at t) s.n (cleared_by b).0 v l;
          low = λ r. every_at (low_fits t) s.n (low_by r) v l;
          mark_bit = leb→le (mark_of t v) 1 (and_l (leb (mark_of t v) 1) _ x);
          mark_loose = λ b. elim (or_cases none (not (placed t v)) (asked_use (is_building g) (none || not (placed t v)) (and_l loose _ y) b)) [ inl z ↦ inl (eqb→eq (mark_of t v) 0 z) | inr z ↦ inr (T_not (placed t v) z) ];
          mark_child = λ r. elim (or_cases none (not (eqb (parent_of t v) v)) (asked_use (is_reading g || is_read g) child (and_r loose _ y) r)) [
            | inl z ↦ inl (eqb→eq (mark_of t v) 0 z)
            | inr z ↦ inr (λ e. T_not (eqb (parent_of t v) v) z (eq_to_eqb (parent_of t v) v e))
          ];
          orphan = λ p. eqb→eq (parent_of t v) 0 (asked_use (not (placed t v)) (eqb (parent_of t v) 0) (every_at (orphans t) s.n rest_1 v l) (not_T (placed t v) p));
          is_seen = λ r. every_at (seen t) s.n (and_r (not t.crossed) _ (asked_use (is_read g) (not t.crossed && every (seen t) s.n) c.read r)) v l;
        }

  -- And back.
  module _ (x : T (counts_hold s m)) (y : T (stage_holds s m)) (at : (v : ℕ) → v < s.n → At g s.n t v) where
    counts_2 : T (leb s.entries entries_most && leb s.held (s.k * s.n))
    unfolding counts_hold
    counts_2 = and_r (leb s.passes (suc m)) _ x

    y1 : T (asked (is_building g) (ltb m s.n))
    unfolding stage_holds
    y1 = and_l (asked (is_building g) (ltb m s.n)) _ y

    y2 : T (asked (not (is_building g)) (eqb s.held 0) && (asked (is_built g) (eqb s.entries 0) && asked (not (is_reading g)) (not s.crossed)))
    unfolding stage_holds
    y2 = and_r (asked (is_building g) (ltb m s.n)) _ y

    y3 : T (asked (is_built g) (eqb s.entries 0) && asked (not (is_reading g)) (not s.crossed))
    y3 = and_r (asked (not (is_building g)) (eqb s.held 0)) _ y2

    y4 : T (asked (not (is_reading g)) (not s.crossed))
    y4 = and_r (asked (is_built g) (eqb s.entries 0)) _ y3

    stage_clause : T (stage_fits s t)
    unfolding stage_fits done
    stage_clause =
        and_intro (asked (is_building g) (not (every (placed t) s.n))) _
        (asked_make (is_building g) (not (every (placed t) s.n)) (λ b. not_T (every (placed t) s.n) (λ e.
        omega (arith, count_every (placed t) s.n e, ltb→lt m s.n (asked_use (is_building g) (ltb m s.n) y1 b)))))
        (asked_make (not (is_building g)) (every (placed t) s.n && eqb s.held 0) (λ b.
        and_intro (every (placed t) s.n) _ (every_intro (placed t) s.n (λ v l. (at v l).settled (T_not (is_building g) b)))
        (asked_use (not (is_building g)) (eqb s.held 0) (and_l (asked (not (is_building g)) (eqb s.held 0)) _ y2) b)))

    forest_clause : T (forest_fits s.n t)
    unfolding forest_fits
    forest_clause = every_intro (λ v. asked (placed t v) (stands_at s.n t v)) s.n (λ v l. asked_make (placed t v) (stands_at s.n t v) (at v l).stands)

    notes_clause : T (notes_fit s t)
    unfolding notes_fit
    notes_clause =
        and_intro (asked (is_building g) (every (note_fits s.n t) s.n)) _
        (asked_make (is_building g) (every (note_fits s.n t) s.n) (λ b. every_intro (note_fits s.n t) s.n (λ v l. (at v l).noting b)))
        (and_intro (asked (is_built g) (every (clear_at t) s.n && eqb s.entries 0)) _
        (asked_make (is_built g) (every (clear_at t) s.n && eqb s.entries 0) (λ b.
        and_intro (every (clear_at t) s.n) _ (every_intro (clear_at t) s.n (λ v l. (at v l).clear b)) (asked_use (is_built g) (eqb s.entries 0) (and_l (asked (is_built g) (eqb s.entries 0)) _ y3) b)))
        (asked_make (is_reading g || is_read g) (every (low_fits t) s.n) (λ r. every_intro (low_fits t) s.n (λ v l. (at v l).low r))))

    counts_clause : T (counts_fit s t)
    unfolding counts_fit counts_hold
    counts_clause = and_intro (leb s.entries entries_most) _ (and_l (leb s.entries entries_most) _ counts_2) (and_l (leb s.passes (suc m)) _ x)

    read_clause : s.crossed ≡ t.crossed → T (read_fits s t)
    unfolding read_fits accepted
    read_clause e = asked_make (is_read g) (not t.crossed && every (seen t) s.n) (λ r.
        and_intro (not t.crossed) _
        (subst (λ b. T (not b)) e (asked_use (not (is_reading g)) (not s.crossed) y4 (not_T (is_reading g) (λ q. once g q r))))
        (every_intro (seen t) s.n (λ v l. (at v l).is_seen r)))

    marks_clause : (v : ℕ) → v < s.n → T (mark_fits s t v)
    unfolding mark_fits
    marks_clause v l =
        let none = eqb (mark_of t v) 0 in
        let child = none || not (eqb (parent_of t v) v) in
        and_intro (leb (mark_of t v) 1) _ (le→leb (mark_of t v) 1 (at v l).mark_bit)
        (and_intro (asked (is_building g) (none || not (placed t v))) _
        (asked_make (is_building g) (none || not (placed t v)) (λ b. elim ((at v l).mark_loose b) [ inl z ↦ or_l none _ (eq_to_eqb (mark_of t v) 0 z) | inr z ↦ or_r none _ (not_T (placed t v) z) ]))
        (asked_make (is_reading g || is_read g) child (λ r. elim ((at v l).mark_child r) [
          | inl z ↦ or_l none _ (eq_to_eqb (mark_of t v) 0 z)
          | inr z ↦ or_r none _ (not_T (eqb (parent_of t v) v) (λ e. z (eqb→eq (parent_of t v) v e)))
        ])))

    rest_clause : T (rest_agrees s t)
    unfolding rest_agrees
    rest_clause =
        and_intro (every (orphans t) s.n) _
        (every_intro (orphans t) s.n (λ v l. asked_make (not (placed t v)) (eqb (parent_of t v) 0) (λ p. eq_to_eqb (parent_of t v) 0 ((at v l).orphan (T_not (placed t v) p)))))
        (and_intro (every (mark_fits s t) s.n) _ (every_intro (mark_fits s t) s.n marks_clause)
        (and_intro (asked (not (is_reading g)) (not s.crossed)) _ y4 (and_r (leb s.entries entries_most) _ counts_2)))

    kept : s.crossed ≡ t.crossed → Kept
    kept e = record { stage = stage_clause; forest = forest_clause; notes = notes_clause; counts = counts_clause; read = read_clause e; rest = rest_clause }

-- The words of a list from a to b, looked at either way.
drop_part : (a b : ℕ) (l : List ℕ) → drop a (take b l) ≡ take (b - a) (drop a l)
drop_part a b l = elim (dec_lt b a) [
  | yes h ↦
      let e : b - a ≡ 0 = omega arith in
      rw e (drop_of_length-le (take b l) {i = a} (simp length-take (omega arith)))
  | no h ↦
      let e : b ≡ a + (b - a) = omega arith in
      ap (λ i. drop a (take i l)) e ∙ drop_take a (b - a) l
]

-- Of the tables only those of the fragments count.
fragment_same : (g : Stage) (s : State) (f h : List ℕ) → fragment_fits g s.n (tables_in s f h) ≡ fragment_fits g s.n (forest_in s.n f)
unfolding fragment_fits waits_at noted_at stands_at clear_at low_fits mark_at placed lev parent_of rank note_of mark_of tables_in
fragment_same g s f h = refl

placed_same : (s : State) (f h : List ℕ) → placed (tables_in s f h) ≡ placed (forest_in s.n f)
unfolding placed rank tables_in
placed_same s f h = refl

words_same : (s : State) (f h : List ℕ) → words_fit s.n (tables_in s f h) f ≡ words_fit s.n (forest_in s.n f) f
unfolding words_fit comes_at under_at rises_to root_fits child_fits parent_of tables_in
words_same s f h = refl

-- What lies behind the sections of every stage, where the fragments fit.
module _ (s : State) (f h : List ℕ) (at : (v : ℕ) → v < s.n → At s.stage s.n (tables_in s f h) v) where
  abbrev t : Tables
  t = tables_in s f h

  reads_placed : T (is_numbered s.stage) → (v : ℕ) → v < s.n → T (placed t v)
  reads_placed r v l = (at v l).settled (λ b. reads_alone s.stage r (or_l (is_building s.stage) (is_built s.stage) b))

  reads_levels : Levels s.n (par t) (lev t)
  reads_levels = levels_stand s.n t (λ v l p. stands_at_lem s.n t v ((at v l).stands p))

  numbers_are : T (is_numbered s.stage) → numbers_fit s t f ≡ every (words_fit s.n (forest_in s.n f) f) s.n
  unfolding numbers_fit asked
  numbers_are r =
      rw (T_true (is_numbered s.stage) r) (sym (words_are s.n t f (reads_placed r) reads_levels) ∙ ap (λ p. every p s.n) (words_same s f h))

  numbers_none : (T (is_numbered s.stage) → ⊥) → T (numbers_fit s t f)
  unfolding numbers_fit
  numbers_none r = asked_make (is_numbered s.stage) _ (λ b. absurd (r b))

  abbrev free : Bool
  free = all_zero (take ((words - stored_in s.stage) * s.n) (drop (stored_in s.stage * s.n) f))

  free_numbered : T (is_numbered s.stage) → free ≡ all_zero (take (words * s.n - (stored + numbers) * s.n) (drop ((stored + numbers) * s.n) f))
  unfolding stored_in
  free_numbered r =
      let e : (words - (stored + numbers)) * s.n ≡ words * s.n - (stored + numbers) * s.n = omega arith in
      rw (T_true (is_numbered s.stage) r, pick_true, e)

  free_plain : (T (is_numbered s.stage) → ⊥) → free ≡ all_zero (take (words * s.n - stored * s.n) (drop (stored * s.n) f))
  unfolding stored_in
  free_plain r =
      let e : (words - stored) * s.n ≡ words * s.n - stored * s.n = omega arith in
      rw (T_false (is_numbered s.stage) r, pick_false, e)

  abbrev unused : Bool
  unused = all_zero (take (s.k * s.n - s.held) (drop s.held h))

  rest_is : rest_zero s f h && numbers_fit s t f ≡ unused && rest_fits s.n s.stage f
  unfolding rest_zero rest_fits
  rest_is = elim (T_dec (is_numbered s.stage)) [
    | yes r ↦ rw (drop_part s.held (s.k * s.n) h, free_numbered r, numbers_are r, T_true (is_numbered s.stage) r, pick_true) (apart unused (all_zero (take (words * s.n - (stored + numbers) * s.n) (drop ((stored + numbers) * s.n) f))) (every (words_fit s.n (forest_in s.n f) f) s.n))
    | no r ↦ rw (drop_part s.held (s.k * s.n) h, free_plain r, T_true (numbers_fit s t f) (numbers_none r), T_false (is_numbered s.stage) r, pick_false) (and_true_right (unused && all_zero (take (words * s.n - stored * s.n) (drop (stored * s.n) f))))
  ]
    where
      apart : (a b c : Bool) → (a && b) && c ≡ a && (b && c)
      apart true b c = refl
      apart false b c = refl

-- The answers of the test on the way, where m fragments are placed.
module _ (s : State) (f h : List ℕ) (m : ℕ) (em : m ≡ count (placed (forest_in s.n f)) s.n) where
  abbrev fragments : Bool
  fragments = every (fragment_fits s.stage s.n (forest_in s.n f)) s.n

  abbrev idle : Bool
  idle = all_zero (take (s.k * s.n - s.held) (drop s.held h))

  abbrev rest : Bool
  rest = rest_fits s.n s.stage f

  computed : sound_but_links s f h ≡ counts_hold s m && (stage_holds s m && (fragments && (idle && rest)))
  unfolding sound_but_links tables_in
  computed =
      let t = tables_in s f h in
      let e : m ≡ count (placed t) s.n = em ∙ ap (λ p. count p s.n) (sym (placed_same s f h)) in
      let same = fragment_same s.stage s f h in
      rw e (T_ext (fits_but_links s t f h) (counts_hold s (count (placed t) s.n) && (stage_holds s (count (placed t) s.n) && (fragments && (idle && rest))))
      (λ x.
      let (c, z, y) = kept_known s t f h x in
      and_intro (counts_hold s (count (placed t) s.n)) _ (counts_pass s t c)
      (and_intro (stage_holds s (count (placed t) s.n)) _ (stage_passes s t c)
      (and_intro fragments _ (every_intro _ s.n (λ v l. subst (λ p. T (p v)) same (at_made s.stage s.n t v (at_passes s t c v l))))
      (subst T (rest_is s f h (at_passes s t c)) (and_intro (rest_zero s f h) _ z y)))))
      (λ x.
      let y = and_r (counts_hold s (count (placed t) s.n)) _ x in
      let z = and_r (stage_holds s (count (placed t) s.n)) _ y in
      let w = and_l fragments _ z in
      let at : (v : ℕ) → v < s.n → At s.stage s.n t v = λ v l. at_known s.stage s.n t v (subst (λ p. T (p v)) (sym same) (every_at _ s.n w v l)) in
      let r = subst T (sym (rest_is s f h at)) (and_r fragments _ z) in
      kept_made s t f h (kept s t (and_l (counts_hold s (count (placed t) s.n)) _ x) (and_l (stage_holds s (count (placed t) s.n)) _ y) at refl)
      (and_l (rest_zero s f h) _ r) (and_r (rest_zero s f h) _ r)))

  pub but_counts : false ≡ counts_hold s m → false ≡ sound_but_links s f h
  but_counts e = rw (computed, ← e)

  module _ (h1 : true ≡ counts_hold s m) where
    pub but_stage : false ≡ stage_holds s m → false ≡ sound_but_links s f h
    but_stage e = rw (computed, ← h1, ← e)

    module _ (h2 : true ≡ stage_holds s m) where
      pub but_fragments : false ≡ fragments → false ≡ sound_but_links s f h
      but_fragments e = rw (computed, ← h1, ← h2, ← e)

      module _ (h3 : true ≡ fragments) where
        pub but_unused : false ≡ idle → false ≡ sound_but_links s f h
        but_unused e = rw (computed, ← h1, ← h2, ← h3, ← e)

        pub but_rest : true ≡ idle → (b : Bool) → b ≡ rest → b ≡ sound_but_links s f h
        but_rest e b q = rw (computed, ← h1, ← h2, ← h3, ← e) q

-- What it gives to one who looks at the held links: they have room, and in Building the scratch is 0.
module _ (s : State) (f h : List ℕ) (x : T (sound_but_links s f h)) where
  pub but_room : s.held ≤ s.k * s.n
  unfolding sound_but_links
  but_room =
      let t = tables_in s f h in
      leb→le s.held (s.k * s.n) (and_r (asked (not (is_reading s.stage)) (not s.crossed)) _ (rest_3 s t (kept_known s t f h x).0))

  pub but_blank : is_building s.stage ≡ true → T (all_zero (take ((words - stored) * s.n) (drop (stored * s.n) f)))
  unfolding sound_but_links rest_zero stored_in
  but_blank b =
      let r : is_numbered s.stage ≡ false = T_false (is_numbered s.stage) (λ y. reads_alone s.stage y (or_l (is_building s.stage) (is_built s.stage) (true_T (is_building s.stage) b))) in
      let z = and_r (all_zero (drop s.held (take (s.k * s.n) h))) _ (kept_known s (tables_in s f h) f h x).1 in
      (rw (r, pick_false) at z)

-- The ends of links are asked of the fragment table alone.
ends_alone : (s : State) (f h : List ℕ) (l : List Link) → ends_fit s.n (tables_in s f h) l ≡ ends_fit s.n (forest_in s.n f) l
unfolding ends_fit placed rank tables_in
ends_alone s f h [] = refl
ends_alone s f h ((a, b) ∷ l) = rw (ends_alone s f h l)

links_are : (s : State) (f h : List ℕ) → held_fits s.n s.k (tables_in s f h) ≡ links_fit s.n s.k (forest_in s.n f) (held_links s.held h)
unfolding held_fits links_fit tables_in
links_are s f h = rw (ends_alone s f h (held_links s.held h))

-- The whole test is this and the held links.
pub sound_is : (s : State) (f h : List ℕ) → sound s f h ≡ sound_but_links s f h && links_fit s.n s.k (forest_in s.n f) (held_links s.held h)
unfolding sound sound_but_links fits fits_but_links
sound_is s f h =
    let t = tables_in s f h in
    apart (stage_fits s t) (forest_fits s.n t) (held_fits s.n s.k t) (notes_fit s t && (rest_zero s f h && (counts_fit s t && (read_fits s t && (rest_agrees s t && numbers_fit s t f)))))
    ∙ ap (λ b. fits_but_links s t f h && b) (links_are s f h)
  where
    apart : (a b c d : Bool) → a && (b && (c && d)) ≡ (a && (b && d)) && c
    apart true true true true = refl
    apart true true true false = refl
    apart true true false true = refl
    apart true true false false = refl
    apart true false true d = refl
    apart true false false d = refl
    apart false b c d = refl

-- No link is held: the links fit.
quota_empty : (n k : ℕ) → T (quota_fits n k [])
unfolding quota_fits held_in
quota_empty n k =
    every_intro _ n (λ p l. asked_make (member (pieces n []) p p) _
    (λ x. le→leb (held_in (pieces n []) [] p) (k * size_of n (pieces n []) p - 1) (omega (arith, tally_nil (λ e. member (pieces n []) p e.0)))))

links_none : (n k : ℕ) (t : Tables) (h : List ℕ) (c : ℕ) → c ≡ 0 → T (links_fit n k t (held_links c h))
unfolding links_fit ends_fit none_twice
links_none n k t h c e = rw e (quota_empty n k)

-- Outside Building it is the whole test.
pub sound_outside : (s : State) (f h : List ℕ) → is_building s.stage ≡ false → sound s f h ≡ sound_but_links s f h
unfolding sound_but_links
sound_outside s f h e =
    let links = links_fit s.n s.k (forest_in s.n f) (held_links s.held h) in
    let t = tables_in s f h in
    sound_is s f h ∙ T_ext (sound_but_links s f h && links) (sound_but_links s f h)
    (λ x. and_l (sound_but_links s f h) _ x)
    (λ x. and_intro (sound_but_links s f h) links x
    (links_none s.n s.k (forest_in s.n f) h s.held (eqb→eq s.held 0 (settled_by s t (kept_known s t f h x).0 (false_T (is_building s.stage) e)).1)))
