-- What reading leaves agrees with its state: a block read, a pass accepted, and notes cleared.
-- Assumes nothing.
use Rattle.std.specs.Prelude.{ℕ, ◌≤◌, ◌<◌, ◌≡◌, false, ◌||◌, not, ◌⊎◌, ◌≢◌}
use Rattle.std.proofs.Math.Path.{refl, ap}
use Rattle.std.proofs.Common.{sym, subst, ◌∙◌, inl, inr, arith, T_not}
use Rattle.std.proofs.Math.Bool.{true}
use mathlib.Core.List.{List, [], ◌∷◌}
use Rattle.std.proofs.Math.Decide.{ℕ_discrete}
use Rattle.std.proofs.Math.Dec.{T}
use Rattle.std.proofs.Math.ListN.{length}
use Rattle.base.specs.Pick.{pick_all}
use Rattle.base.specs.Truth.{and_l, or_l, or_r, T_false}
use Rattle.base.specs.Link.{Link}
use Rattle.rules.specs.Links.{linked, Among}
use Rattle.rules.specs.Search.{every}
use Rattle.rules.specs.Tables.{Tables, parent_of, note_of, mark_of, placed, par, lev, put_mark, put_crossed, clear_notes, cleared}
use Rattle.rules.specs.Reading.{hear, read_link, read_links, accepted, seen}
use Rattle.rules.proofs.Laws.Step.{none_holding}
use Rattle.rules.proofs.Laws.Tables.{SameForest, forest_refl, same_parent_of, same_placed, same_lev, placed_loose, par_placed, standing_same, standing_cleared, cleared_forest, cleared_rested, put_note_mark, put_crossed_mark}
use Rattle.rules.proofs.Laws.Reading.{Heard, heard_links}
use Rattle.rules.proofs.Laws.Append.{unheld_cleared}
use Rattle.state.specs.Test.{entries_most, is_building, is_built, is_reading, is_read, ends_fit}
use Rattle.state.specs.Call.{moved}
use Rattle.state.proofs.Laws.Lists.{length_none}
use Rattle.state.proofs.Laws.Sound.{Agrees}
use Rattle.state.proofs.Laws.Keeps.{Bits, mark_bits, bits_same, rested_agrees}
use Rattle.state.specs.declared.State.{State}
use Rattle.state.specs.declared.Stage.{Stage}
use Rattle.state.specs.declared.Stage.TheVariants.{Building, Built, Reading, Read}

module _ {n : ℕ} where
  hear_bits : (v w : ℕ) (t : Tables) → Bits n t → Bits n (hear v w t)
  unfolding hear
  hear_bits v w t b = pick_all (Bits n) _ (put_mark v t) _ (mark_bits v t b) (bits_same _ t (put_note_mark v _ t) b)

  link_bits : (t : Tables) (l : Link) → Bits n t → Bits n (read_link t l)
  unfolding read_link
  link_bits t (a, b) h =
      let r = hear b a (hear a b t) in
      let g : Bits n r = hear_bits b a (hear a b t) (hear_bits a b t h) in
      pick_all (Bits n) _ r (put_crossed true r) g (bits_same (put_crossed true r) r (put_crossed_mark true r) g)

  read_bits : (g : List Link) (t : Tables) → Bits n t → Bits n (read_links t g)
  unfolding read_links
  read_bits [] t b = b
  read_bits (l ∷ g) t b = read_bits g (read_link t l) (link_bits t l b)

-- A stage of reading is neither Building nor Built.
reading_alone : (g : Stage) → T (is_reading g || is_read g) → T (is_building g || is_built g) → ⊥
reading_alone Building r b = r
reading_alone Built r b = r
reading_alone Reading r b = b
reading_alone Read r b = b

read_alone : (g : Stage) → T (is_reading g) → T (is_read g) → ⊥
read_alone Building r b = r
read_alone Built r b = r
read_alone Reading r b = b
read_alone Read r b = r

pub not_building : (g : Stage) → T (is_reading g || is_read g) → T (is_building g) → ⊥
not_building g r b = reading_alone g r (or_l (is_building g) (is_built g) b)

not_built : (g : Stage) → T (is_reading g || is_read g) → T (is_built g) → ⊥
not_built g r b = reading_alone g r (or_r (is_building g) (is_built g) b)

module _ (s : State) (t : Tables) (a : Agrees s t) (some : 1 ≤ s.k) (settled : T (is_building s.stage) → ⊥) where
  pub held_none : t.held ≡ []
  held_none = length_none t.held (sym a.as_many ∙ a.none_held settled)

  -- Open reading 'clears the notes'; at refusal 9 'the notes are cleared'.
  pub cleared_agrees : (g : Stage) → (T (is_building g) → ⊥) → (T (is_read g) → ⊥) → Agrees (moved g s.passes 0 (clear_notes s.n t) s) (clear_notes s.n t)
  unfolding moved cleared
  cleared_agrees g b r =
      let F = cleared_forest t s.n in
      let C = cleared_rested s.n t in
      let all : (v : ℕ) → v < s.n → T (placed (cleared s.n t) v) = λ v l. rw (same_placed F) (a.all_placed settled v l) in
      subst (λ x. Agrees (moved g s.passes 0 x s) x) (sym (unheld_cleared s.n t held_none))
      (rested_agrees (moved g s.passes 0 (cleared s.n t) s) (cleared s.n t) (standing_cleared a.standing) C
      some (ap length C.no_held) C.no_cross refl (rw (same_placed F) a.passes_few)
      (λ v l f. absurd (placed_loose (cleared s.n t) v (all v l) f)) (λ x. absurd (b x)) (λ x. all) r)

  -- The same forest in a stage of reading, with other notes and marks.
  module _ (g : Stage) (r : T (is_reading g || is_read g)) (e : ℕ) (few : e ≤ entries_most) (t' : Tables) (F : SameForest t' t) (eh : t'.held ≡ t.held)
      (hn : length t'.note ≡ s.n) (hm : length t'.mark ≡ s.n) where
    same_agrees : ((v : ℕ) → v < s.n → mark_of t' v ≤ 1) → ((v : ℕ) → v < s.n → note_of t' v ≤ lev t' v)
        → ((v : ℕ) → v < s.n → (mark_of t' v ≡ 0) ⊎ (parent_of t' v ≢ v))
        → (T (is_read g) → T (accepted s.n t')) → ((T (is_reading g) → ⊥) → t'.crossed ≡ false)
        → Agrees (moved g s.passes e t' s) t'
    unfolding moved ends_fit
    same_agrees bit low child whole uncrossed =
        let none : t'.held ≡ [] = eh ∙ held_none in
        let all : (v : ℕ) → v < s.n → T (placed t' v) = λ v l. rw (same_placed F) (a.all_placed settled v l) in
        record {
          standing = standing_same F hn hm a.standing;
          as_many = refl;
          as_crossed = refl;
          ends_fit_lem = rw none tt;
          holding = none_holding s.n s.k t' some none;
          held_room = rw none (omega arith);
          entries_few = few;
          passes_few = rw (same_placed F) a.passes_few;
          mark_bit = bit;
          loose_parent = λ v l f. absurd (placed_loose t' v (all v l) f);
          unfinished = λ b. absurd (not_building g r b);
          noting = λ b. absurd (not_building g r b);
          mark_loose = λ b. absurd (not_building g r b);
          all_placed = λ b. all;
          none_held = λ b. ap length none;
          rested = λ b. absurd (not_built g r b);
          no_entries = λ b. absurd (not_built g r b);
          low = λ b. low;
          mark_child = λ b. child;
          whole = whole;
          uncrossed = uncrossed;
        }

-- A state in Reading.
module _ (s : State) (t : Tables) (a : Agrees s t) (some : 1 ≤ s.k) (r : T (is_reading s.stage)) where
  reads : T (is_reading s.stage || is_read s.stage)
  reads = or_l (is_reading s.stage) (is_read s.stage) r

  -- Links read: notes are at most levels, marks are on children only.
  module _ (g : List Link) (A : Among s.n (linked g)) where
    heard : Heard s.n (λ x y. T (linked g x y)) t (read_links t g)
    heard = heard_links g t a.standing.long_note a.standing.long_mark A

    heard_low : (v : ℕ) → v < s.n → note_of (read_links t g) v ≤ lev (read_links t g) v
    heard_low v l = rw (same_lev heard.forest) (elim (heard.note_hit v) [
      | inl e ↦ omega (arith, a.low reads v l)
      | inr (w, x, d, e) ↦ omega arith
    ])

    -- A mark means a link to the parent, and no link leads from a fragment to itself.
    heard_child : (v : ℕ) → v < s.n → (mark_of (read_links t g) v ≡ 0) ⊎ (parent_of (read_links t g) v ≢ v)
    heard_child v l = elim (ℕ_discrete (mark_of (read_links t g) v) 0) [
      | yes z ↦ inl z
      | no z ↦ inr (λ e.
          let root : parent_of t v ≡ v = sym (same_parent_of heard.forest v) ∙ e in
          elim (heard.mark_hit v (omega arith)) [
            | inl m ↦ elim (a.mark_child reads v l) [ inl o ↦ omega arith | inr o ↦ o root ]
            | inr x ↦ (A v (par t v) x).2 (sym (par_placed t v (a.all_placed (not_building s.stage reads) v l) ∙ root))
          ])
    ]

    pub read_agrees : (e : ℕ) → e ≤ entries_most → Agrees (moved s.stage s.passes e (read_links t g) s) (read_links t g)
    read_agrees e few =
        same_agrees s t a some (not_building s.stage reads) s.stage reads e few (read_links t g) heard.forest heard.same_held
        (heard.long_note ∙ a.standing.long_note) (heard.long_mark ∙ a.standing.long_mark)
        (read_bits g t a.mark_bit) heard_low heard_child (λ b. absurd (read_alone s.stage r b)) (λ b. absurd (b r))

  -- 'Read has every parent link seen and no false mark'
  pub accepted_agrees : T (accepted s.n t) → Agrees (moved Read s.passes s.entries t s) t
  unfolding accepted
  accepted_agrees x =
      let S = a.standing in
      same_agrees s t a some (not_building s.stage reads) Read tt s.entries a.entries_few t (forest_refl t) refl S.long_note S.long_mark
      a.mark_bit (a.low reads) (a.mark_child reads) (λ b. x)
      (λ b. T_false t.crossed (T_not t.crossed (and_l (not t.crossed) (every (seen t) s.n) x)))
