-- What the test of the tables gives, and what passes it.
-- Assumes nothing.
use Rattle.std.specs.Prelude.{ℕ, ◌*◌, ◌≤◌, ◌≡◌, refl, List, T, length, take, drop}
use Rattle.std.proofs.Common.{sym, ◌∙◌, arith, length-take}
use Rattle.base.specs.Truth.{and_l, and_r, and_intro}
use Rattle.rules.specs.Tables.{Tables}
use Rattle.rules.proofs.Laws.Facts.{Underway}
use Rattle.state.specs.Layout.{words, radix, link_in, tables_in, behind, frag_of, held_of}
use Rattle.state.specs.Test.{is_building, all_zero, rest_zero, sound}
use Rattle.state.proofs.Laws.Bounds.{Bounds}
use Rattle.state.proofs.Laws.Layout.{section_length}
use Rattle.state.proofs.Laws.Lists.{length-map}
use Rattle.state.proofs.Laws.Behind.{rest, behind_known, behind_made}
use Rattle.state.proofs.Laws.Lay.{frag_laid, held_laid, tables_laid, behind_laid, unused_laid, frag_length}
use Rattle.state.specs.declared.State.{State}
pub use Rattle.state.proofs.Laws.Agrees.{Agrees}
use Rattle.state.proofs.Laws.Agrees.{clauses, fits_made}
use Rattle.state.proofs.Laws.Known.{room_known, agrees_known}
use Rattle.state.proofs.Laws.Made.{clauses_made}

-- What the test gives of a state and its two tables.
pub record Sound (s : State) (f h : List ℕ) : Type 0 where
  pub agrees : Agrees s (tables_in s f h)
  pub unused : T (all_zero (drop s.held (take (s.k * s.n) h)))
  pub back : rest s.n f ≡ behind s.stage s.n (tables_in s f h)

pub sound_known : (s : State) (f h : List ℕ) → Bounds s.n s.k (length f) (length h) → T (sound s f h) → Sound s f h
unfolding sound rest_zero tables_in
sound_known s f h b y =
    let (c, z, x) = clauses s (tables_in s f h) f h y in
    let room = room_known s (tables_in s f h) c in
    let n = s.n in
    record {
      agrees = agrees_known s (tables_in s f h) c (omega arith)
          (section_length n f 0 (omega arith)) (section_length n f 1 (omega arith)) (section_length n f 2 (omega arith)) (section_length n f 3 (omega arith))
          (sym (length-map link_in (take s.held h) ∙ simp length-take (omega arith)))
          refl;
      unused = and_l (all_zero (drop s.held (take (s.k * s.n) h))) _ z;
      back = behind_known s (tables_in s f h) f b.frag_long (and_r (all_zero (drop s.held (take (s.k * s.n) h))) _ z) x;
    }

module _ (s : State) (f h : List ℕ) (b : Bounds s.n s.k (length f) (length h)) (S : Sound s f h) where
  -- What is found is laid out.
  pub frag_found : f ≡ frag_of s.stage s.n (tables_in s f h) f
  frag_found = frag_laid s f f h (tables_in s f h) refl b.frag_long S.back refl

  pub held_found : h ≡ held_of s.n s.k (tables_in s f h) h
  held_found = held_laid s f h h (tables_in s f h) refl S.agrees.held_room b.held_long S.unused refl

-- In Building the facts are those that every told link keeps.
pub underway : (s : State) (t : Tables) → Agrees s t → T (is_building s.stage) → Underway s.n s.k t
underway s t a b = record { standing = a.standing; holding = a.holding; noting = a.noting b }

-- Tables that agree with a state: laid out they are found again, and pass the test.
module _ (s : State) (t : Tables) (f h : List ℕ) (b : s.n ≤ radix) (a : Agrees s t) where
  pub laid_tables : tables_in s (frag_of s.stage s.n t f) (held_of s.n s.k t h) ≡ t
  laid_tables =
      let S = a.standing in
      tables_laid s t f h S.long_parent S.long_level S.long_note S.long_mark a.as_many (λ u v l. omega (arith, (a.holding.ends u v l).1)) a.as_crossed

  pub sound_laid : words * s.n ≤ length f → T (sound s (frag_of s.stage s.n t f) (held_of s.n s.k t h))
  unfolding sound rest_zero
  sound_laid w =
      let S = a.standing in
      let f' = frag_of s.stage s.n t f in
      let long = frag_length s.stage s.n t f S.long_parent S.long_level S.long_note S.long_mark w in
      let (z, x) = behind_made s t f' (omega arith) (behind_laid s.stage s.n t f S.long_parent S.long_level S.long_note S.long_mark) in
      rw laid_tables (fits_made s t f' (held_of s.n s.k t h) (clauses_made s t a)
      (and_intro (all_zero (drop s.held (take (s.k * s.n) (held_of s.n s.k t h)))) _ (unused_laid s.n s.k t h s.held a.as_many a.held_room) z) x)
