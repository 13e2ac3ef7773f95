-- A word of a section, within the table and past it; what the words say; the better of two notes; the ends of a held link.
-- Assumes nothing.
use Rattle.std.specs.Prelude.{ℕ, pred, ◌+◌, ◌-◌, ◌*◌, ◌≤◌, ◌<◌, ◌≡◌, refl, false, List, ltb, length, get_or}
use Rattle.std.proofs.Common.{sym, ◌∙◌, mul-le-mul_right, length-drop}
use native.Mathlib.Omega.{arith}
use borrow.Author.Tests.{lt-ltb}
use Rattle.std.proofs.Math.ListN.{length-take, get_or-eq_default}
use Rattle.base.specs.Pick.{pick_all, tests}
use Rattle.rules.specs.Tables.{Tables, rank, parent_of, note_of, placed, par, lev}
use Rattle.rules.specs.Building.{better}
use Rattle.rules.specs.Reading.{lowest}
use Rattle.state.specs.Layout.{section, turn_in, end_in, above_in, link_in, held_link, Says}
use Rattle.state.proofs.Laws.Layout.{section_at}

module _ (n j : ℕ) (f : List ℕ) (v : ℕ) where
  short : length (section n j f) ≤ v → Says 0 (get_or (section n j f) v 0)
  short h = record { says = sym (get_or-eq_default (section n j f) 0 h); small = omega arith }

  pub word_none : n ≤ v → Says 0 (get_or (section n j f) v 0)
  unfolding section
  word_none h = short (simp length-take (omega arith))

  pub word_past : length f ≤ j * n + v → Says 0 (get_or (section n j f) v 0)
  unfolding section
  word_past h = short (simp (length-take, length-drop) (omega arith))

  -- A table shorter than n has no word of a section behind the first.
  pub word_short : 0 < j → length f < n → Says 0 (get_or (section n j f) v 0)
  word_short g h = word_past (omega (arith, mul-le-mul_right {m = 1} {n = j} n g))

  pub word_there : v < n → (i r : ℕ) → i ≡ j * n + v → Says r (get_or f i 0) → Says r (get_or (section n j f) v 0)
  word_there l i r e s = record { says = s.says ∙ section_at n f j i v e l; small = s.small }

-- The parent and the level of a fragment by its words.
module _ (t : Tables) (v r : ℕ) (er : r ≡ rank t v) where
  pub parent_loose : r ≡ 0 → v ≡ par t v
  unfolding par placed
  parent_loose e = rw (← er, e)

  pub parent_placed : (r ≡ 0 → ⊥) → (p : ℕ) → p ≡ parent_of t v → p ≡ par t v
  unfolding par placed
  parent_placed d p e = let o : 0 < r = omega arith in rw (← er, lt-ltb 0 r o, e)

  pub level_is : (l : ℕ) → l ≡ pred r → l ≡ lev t v
  unfolding lev
  level_is l e = rw (← er, e)

-- The least level that it noted.
pub low_note : (t : Tables) (v own note r : ℕ) → own ≡ lev t v → note ≡ note_of t v → r ≡ own - note → r ≡ lowest t v
unfolding lowest
low_note t v own note r e g k = rw (k, e, g)

-- By their turns.
module _ (n : ℕ) (f : List ℕ) (a b x y : ℕ) (ex : x ≡ turn_in n f a) (ey : y ≡ turn_in n f b) where
  pub above_before : y < x → false ≡ above_in n f a b
  unfolding above_in
  above_before l = rw (← ex, ← ey) (simp tests)

  pub above_ends : x ≤ y → (e : ℕ) → e ≡ end_in n f a → ltb y e ≡ above_in n f a b
  unfolding above_in
  above_ends l e q = rw (← ex, ← ey, ← q) (simp tests)

-- B2. Of two notes the better, by their levels.
module _ (t : Tables) (old new : ℕ) where
  pub better_old : new ≡ 0 → old ≡ better t old new
  unfolding better
  better_old e = simp tests

  -- It is one of them.
  pub better_small : (n r : ℕ) → r ≡ better t old new → old ≤ n → new ≤ n → r ≤ n
  unfolding better
  better_small n r e a b = rw e (pick_all (λ x. x ≤ n) _ _ _ a (pick_all (λ x. x ≤ n) _ _ _ b (pick_all (λ x. x ≤ n) _ _ _ b (pick_all (λ x. x ≤ n) _ _ _ b a))))

  module _ (h1 : new ≡ 0 → ⊥) where
    pub better_new : old ≡ 0 → new ≡ better t old new
    unfolding better
    better_new e = simp tests

    module _ (h2 : old ≡ 0 → ⊥) (x y : ℕ) (ex : x ≡ rank t (old - 1)) (ey : y ≡ rank t (new - 1)) where
      low : pred old ≡ old - 1
      low = omega arith

      high : pred new ≡ new - 1
      high = omega arith

      pub better_deeper : x < y → new ≡ better t old new
      unfolding better
      better_deeper l = rw (low, high, ← ex, ← ey) (simp tests)

      pub better_higher : y < x → old ≡ better t old new
      unfolding better
      better_higher l =
          let q : y ≤ x = omega arith in
          let d : x ≡ y → ⊥ = λ e. omega arith in
          rw (low, high, ← ex, ← ey) (simp tests)

      module _ (h3 : y ≤ x) (h4 : x ≤ y) where
        pub better_smaller : new < old → new ≡ better t old new
        unfolding better
        better_smaller l = let e : x ≡ y = omega arith in rw (low, high, ← ex, ← ey) (simp tests)

        pub better_same : old ≤ new → old ≡ better t old new
        unfolding better
        better_same l = let e : x ≡ y = omega arith in rw (low, high, ← ex, ← ey) (simp tests)

-- Past the held table both ends are 0.
pub ends_past : (h : List ℕ) (i : ℕ) → length h ≤ i → held_link h i ≡ (0, 0)
unfolding link_in
ends_past h i l = rw (get_or-eq_default h 0 l) refl
