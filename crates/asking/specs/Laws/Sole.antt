-- A child and a sole link, by the words that are read.
-- Assumes nothing.
use Rattle.std.specs.Prelude.{ℕ, ◌≡◌, Bool, true, false, not, List, eqb}
use borrow.Author.Tests.{eq-eqb, ne_eqb}
use Rattle.rules.specs.Tables.{par, lev}
use Rattle.rules.specs.Reading.{reach, child_of, sole_below, sole}
use Rattle.state.specs.Layout.{forest_in}

-- A child, by its parent.
module _ (n : ℕ) (f : List ℕ) (v c p : ℕ) (e : p ≡ par (forest_in n f) c) where
  pub child_not : (p ≡ v → ⊥) → false ≡ child_of (forest_in n f) v c
  unfolding child_of
  child_not d = rw (← e, ne_eqb p v d)

  pub child_other : p ≡ v → not (eqb c v) ≡ child_of (forest_in n f) v c
  unfolding child_of
  child_other g = rw (← e, eq-eqb p v g)

-- Sole: a child, and its reach; on either side.
module _ (n : ℕ) (f : List ℕ) (a b : ℕ) where
  pub sole_not : child_of (forest_in n f) a b ≡ false → false ≡ sole_below n (forest_in n f) a b
  unfolding sole_below
  sole_not e = rw e

  pub sole_reach : child_of (forest_in n f) a b ≡ true → (r l : ℕ) → r ≡ reach n (forest_in n f) b → l ≡ lev (forest_in n f) b → eqb r l ≡ sole_below n (forest_in n f) a b
  unfolding sole_below
  sole_reach e r l g h = rw (e, g, h)

  pub sole_first : sole_below n (forest_in n f) a b ≡ true → true ≡ sole n (forest_in n f) a b
  unfolding sole
  sole_first e = rw e

  pub sole_second : sole_below n (forest_in n f) a b ≡ false → (r : Bool) → r ≡ sole_below n (forest_in n f) b a → r ≡ sole n (forest_in n f) a b
  unfolding sole
  sole_second e r g = rw (e, g)
