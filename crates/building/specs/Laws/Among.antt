-- A link looked for among the held ones.
-- Assumes nothing.
use Rattle.std.specs.Prelude.{ℕ, ◌+◌, ◌≤◌, ◌<◌, ◌≡◌, true, false, List, eqb, length}
use Rattle.std.proofs.Math.Path.{sym}
use Rattle.std.proofs.Common.{◌∙◌}
use Rattle.std.proofs.Math.Decide.{ℕ_discrete}
use Rattle.base.specs.Pick.{tests}
use Rattle.rules.specs.Links.{between, linked}
use Rattle.state.specs.Layout.{held_link}
use Rattle.differing.specs.Laws.Links.{left, left_none, left_next}

-- One link under two names.
module _ (c d a b : ℕ) where
  pub same_straight : c ≡ a → eqb d b ≡ between (c, d) a b
  unfolding between
  same_straight e = elim (ℕ_discrete d b) [
    | yes q ↦ simp tests
    | no q ↦ elim (ℕ_discrete c b) [
      | yes z ↦ let w : d ≡ a → ⊥ = λ w. q (w ∙ sym e ∙ z) in simp tests
      | no z ↦ simp tests
    ]
  ]

  module _ (f : c ≡ a → ⊥) where
    pub same_turned : c ≡ b → eqb d a ≡ between (c, d) a b
    unfolding between
    same_turned e = simp tests

    pub same_not : (c ≡ b → ⊥) → false ≡ between (c, d) a b
    unfolding between
    same_not g = simp tests

-- A link looked for among those that are left.
module _ (h : List ℕ) (to i : ℕ) (l : i < to) (b : to ≤ length h) (c d : ℕ) (ec : c ≡ (held_link h i).0) (ed : d ≡ (held_link h i).1) (u v : ℕ) where
  pub among_more : false ≡ between (c, d) u v → linked (left h to (i + 1)) u v ≡ linked (left h to i) u v
  unfolding linked
  among_more e = rw (left_next h to i l b c d ec ed, ← e)

  pub among_hit : true ≡ between (c, d) u v → true ≡ linked (left h to i) u v
  unfolding linked
  among_hit e = rw (left_next h to i l b c d ec ed, ← e)

pub among_none : (h : List ℕ) (to i : ℕ) → to ≤ i → (u v : ℕ) → false ≡ linked (left h to i) u v
unfolding linked
among_none h to i l u v = rw (left_none h to i l)
