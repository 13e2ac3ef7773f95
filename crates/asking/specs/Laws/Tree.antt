-- Laws of the search for the root of a fragment's tree, and for the smallest fragment of it.
-- Assumes nothing.
use Rattle.std.specs.Prelude.{ℕ, ◌-◌, ◌≤◌, ◌<◌, ◌≡◌, Bool, true, false, List, ◌↔◌, T}
use Rattle.std.proofs.Common.{sym, ◌∙◌, inl, inr, arith, eqb→eq}
use Rattle.std.proofs.Math.Path.{ap}
use Rattle.std.proofs.Math.Decide.{ℕ_discrete, dec_lt}
use Rattle.base.specs.Truth.{true_T, false_T, eq_to_eqb}
use Rattle.rules.specs.Forest.{up, Levels, Over}
use Rattle.rules.specs.Search.{first}
use Rattle.rules.specs.Tables.{Tables, par, lev}
use Rattle.rules.specs.Reading.{above, root_of, piece}
use Rattle.rules.specs.Numbers.{turn, end, at_turn}
use Rattle.rules.proofs.Laws.Search.{first_passes, first_below}
use Rattle.rules.proofs.Laws.Up.{up_in, up_over, root_lev, level_arrives}
use Rattle.rules.proofs.Laws.Reading.{above_test}
use Rattle.rules.proofs.Laws.Numbers.{turn_in_lem, at_turn_lem, turn_at_lem, above_range, turn_end, child_turn, next_root}
use Rattle.state.specs.Layout.{forest_in, above_in}
use Rattle.testing.specs.Whole.{Numbered}
use Rattle.testing.specs.Laws.Whole.{levels, above_numbered}
use Rattle.asking.specs.Tree.{Top}

module _ (n : ℕ) (t : Tables) (L : Levels n (par t) (lev t)) where
  -- A root is above exactly those of its tree.
  root_above : (r u : ℕ) → r < n → u < n → par t r ≡ r → T (above t r u) ↔ (root_of t u ≡ r)
  unfolding root_of
  root_above r u hr hu e = (
    (λ a.
        let o : Over (par t) (lev t) r u = (above_test t r u).0 a in
        let z : lev t u ≡ lev t u - lev t r = omega (arith, root_lev L r hr e) in
        ap (λ (k : ℕ). up (par t) k u) z ∙ o),
    (λ q. (above_test t r u).1 (rw q at (up_over L (lev t u) u hu))),
  )

  module _ (v : ℕ) (h : v < n) where
    -- The roots, one after another.
    pub top_starts : (r : ℕ) → r ≡ at_turn n t 0 → Top n t v r
    top_starts r e =
        let (k, z) = turn_at_lem n t L 0 (omega arith) in
        let y : turn n t r ≡ 0 = rw e z in
        let i : r < n = rw e k in
        record {
          fragment = i;
          root = elim (ℕ_discrete (par t r) r) [ yes q ↦ q | no d ↦ absurd (omega (arith, child_turn n t L r i d)) ];
          early = omega arith;
        }

    module _ (r : ℕ) (R : Top n t v r) where
      pub top_on : end n t r ≤ turn n t v → (q : ℕ) → q ≡ at_turn n t (end n t r) → Top n t v q × (turn n t r < turn n t q)
      top_on l q e = elim (next_root n t L r R.fragment R.root) [
        | inl z ↦ absurd (omega (arith, turn_in_lem n t L v h))
        | inr (u, g, p, m, z) ↦
            let y : q ≡ u = rw (e, ← z) (at_turn_lem n t L u g) in
            rw y (record { fragment = g; root = p; early = omega arith }, omega (arith, turn_end n t L r R.fragment))
      ]

      pub top_done : turn n t v < end n t r → r ≡ root_of t v
      top_done l = sym ((root_above r v R.fragment h R.root).0 ((above_range n t L r v R.fragment h).1 (R.early, l)))

-- A search from below ends at the first that passes.
first_found : (p : ℕ → Bool) (n k : ℕ) → k < n → T (p k) → ((j : ℕ) → j < k → T (p j) → ⊥) → k ≡ first p n
first_found p n k h t g =
    let b = first_below p n k h t in
    elim (dec_lt (first p n) k) [
      | yes l ↦ absurd (g (first p n) l (first_passes p n (omega arith)))
      | no l ↦ omega arith
    ]

pub piece_found : (n : ℕ) (t : Tables) (v u : ℕ) → u < n → root_of t u ≡ root_of t v → ((j : ℕ) → j < u → root_of t j ≡ root_of t v → ⊥) → u ≡ piece n t v
unfolding piece
piece_found n t v u h e g = first_found _ n u h (eq_to_eqb (root_of t u) _ e) (λ j l q. g j l (eqb→eq (root_of t j) _ q))

-- In a numbered table the root of v's tree is above u exactly where u is in it.
module _ {n : ℕ} {f : List ℕ} (N : Numbered n f) (v u r : ℕ) (h : v < n) (k : u < n) (e : r ≡ root_of (forest_in n f) v) where
  in_tree : T (above_in n f r u) ↔ (root_of (forest_in n f) u ≡ root_of (forest_in n f) v)
  unfolding root_of
  in_tree =
      let t = forest_in n f in
      let L = levels N.whole in
      let i : r < n = rw e (up_in L (lev t v) v h) in
      rw (above_numbered n f N r u i k, ← e) (root_above n t L r u i k (rw e (level_arrives L v h)))

  pub tree_yes : above_in n f r u ≡ true → root_of (forest_in n f) u ≡ root_of (forest_in n f) v
  tree_yes q = in_tree.0 (true_T (above_in n f r u) q)

  pub tree_no : above_in n f r u ≡ false → root_of (forest_in n f) u ≡ root_of (forest_in n f) v → ⊥
  tree_no q z = false_T (above_in n f r u) q (in_tree.1 z)
