-- `asking::tree::smallest` meets its contract: the first before v whose tree it is, or v.
-- Assumes nothing.
use Prim.Native.Nat.{ℕ, ◌≤◌, ◌<◌}
use mathlib.Core.Bool.{true, false}
use mathlib.Core.List.{List}
use mathlib.Core.Path.{◌≡◌, refl, ◌∙◌}
use native.Mathlib.Omega.{arith}
use Rattle.std.specs.Option.{MatchOption, unwrap_or}
use Rattle.std.specs.declared.option.Option.{Option}
use Rattle.std.specs.declared.option.Option.TheVariants.{None, Some}
use Rattle.std.proofs.Common.{rules}
use Rattle.std.proofs.lemmas.Iterator.{first_from_Range}
use Rattle.rules.specs.Reading.{root_of, piece}
use Rattle.state.specs.Layout.{forest_in, above_in}
use Rattle.testing.specs.Whole.{Numbered}
use Rattle.asking.specs.Laws.Tree.{tree_yes, tree_no, piece_found}
use Rattle.asking.proofs.tree.smallest.Goals as goal

module _ (n : ℕ) (f : List ℕ) (N : Numbered n f) (v top : ℕ) (h : v < n) (e : top ≡ root_of (forest_in n f) v) where
  found : (r : Option ℕ) → MatchOption r ((k : ℕ) → 0 ≤ k → k < v → above_in n f top k ≡ false) (λ i. (0 ≤ i) × (i < v) × (above_in n f top i ≡ true) × ((k : ℕ) → 0 ≤ k → k < i → above_in n f top k ≡ false))
      → unwrap_or r v ≡ piece n (forest_in n f) v
  found None q = piece_found n _ v v h refl (λ j l. tree_no N v j top h (omega arith) e (q j (omega arith) l))
  found (Some i) q = piece_found n _ v i (omega (arith, q.1)) (tree_yes N v i top h (omega (arith, q.1)) e q.2) (λ j l. tree_no N v j top h (omega (arith, q.1)) e (q.3 j (omega arith) l))

pub returns : goal.returns
returns c =
    let a = c.args in let f = a.frag.now in let top = c.root-top.result in
    c.unwrap_or.ensures ∙ found a.n f c.requires.0 a.v top c.requires.1 c.root-top.ensures _ (first_from_Range _ _ _ _ (λ u. above_in a.n f top u ≡ true) (λ u. above_in a.n f top u ≡ false) c.find.ensures.ran (λ x q k. search rules) (λ x q k. search rules))
