-- `asking::cutting::has_two` meets its contract: no child, or the first and where its turns end.
-- Assumes nothing.
use Prim.Native.Nat.{ℕ, ◌+◌, ◌<◌}
use mathlib.Core.Path.{◌≡◌, refl, ap, ◌∙◌}
use native.Mathlib.Omega.{arith}
use Rattle.rules.specs.Numbers.{turn as turn_of, end as end_of, at_turn}
use Rattle.state.specs.Layout.{forest_in, whose_in}
use Rattle.testing.specs.Laws.Whole.{levels}
use Rattle.asking.specs.Laws.Ranges.{end_in_lem, walk_starts, walk_child, two_none, two_first}
use Rattle.asking.proofs.cutting.has_two.Goals as goal

pub returns-then-end-i : goal.returns-then-end-i
returns-then-end-i c =
    let N = c.requires.0 in
    let h = c.requires.1 in
    two_none _ _ (levels N.whole) _ h (omega (arith, N.ends _ h, N.turns _ h))

pub returns : goal.returns
returns c =
    let N = c.requires.0 in
    let h = c.requires.1 in
    let L = levels N.whole in
    let n = c.args.n in
    let t = forest_in n c.args.frag.now in
    let i = turn_of n t c.args.v + 1 in
    let ei : c.turn_at-i.result + 1 ≡ i = ap (λ (j : ℕ). j + 1) (c.turn_at-i.ensures.says ∙ N.turns c.args.v h) in
    let ee = c.end_at-end.ensures.says ∙ N.ends c.args.v h in
    let l : i < end_of n t c.args.v = omega arith in
    let ew : c.whose_at.result ≡ at_turn n t i = c.whose_at.ensures.says ∙ ap (λ (j : ℕ). whose_in n c.args.frag.now j) ei ∙ N.whose i (omega (arith, end_in_lem n t L c.args.v h)) in
    let k = (walk_child n t L c.args.v h i (walk_starts n t L c.args.v h i refl) l c.whose_at.result ew).0 in
    rw (c.end_at.ensures.says, N.ends c.whose_at.result k, ee) (two_first n t L c.args.v h l c.whose_at.result ew)
