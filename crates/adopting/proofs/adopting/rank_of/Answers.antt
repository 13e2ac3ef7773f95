-- `adopting::adopting::rank_of` meets its contract: i steps lead to u, and u has the rest of the level.
-- Assumes nothing.
use mathlib.Core.Path.{◌∙◌}
use native.Mathlib.Omega.{arith}
use Rattle.adopting.specs.Laws.Adopt.{rank_few, rank_in, rank_root, rank_child}
use Rattle.adopting.proofs.adopting.rank_of.Goals as goal

pub loop-u-init : goal.loop-u-init
loop-u-init c = (c.requires.2, omega arith)

pub offset_bounds-parents-u : goal.offset_bounds-parents-u
offset_bounds-parents-u c = let p = c.requires in omega (arith, p.0.few)

pub bounds-parents-u : goal.bounds-parents-u
bounds-parents-u c = let p = c.requires in omega (arith, p.1.long)

pub overflow_add-result : goal.overflow_add-result
overflow_add-result c = let p = c.requires in omega (arith, p.0.few, c.loop-u.invariant.1, rank_few _ _ p.1 _ p.2)

pub returns-then-p-u : goal.returns-then-p-u
returns-then-p-u c = let l = c.loop-u in rank_root _ _ c.requires.1 _ _ _ l.invariant.1 l.invariant.0 _ c.wide-p.ensures.says (omega arith)

pub overflow_add-result-then-p-v : goal.overflow_add-result-then-p-v
overflow_add-result-then-p-v c = let p = c.requires in omega (arith, p.0.few, c.loop-u.invariant.1, rank_few _ _ p.1 _ p.2)

pub overflow_add-n : goal.overflow_add-n
overflow_add-n c = let p = c.requires in omega (arith, p.0.few, p.2)

pub offset_bounds-frag-n : goal.offset_bounds-frag-n
offset_bounds-frag-n c = let p = c.requires in omega (arith, p.0.few, p.2)

pub bounds-frag-n : goal.bounds-frag-n
bounds-frag-n c = let p = c.requires in omega (arith, p.0.long, p.2)

pub overflow_add-result-then-p-v-2 : goal.overflow_add-result-then-p-v-2
overflow_add-result-then-p-v-2 c = let p = c.requires in omega (arith, p.0.few, c.loop-u.invariant.1, rank_few _ _ p.1 _ p.2, c.wide.ensures.small)

pub returns-then-p-v : goal.returns-then-p-v
returns-then-p-v c =
    let l = c.loop-u in let p = c.requires in
    omega (arith, l.invariant.1, c.wide.ensures.says ∙ p.3 c.wide-p.result (omega arith), rank_child _ _ p.1 _ _ _ l.invariant.1 l.invariant.0 _ c.wide-p.ensures.says (λ e. omega arith))

pub overflow_add-i : goal.overflow_add-i
overflow_add-i c = let p = c.requires in omega (arith, p.0.few, c.loop-u.invariant.1, rank_few _ _ p.1 _ p.2)

pub loop-u-smaller : goal.loop-u-smaller
loop-u-smaller c =
    let l = c.loop-u in let p = c.requires in omega (arith, rank_child _ _ p.1 _ _ _ l.invariant.1 l.invariant.0 _ c.wide-p.ensures.says (λ e. omega arith))

pub loop-u-preserved : goal.loop-u-preserved
loop-u-preserved c =
    let l = c.loop-u in let p = c.requires in
    (rank_in _ _ p.1 _ _ _ l.invariant.1 l.invariant.0 _ c.wide-p.ensures.says, omega (arith, l.invariant.1, rank_child _ _ p.1 _ _ _ l.invariant.1 l.invariant.0 _ c.wide-p.ensures.says (λ e. omega arith)))
