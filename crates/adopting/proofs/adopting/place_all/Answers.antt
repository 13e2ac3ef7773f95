-- `adopting::adopting::place_all` meets its contract: the fragments below v are written.
-- Assumes nothing.
use mathlib.Core.Path.{refl}
use native.Mathlib.Omega.{arith}
use Rattle.adopting.specs.Laws.Adopt.{rank_few, placed_none, placed_more, placed_end}
use Rattle.adopting.proofs.adopting.place_all.Goals as goal

pub loop-v-init : goal.loop-v-init
loop-v-init c = placed_none _ _ _

pub rank_of-rank-requires : goal.rank_of-rank-requires
rank_of-rank-requires c =
    let p = c.requires in let l = c.loop-v in
    (record { few = p.0.few; long = omega (arith, p.0.long, l.invariant.as_long) }, p.1, omega arith, l.invariant.levels)

pub overflow_cast-frag : goal.overflow_cast-frag
overflow_cast-frag c = let p = c.requires in omega (arith, p.0.few, c.rank_of-rank.ensures, rank_few _ _ p.1 c.loop-v.v (omega arith))

pub loop-v-preserved : goal.loop-v-preserved
loop-v-preserved c =
    let l = c.loop-v in let p = c.requires in
    placed_more _ _ _ _ l.v _ _ l.invariant (omega arith) (omega (arith, p.0.long, l.invariant.as_long)) refl c.rank_of-rank.ensures

pub returns : goal.returns
returns c = placed_end c.loop-v.invariant (omega arith)
