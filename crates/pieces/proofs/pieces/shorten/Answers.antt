-- `pieces::pieces::shorten` meets its contract: after v turns the fragments below v point to the smallest members.
-- Assumes nothing.
use native.Mathlib.Omega.{arith}
use Rattle.pieces.specs.Laws.Gathered.{shortening_none, shortening_long, shortening_down, shortening_own, shortening_more, shortening_all}
use Rattle.pieces.proofs.pieces.shorten.Goals as goal
use Rattle.pieces.proofs.pieces.shorten.Goals.{then-frag-n-ne0, else-frag-n-ne0}

pub loop-v-init : goal.loop-v-init
loop-v-init c = shortening_none _ _

pub shorten_one-requires : goal.shorten_one-requires
shorten_one-requires c =
    let l = c.loop-v in
    let p = c.requires in
    record {
      few_fragments = p.gathered.pointing.few_fragments;
      long = shortening_long p (omega arith) l.invariant;
      in_range = omega arith;
      some = omega arith;
      down = shortening_down p (omega arith) l.invariant;
    }

pub loop-v-preserved : goal.loop-v-preserved
loop-v-preserved c =
    let l = c.loop-v in
    elim c.if-frag-n-ne0.branch [
      | then-frag-n-ne0 w ↦ rw (w.frag-is, w.shorten_one.ensures) (shortening_more c.requires (omega arith) l.invariant (omega arith))
      | else-frag-n-ne0 w ↦ rw w.frag-is (shortening_own c.requires (omega arith) l.invariant (omega arith))
    ]

pub returns : goal.returns
returns c =
    let l = c.loop-v in
    shortening_all (omega (arith, c.requires.gathered.pointing.long)) (omega arith) l.invariant
