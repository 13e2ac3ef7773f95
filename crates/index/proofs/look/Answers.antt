-- `index::look` meets its contract: every slot on the way holds another word.
-- Assumes nothing.
use mathlib.Core.Path.{◌≡◌}
use native.Mathlib.Omega.{arith}
use Rattle.index.specs.Laws.Index.{home_most, way_none, way_more, place_end}
use Rattle.index.proofs.look.Goals as goal

pub loop-i-init : goal.loop-i-init
loop-i-init c = (omega arith, rw c.home-from.ensures way_none)

pub returns-then-x-eq0 : goal.returns-then-x-eq0
returns-then-x-eq0 c = record { in_range = omega arith; way = c.loop-i.invariant.1; ends = λ h d. absurd (d c.if-x-eq0.true) }

pub returns-then-x-w : goal.returns-then-x-w
returns-then-x-w c = record { in_range = omega arith; way = c.loop-i.invariant.1; ends = λ h d. c.if-x-w.true }

pub loop-i-preserved : goal.loop-i-preserved
loop-i-preserved c = (omega arith, way_more c.loop-i.invariant.1 c.if-x-eq0.false c.if-x-w.false)

pub returns : goal.returns
returns c =
    let e : c.max.result ≡ c.loop-i.i = omega arith in
    rw e (place_end (omega (arith, home_most c.args.size c.args.w)) c.loop-i.invariant.1 (omega arith))
