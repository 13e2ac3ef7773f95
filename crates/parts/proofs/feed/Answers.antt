-- `parts::feed` meets its contract.
-- Assumes nothing.
use Rattle.std.proofs.Common.{sym, refl, arith, length-take-le}
use Rattle.parts.specs.Steps.{feed_short, feed_on, feed_bad}
use Rattle.parts.proofs.feed.Goals as goal

pub returns-then-buffer-len : goal.returns-then-buffer-len
returns-then-buffer-len c = rw (c.from.ensures.0, c.from.ensures.1) (feed_short _ _ _ _ _ _ _ (omega arith))

pub slice_bounds-take-end-2 : goal.slice_bounds-take-end-2
slice_bounds-take-end-2 c = sym (length-take-le c.tell_to-end.result _ (omega (arith, c.tell_to-end.ensures.1)))

pub returns-in-Ok : goal.returns-in-Ok
returns-in-Ok c =
    let k = (rw c.in-Ok.is at c.take.ensures) in feed_on _ _ _ _ c.args.len _ _ (omega arith) _ c.tell_to-end.ensures.0 _ k refl _ _ refl c.carry.ensures

pub returns-in-Err : goal.returns-in-Err
returns-in-Err c =
    let k = (rw c.in-Err.is at c.take.ensures) in let e = c.in_file.ensures in rw e.0 (feed_bad _ _ _ _ c.args.len _ _ (omega arith) _ c.tell_to-end.ensures.0 _ k _ _ _ refl e.1)
