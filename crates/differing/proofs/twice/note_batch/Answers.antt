-- `differing::twice::note_batch` meets its contract: the words of the class so far are noted, and each finds an empty slot.
-- Assumes nothing.
use Prim.Native.Nat.{◌<◌}
use mathlib.Core.Path.{◌≡◌, sym, ◌∙◌}
use native.Mathlib.Omega.{arith}
use Rattle.std.proofs.lemmas.Bool.{eqb-false}
use Rattle.index.specs.Laws.Index.{outside_none, outside_set}
use Rattle.differing.specs.Laws.Batches.{batch_none, batch_pass, batch_full, batch_twice, batch_more, batches_stop, batches_twice}
use Rattle.differing.proofs.twice.note_batch.Goals as goal

pub loop-i-init : goal.loop-i-init
loop-i-init c = (batch_none c.requires, outside_none)

pub offset_bounds-held-i : goal.offset_bounds-held-i
offset_bounds-held-i c = omega (arith, c.requires.there)

pub bounds-held-i : goal.bounds-held-i
bounds-held-i c = omega (arith, c.requires.there)

pub has-requires : goal.has-requires
has-requires c = c.requires.few_classes

pub loop-i-preserved-then-not-has : goal.loop-i-preserved-then-not-has
loop-i-preserved-then-not-has c =
    let l = c.loop-i in
    (batch_pass l.invariant.0 (eqb-false _ _ (sym c.has.ensures ∙ c.if-not-has.true)), l.invariant.1)

pub overflow_cast-size : goal.overflow_cast-size
overflow_cast-size c = omega (arith, c.requires.slots.few_slots)

pub returns-then-s-size : goal.returns-then-s-size
returns-then-s-size c =
    let l = c.loop-i in
    batches_stop l.invariant.1 l.invariant.0 (batch_full l.invariant.0 c.look-s.ensures c.requires.slots.some c.if-s-size.true) (omega arith)

pub overflow_add-at : goal.overflow_add-at
overflow_add-at c = omega (arith, c.loop-i.invariant.0.indexed.long, c.look-s.ensures.in_range, c.loop-i.invariant.1.same_long)

pub offset_bounds-frag-at : goal.offset_bounds-frag-at
offset_bounds-frag-at c = omega (arith, c.loop-i.invariant.0.indexed.long, c.look-s.ensures.in_range, c.loop-i.invariant.1.same_long)

pub bounds-frag-at : goal.bounds-frag-at
bounds-frag-at c = omega (arith, c.loop-i.invariant.0.indexed.long, c.look-s.ensures.in_range, c.if-s-size.false)

pub returns-then-frag-at-ne0 : goal.returns-then-frag-at-ne0
returns-then-frag-at-ne0 c =
    let l = c.loop-i in
    batches_twice l.invariant.1 (batch_twice l.invariant.0 c.look-s.ensures (omega (arith, c.look-s.ensures.in_range, c.if-s-size.false)) _ (omega arith) c.if-frag-at-ne0.true)

pub overflow_add-frag : goal.overflow_add-frag
overflow_add-frag c = omega (arith, c.loop-i.invariant.0.indexed.long, c.look-s.ensures.in_range, c.loop-i.invariant.1.same_long)

pub offset_bounds-frag-at-in-loop-i : goal.offset_bounds-frag-at-in-loop-i
offset_bounds-frag-at-in-loop-i c = omega (arith, c.loop-i.invariant.0.indexed.long, c.look-s.ensures.in_range, c.loop-i.invariant.1.same_long)

pub bounds-frag-at-in-loop-i : goal.bounds-frag-at-in-loop-i
bounds-frag-at-in-loop-i c = omega (arith, c.loop-i.invariant.0.indexed.long, c.look-s.ensures.in_range, c.if-s-size.false)

pub loop-i-preserved : goal.loop-i-preserved
loop-i-preserved c =
    let l = c.loop-i in
    let p = c.requires in
    let s = c.look-s in
    let r : s.result < c.args.size = omega (arith, s.ensures.in_range, c.if-s-size.false) in
    let k = p.small l.i (omega arith) in
    (batch_more l.invariant.0 s.ensures r l.auto.i k.0 k.1 (omega (arith, c.if-frag-at-ne0.false)), outside_set s.result _ r l.invariant.1)

pub returns : goal.returns
returns c =
    let l = c.loop-i in
    let e : l.i ≡ c.args.to = omega (arith, c.requires.some) in
    rw (← e) (batches_stop l.invariant.1 l.invariant.0 (omega (arith, c.requires.some)) (omega arith))
