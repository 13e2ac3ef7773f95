-- `differing::twice::class_differs` meets its contract: batch by batch, the words of the class before it stand nowhere else.
-- Assumes nothing.
use native.Mathlib.Omega.{arith}
use Rattle.differing.specs.Laws.Batches.{indexed_open, noted_twice, batchable, compared_none, compared_all, compared_twice, compared_more}
use Rattle.differing.proofs.twice.class_differs.Goals as goal

pub loop-base-init : goal.loop-base-init
loop-base-init c = compared_none c.requires.0

pub overflow_mul-n : goal.overflow_mul-n
overflow_mul-n c = omega (arith, c.loop-base.invariant.comparable.few_fragments)

pub overflow_mul-n-in-loop-base : goal.overflow_mul-n-in-loop-base
overflow_mul-n-in-loop-base c = omega (arith, c.loop-base.invariant.comparable.few_fragments)

pub note_batch-end-requires : goal.note_batch-end-requires
note_batch-end-requires c = batchable c.loop-base.invariant.comparable c.loop-base.base _ c.loop-base-test.true c.requires.1

pub returns-then-end-eq0 : goal.returns-then-end-eq0
returns-then-end-eq0 c =
    let e = c.note_batch-end.ensures in
    compared_twice c.loop-base.invariant e.outside (e.twice c.if-end-eq0.true)

pub overflow_mul-n-in-loop-base-2 : goal.overflow_mul-n-in-loop-base-2
overflow_mul-n-in-loop-base-2 c = omega (arith, c.loop-base.invariant.comparable.few_fragments)

pub overflow_mul-n-in-loop-base-3 : goal.overflow_mul-n-in-loop-base-3
overflow_mul-n-in-loop-base-3 c = omega (arith, c.loop-base.invariant.comparable.few_fragments)

pub none_noted-requires : goal.none_noted-requires
none_noted-requires c =
    let l = c.loop-base in
    let (a, k, B) = c.note_batch-end.ensures.noted c.if-end-eq0.false in
    record {
      slots = indexed_open (omega (arith, l.invariant.comparable.inside l.base c.loop-base-test.true)) (omega (arith, l.invariant.comparable.few_fragments)) B.indexed;
      indexed = B.indexed;
      order = k;
      there = l.invariant.comparable.there;
      few_classes = c.requires.1;
    }

pub returns-then-not-none_noted : goal.returns-then-not-none_noted
returns-then-not-none_noted c =
    let e = c.note_batch-end.ensures in
    let (a, k, B) = e.noted c.if-end-eq0.false in
    let (q, l, g, m) = c.none_noted.ensures.one (c.if-not-none_noted.true) in
    compared_twice c.loop-base.invariant e.outside (noted_twice B q l g m)

pub overflow_mul-n-in-loop-base-4 : goal.overflow_mul-n-in-loop-base-4
overflow_mul-n-in-loop-base-4 c = omega (arith, c.loop-base.invariant.comparable.few_fragments)

pub overflow_mul-n-in-loop-base-5 : goal.overflow_mul-n-in-loop-base-5
overflow_mul-n-in-loop-base-5 c = omega (arith, c.loop-base.invariant.comparable.few_fragments)

pub clear-requires : goal.clear-requires
clear-requires c = tt

pub loop-base-smaller : goal.loop-base-smaller
loop-base-smaller c =
    let (a, k, B) = c.note_batch-end.ensures.noted c.if-end-eq0.false in
    omega (arith, c.loop-base-test.true)

pub loop-base-preserved : goal.loop-base-preserved
loop-base-preserved c =
    let e = c.note_batch-end.ensures in
    let (a, k, B) = e.noted c.if-end-eq0.false in
    compared_more c.loop-base.invariant e.outside B k (c.none_noted.ensures.none (c.if-not-none_noted.false)) _ c.clear.ensures

pub returns : goal.returns
returns c = compared_all c.loop-base.invariant (omega arith)
