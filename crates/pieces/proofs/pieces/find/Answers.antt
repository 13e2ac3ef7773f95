-- `pieces::pieces::find` meets its contract: what is left of the way ends where the whole does, and each turn goes to a smaller fragment.
-- Assumes nothing.
use mathlib.Core.Path.{sym, ◌∙◌}
use native.Mathlib.Omega.{arith}
use Rattle.pieces.specs.Laws.Ways.{in_known, leads_known, found_none, going_starts, going_ends, going_less, going_next, going_down, going_on}
use Rattle.pieces.proofs.pieces.find.Goals as goal

pub returns-then-not-is_in : goal.returns-then-not-is_in
returns-then-not-is_in c = found_none _ _ _ (sym (c.if-not-is_in.true) ∙ c.is_in.ensures)

pub overflow_mul-first : goal.overflow_mul-first
overflow_mul-first c = omega (arith, in_known _ _ _ (sym (c.if-not-is_in.false) ∙ c.is_in.ensures))

pub loop-n-init : goal.loop-n-init
loop-n-init c = going_starts _ _ _ (sym (c.if-not-is_in.false) ∙ c.is_in.ensures)

pub returns-then-not-leads_on : goal.returns-then-not-leads_on
returns-then-not-leads_on c = going_ends c.loop-n.invariant (sym (c.if-not-leads_on.true) ∙ c.leads_on.ensures)

pub overflow_cast-p : goal.overflow_cast-p
overflow_cast-p c =
    let l = c.loop-n in omega (arith, going_less l.invariant (sym (c.if-not-leads_on.false) ∙ c.leads_on.ensures), l.invariant.in_range, l.invariant.few_fragments)

pub overflow_sub-p : goal.overflow_sub-p
overflow_sub-p c = (leads_known _ _ (sym (c.if-not-leads_on.false) ∙ c.leads_on.ensures)).0

pub overflow_add-up : goal.overflow_add-up
overflow_add-up c =
    let l = c.loop-n in omega (arith, going_less l.invariant (sym (c.if-not-leads_on.false) ∙ c.leads_on.ensures), l.invariant.in_range, l.invariant.few_fragments)

pub offset_bounds-frag-first-in-loop-n : goal.offset_bounds-frag-first-in-loop-n
offset_bounds-frag-first-in-loop-n c =
    let l = c.loop-n in omega (arith, going_less l.invariant (sym (c.if-not-leads_on.false) ∙ c.leads_on.ensures), l.invariant.in_range, l.invariant.few_fragments)

pub bounds-frag-first-in-loop-n : goal.bounds-frag-first-in-loop-n
bounds-frag-first-in-loop-n c = let l = c.loop-n in omega (arith, going_less l.invariant (sym (c.if-not-leads_on.false) ∙ c.leads_on.ensures), l.invariant.in_range, l.invariant.long)

pub returns-then-not-leads_on-2 : goal.returns-then-not-leads_on-2
returns-then-not-leads_on-2 c =
    going_next c.loop-n.invariant
    (sym (c.if-not-leads_on.false) ∙ c.leads_on.ensures)
    (sym (c.if-not-leads_on-2.true) ∙ c.leads_on-in-loop-n.ensures)

pub overflow_cast-u : goal.overflow_cast-u
overflow_cast-u c =
    let l = c.loop-n.invariant in
    let a = sym (c.if-not-leads_on.false) ∙ c.leads_on.ensures in
    omega (arith, going_less l a, going_down l a (sym (c.if-not-leads_on-2.false) ∙ c.leads_on-in-loop-n.ensures), l.in_range, l.few_fragments)

pub overflow_sub-u : goal.overflow_sub-u
overflow_sub-u c = (leads_known _ _ (sym (c.if-not-leads_on-2.false) ∙ c.leads_on-in-loop-n.ensures)).0

pub loop-n-smaller : goal.loop-n-smaller
loop-n-smaller c =
    let l = c.loop-n.invariant in
    let a = sym (c.if-not-leads_on.false) ∙ c.leads_on.ensures in
    omega (arith, going_less l a, going_down l a (sym (c.if-not-leads_on-2.false) ∙ c.leads_on-in-loop-n.ensures))

pub loop-n-preserved : goal.loop-n-preserved
loop-n-preserved c =
    going_on c.loop-n.invariant
    (sym (c.if-not-leads_on.false) ∙ c.leads_on.ensures)
    (sym (c.if-not-leads_on-2.false) ∙ c.leads_on-in-loop-n.ensures)
