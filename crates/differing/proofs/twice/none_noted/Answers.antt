-- `differing::twice::none_noted` meets its contract: none of the words of the class looked up so far is noted.
-- Assumes nothing.
use mathlib.Core.Path.{sym, ◌∙◌}
use native.Mathlib.Omega.{arith}
use Rattle.std.proofs.lemmas.Bool.{eqb-false}
use Rattle.differing.specs.Laws.Batches.{missed_none, missed_more, misses_one, misses_none}
use Rattle.differing.proofs.twice.none_noted.Goals as goal
use Rattle.differing.proofs.twice.none_noted.Goals.{else-has-via-then-has+else-is_noted, else-has-via-else-has}

pub loop-i-init : goal.loop-i-init
loop-i-init c = missed_none _ _ c.args.held.now

pub offset_bounds-held-i : goal.offset_bounds-held-i
offset_bounds-held-i c = omega (arith, c.requires.there)

pub bounds-held-i : goal.bounds-held-i
bounds-held-i c = omega (arith, c.requires.there)

pub has-requires : goal.has-requires
has-requires c = c.requires.few_classes

pub is_noted-requires : goal.is_noted-requires
is_noted-requires c = (c.requires.slots, c.requires.indexed)

pub returns-then-is_noted : goal.returns-then-is_noted
returns-then-is_noted c =
    let l = c.loop-i in
    misses_one _ _ _ _ l.i l.auto.i (omega arith) (c.is_noted.ensures.yes c.if-is_noted.true)

pub loop-i-preserved : goal.loop-i-preserved
loop-i-preserved c =
    let l = c.loop-i in
    missed_more _ _ c.args.held.now l.i l.invariant
    (elim c.else-has.branch [
      | else-has-via-then-has+else-is_noted w ↦ λ m. w.is_noted.ensures.no w.if-is_noted.false
      | else-has-via-else-has w ↦ λ m. absurd (eqb-false _ _ (sym c.has.ensures ∙ w.if-has.false) m)
    ])

pub returns : goal.returns
returns c =
    let l = c.loop-i in
    misses_none _ _ _ _ l.i (omega arith) l.invariant
