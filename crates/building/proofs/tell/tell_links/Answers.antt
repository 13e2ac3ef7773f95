-- `building::tell::tell_links` meets its contract: what is left of the block leads to what the whole block leaves.
-- Assumes nothing.
use native.Mathlib.Omega.{arith}
use mathlib.Core.Path.{sym, ap, ◌∙◌}
use Rattle.lists.specs.Answers.{told_link}
use Rattle.building.specs.Laws.Telling.{midway_starts, midway_bad, midway_end, midway_link, midway_ends, midway_next}
use Rattle.building.proofs.tell.tell_links.Goals as goal

pub loop-at-init : goal.loop-at-init
loop-at-init c =
    let p = c.requires in
    midway_starts p.0 p.1

pub build_link-count-requires : goal.build_link-count-requires
build_link-count-requires c =
    let m = c.loop-at.invariant in
    (m.leaves.telling, midway_ends m _ _ _ (sym c.link_at.ensures ∙ ap told_link c.in-Ok.is))

pub overflow_add-told : goal.overflow_add-told
overflow_add-told c = omega (arith, midway_link c.loop-at.invariant _ _ _ (sym c.link_at.ensures ∙ ap told_link c.in-Ok.is))

pub loop-at-smaller : goal.loop-at-smaller
loop-at-smaller c = omega (arith, midway_link c.loop-at.invariant _ _ _ (sym c.link_at.ensures ∙ ap told_link c.in-Ok.is))

pub loop-at-preserved : goal.loop-at-preserved
loop-at-preserved c = midway_next c.loop-at.invariant _ _ _ (sym c.link_at.ensures ∙ ap told_link c.in-Ok.is) c.build_link-count.ensures

pub returns-in-Err : goal.returns-in-Err
returns-in-Err c = absurd (midway_bad c.loop-at.invariant _ _ c.loop-at-test.true (sym c.link_at.ensures ∙ ap told_link c.in-Err.is))

pub returns : goal.returns
returns c = midway_end c.loop-at.invariant (omega arith)
