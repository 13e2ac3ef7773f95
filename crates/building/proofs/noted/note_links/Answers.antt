-- `building::noted::note_links` meets its contract: each link noted keeps what is noted.
-- Assumes nothing.
use mathlib.Core.Path.{sym, ap, ◌∙◌}
use native.Mathlib.Omega.{arith}
use Rattle.lists.specs.Answers.{told_link}
use Rattle.building.specs.Laws.Noted.{apart_none, apart_then, told_link_lem, told_ends}
use Rattle.building.proofs.noted.note_links.Goals as goal

pub loop-at-init : goal.loop-at-init
loop-at-init c = (c.requires.0, apart_none)

pub note_one-c-requires : goal.note_one-c-requires
note_one-c-requires c = (c.loop-at.invariant.0, told_ends _ _ _ _ _ _ _ (sym c.link_at.ensures ∙ ap told_link c.in-Ok.is))

pub overflow_add-told : goal.overflow_add-told
overflow_add-told c = omega (arith, told_link_lem _ _ _ _ _ _ _ (sym c.link_at.ensures ∙ ap told_link c.in-Ok.is))

pub loop-at-smaller : goal.loop-at-smaller
loop-at-smaller c = omega (arith, c.loop-at-test.true, told_link_lem _ _ _ _ _ _ _ (sym c.link_at.ensures ∙ ap told_link c.in-Ok.is))

pub loop-at-preserved : goal.loop-at-preserved
loop-at-preserved c =
    let o = c.note_one-c.ensures in
    (o.0, apart_then c.loop-at.invariant.1 o.1)
