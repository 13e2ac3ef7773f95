-- `reading::tell::tell` meets its contract: what is left to read from here gives the whole.
-- Assumes nothing.
use mathlib.Core.Path.{sym, ap, ◌∙◌}
use native.Mathlib.Omega.{arith}
use Rattle.lists.specs.Laws.Link.{link_told_lem}
use Rattle.lists.specs.Answers.{told_link}
use Rattle.reading.specs.Laws.Tell.{telling_starts, telling_on, telling_ends, telling_whole, kept_numbered}
use Rattle.reading.proofs.tell.tell.Goals as goal

pub loop-at-init : goal.loop-at-init
loop-at-init c = telling_starts _ _ _ _ _ c.requires.1

pub read_link-crosses-requires : goal.read_link-crosses-requires
read_link-crosses-requires c =
    let x = link_told_lem _ _ _ _ _ (sym c.link_at.ensures ∙ ap told_link c.in-Ok.is) in
    (kept_numbered c.requires.0 c.loop-at.invariant.kept, omega arith, omega arith)

pub overflow_add-told : goal.overflow_add-told
overflow_add-told c = let x = link_told_lem _ _ _ _ _ (sym c.link_at.ensures ∙ ap told_link c.in-Ok.is) in omega arith

pub loop-at-smaller : goal.loop-at-smaller
loop-at-smaller c = let x = link_told_lem _ _ _ _ _ (sym c.link_at.ensures ∙ ap told_link c.in-Ok.is) in omega arith

pub loop-at-preserved : goal.loop-at-preserved
loop-at-preserved c =
    telling_on c.loop-at.invariant _ _ _ (sym c.link_at.ensures ∙ ap told_link c.in-Ok.is)
    _ _ c.wide.ensures.says c.wide-in-Ok.ensures.says _ _ c.read_link-crosses.ensures

pub returns-in-Err : goal.returns-in-Err
returns-in-Err c = telling_whole c.loop-at.invariant c.requires.0.whole.few c.loop-at-test.true _ _ (sym c.link_at.ensures ∙ ap told_link c.in-Err.is)

pub returns : goal.returns
returns c = telling_ends c.loop-at.invariant (omega arith)
