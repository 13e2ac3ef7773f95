-- `lists::scan_from` meets its contract: the links told so far and what is left from `at` on give the whole answer; inside, how many of a link's numbers are read.
-- Assumes nothing.
use mathlib.Core.Path.{◌≡◌, sym, ap, ◌∙◌}
use Prim.Native.Nat.{◌-◌}
use native.Mathlib.Omega.{arith}
use Rattle.numbers.specs.Answers.{told, due}
use Rattle.numbers.proofs.Unique.{number_some}
use Rattle.lists.specs.Laws.Link.{ends_within, no_ends_some, link_is_not}
use Rattle.lists.specs.Scan.{scan_from, scan_end}
use Rattle.lists.specs.Laws.Scan.{halfway_starts, halfway_on, halfway_off, scanning_starts, scan_on, scan_off, scan_end_lem, good_link, link_bad, link_good}
use Rattle.lists.proofs.scan_from.Goals as goal
use Rattle.lists.proofs.scan_from.Goals.{else-links-test, then-links-test+then-loop-ends-test+in-Err, then-links-test+else-loop-ends-test+in-Err-bad_link, Left-links}

-- However the loop is left: past the last link, at a number refused, or at a bad link.
out : (c : Left-links)
    → scan_end (due c.links-test.bad) c.links.at (c.links.told - c.args.entries)
    ≡ scan_from c.args.n c.args.entries c.args.block.now c.args.from
out c =
    let i = c.links.invariant in
    elim c.links-test.branch [
      | else-links-test w ↦ scan_end_lem i w.links-test.false _ (ap due w.bad-is)
      | then-links-test+then-loop-ends-test+in-Err w ↦
          let d = halfway_off w.loop-ends.invariant.0 w.loop-ends-test.true _ _ (sym w.read_number.ensures ∙ ap told w.in-Err.is) in
          scan_off i w.links-test.true _ (no_ends_some d) (link_is_not _ _ d) _ (ap due w.bad-is)
      | then-links-test+else-loop-ends-test+in-Err-bad_link w ↦
          scan_off i w.links-test.true _ (number_some _) (link_bad _ _ (w.loop-ends.invariant.0.both w.loop-ends-test.false) _ (sym (ap due w.in-Err-bad_link.is) ∙ w.bad_link.ensures) (number_some _)) _ (ap due w.bad-is)
    ]

pub links-init : goal.links-init
links-init c = scanning_starts _ _ _ _

pub loop-ends-init : goal.loop-ends-init
loop-ends-init c = (halfway_starts _ _, c.links.invariant.clean)

pub loop-ends-preserved : goal.loop-ends-preserved
loop-ends-preserved c = (halfway_on c.loop-ends.invariant.0 c.loop-ends-test.true _ _ (sym c.read_number.ensures ∙ ap told c.in-Ok.is), c.loop-ends.invariant.1)

pub overflow_add-told : goal.overflow_add-told
overflow_add-told c = omega (arith, (good_link _ _ _ _ (sym c.bad_link.ensures ∙ ap due c.in-Ok-bad_link.is)).1)

pub links-smaller : goal.links-smaller
links-smaller c = let w = ends_within (c.loop-ends.invariant.0.both c.loop-ends-test.false) in omega arith

pub links-preserved : goal.links-preserved
links-preserved c =
    scan_on c.links.invariant _ (link_good _ _ (c.loop-ends.invariant.0.both c.loop-ends-test.false) (sym c.bad_link.ensures ∙ ap due c.in-Ok-bad_link.is)) _ c.loop-ends.invariant.1

pub overflow_sub-told : goal.overflow_sub-told
overflow_sub-told c = c.links.invariant.more

pub returns : goal.returns
returns c = c.answered.ensures ∙ out (goal.at.returns c).Left-links
