-- `lists::cut` meets its contract: the cut is the same from every link on.
-- Assumes nothing.
use mathlib.Core.Path.{refl, sym, ap, ◌∙◌}
use native.Mathlib.Omega.{arith}
use Rattle.numbers.specs.Answers.{number_of}
use Rattle.numbers.proofs.Unique.{unfinished_only}
use Rattle.lists.specs.List.{cut_block}
use Rattle.lists.specs.Answers.{told_ends}
use Rattle.lists.specs.Laws.Link.{ends_of, ends_not_of, ends_within}
use Rattle.lists.specs.Laws.File.{cut_on, cut_here, cut_all}
use Rattle.lists.proofs.cut.Goals as goal

pub loop-next-init : goal.loop-next-init
unfolding cut_block
loop-next-init c = refl

pub loop-next-smaller : goal.loop-next-smaller
loop-next-smaller c = let w = ends_within (ends_of _ _ _ (sym c.ends_at.ensures ∙ ap told_ends c.in-Ok.is)) in omega arith

pub loop-next-preserved : goal.loop-next-preserved
loop-next-preserved c = cut_on (ends_of _ _ _ (sym c.ends_at.ensures ∙ ap told_ends c.in-Ok.is)) ∙ c.loop-next.invariant

pub returns-in-Unfinished : goal.returns-in-Unfinished
returns-in-Unfinished c = cut_here (ends_not_of _ _ _ _ (sym c.ends_at.ensures ∙ ap told_ends c.in-Err.is)) (ap number_of c.in-Unfinished.is) ∙ c.loop-next.invariant

pub returns-in_default : goal.returns-in_default
returns-in_default c =
    cut_all (ends_not_of _ _ _ _ (sym c.ends_at.ensures ∙ ap told_ends c.in-Err.is)) (λ e. c.in_default.not-Unfinished (unfinished_only _ e)) ∙ c.loop-next.invariant
