-- `differing::ends::ends_fit` meets its contract: what is left to look at gives the answer.
-- Assumes nothing.
use mathlib.Core.Path.{sym, ap, ◌∙◌}
use native.Mathlib.Omega.{arith}
use Rattle.state.specs.Layout.{forest_in}
use Rattle.state.specs.Test.{ends_fit}
use Rattle.differing.specs.Laws.Links.{left_whole, ends_more, ends_off, ends_all}
use Rattle.differing.proofs.ends.ends_fit.Goals as goal

pub loop-i-init : goal.loop-i-init
loop-i-init c = let a = c.args in ap (λ l. ends_fit a.n (forest_in a.n a.frag.now) l) (left_whole a.held.now a.count)

pub returns-then-not-link_fits : goal.returns-then-not-link_fits
returns-then-not-link_fits c =
    let l = c.loop-i in
    ends_off _ _ l.i (omega arith) c.requires _ _ c.low_end-a.ensures c.high_end-b.ensures _ _ (sym (c.if-not-link_fits.true) ∙ c.link_fits.ensures) ∙ l.invariant

pub loop-i-preserved : goal.loop-i-preserved
loop-i-preserved c =
    let l = c.loop-i in
    ends_more _ _ l.i (omega arith) c.requires _ _ c.low_end-a.ensures c.high_end-b.ensures _ _ (sym (c.if-not-link_fits.false) ∙ c.link_fits.ensures) ∙ l.invariant

pub returns : goal.returns
returns c = let l = c.loop-i in ends_all _ _ l.i (omega arith) _ _ ∙ l.invariant
