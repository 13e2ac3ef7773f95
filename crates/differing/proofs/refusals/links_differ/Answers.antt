-- `differing::refusals::links_differ` meets its contract: one law for each answer; where the links do not pass, scratch is cleared again.
-- Assumes nothing.
use mathlib.Core.Path.{refl, sym, ◌∙◌}
use Rattle.differing.specs.Laws.Links.{differ_ends, differ_twice}
use Rattle.differing.specs.Laws.Batches.{links_comparable, outside_back}
use Rattle.differing.proofs.refusals.links_differ.Goals as goal

pub returns-then-not-ends_fit : goal.returns-then-not-ends_fit
returns-then-not-ends_fit c = (differ_ends _ _ _ (sym (c.if-not-ends_fit.true) ∙ c.ends_fit.ensures), refl)

pub none_twice-requires : goal.none_twice-requires
none_twice-requires c = links_comparable c.requires (sym (c.if-not-ends_fit.false) ∙ c.ends_fit.ensures)

pub returns-then-not-none_twice : goal.returns-then-not-none_twice
returns-then-not-none_twice c =
    let p = c.requires in
    let t = c.none_twice.ensures in
    let ends = sym (c.if-not-ends_fit.false) ∙ c.ends_fit.ensures in
    (differ_twice _ _ _ ends _ (sym (c.if-not-none_twice.true) ∙ t.answer), c.clear.ensures ∙ outside_back _ _ _ p.long p.blank t.outside)

pub returns : goal.returns
returns c =
    let t = c.none_twice.ensures in
    let e = c.if-not-none_twice.false in
    let ends = sym (c.if-not-ends_fit.false) ∙ c.ends_fit.ensures in
    (differ_twice _ _ _ ends _ (sym e ∙ t.answer), t.back e)
