-- `testing::test::but_links` meets its contract: one law for each answer.
-- Assumes nothing.
use mathlib.Core.Path.{sym, ◌∙◌}
use native.Mathlib.Omega.{arith}
use native.Mathlib.Nat.{mul-le-mul}
use Rattle.testing.specs.Laws.Fragment.{placed_few}
use Rattle.testing.specs.Laws.Test.{but_counts, but_stage, but_fragments, but_unused, but_rest}
use Rattle.testing.proofs.test.but_links.Goals as goal

pub counts_hold-requires : goal.counts_hold-requires
counts_hold-requires c = let p = c.requires in (p.fragments, p.room, placed_few _ _ _ c.count_placed-placed.ensures)

pub returns-then-not-counts_hold : goal.returns-then-not-counts_hold
returns-then-not-counts_hold c = but_counts _ _ _ _ c.count_placed-placed.ensures (sym (c.if-not-counts_hold.true) ∙ c.counts_hold.ensures)

pub returns-then-not-stage_holds : goal.returns-then-not-stage_holds
returns-then-not-stage_holds c =
    but_stage _ _ _ _ c.count_placed-placed.ensures (sym (c.if-not-counts_hold.false) ∙ c.counts_hold.ensures) (sym (c.if-not-stage_holds.true) ∙ c.stage_holds.ensures)

pub returns-then-not-fragments : goal.returns-then-not-fragments
returns-then-not-fragments c =
    but_fragments _ _ _ _ c.count_placed-placed.ensures (sym (c.if-not-counts_hold.false) ∙ c.counts_hold.ensures) (sym (c.if-not-stage_holds.false) ∙ c.stage_holds.ensures) (sym (c.if-not-fragments.true) ∙ c.fragments.ensures)

pub overflow_mul-s : goal.overflow_mul-s
overflow_mul-s c = let p = c.requires in omega (arith, mul-le-mul p.room p.fragments)

pub returns-then-not-zeros : goal.returns-then-not-zeros
returns-then-not-zeros c =
    but_unused _ _ _ _ c.count_placed-placed.ensures (sym (c.if-not-counts_hold.false) ∙ c.counts_hold.ensures) (sym (c.if-not-stage_holds.false) ∙ c.stage_holds.ensures) (sym (c.if-not-fragments.false) ∙ c.fragments.ensures) (sym (c.if-not-zeros.true) ∙ c.zeros.ensures)

pub rest_fits-requires : goal.rest_fits-requires
rest_fits-requires c = c.requires.frag_long

pub returns : goal.returns
returns c =
    but_rest _ _ _ _ c.count_placed-placed.ensures (sym (c.if-not-counts_hold.false) ∙ c.counts_hold.ensures) (sym (c.if-not-stage_holds.false) ∙ c.stage_holds.ensures) (sym (c.if-not-fragments.false) ∙ c.fragments.ensures) (sym (c.if-not-zeros.false) ∙ c.zeros.ensures) _ c.rest_fits.ensures
