-- `differing::ends::link_fits` meets its contract: one law for each answer.
-- Assumes nothing.
use native.Mathlib.Omega.{arith}
use Rattle.differing.specs.Laws.Links.{link_turned, link_far, link_placed, link_loose}
use Rattle.differing.proofs.ends.link_fits.Goals as goal

pub returns-then-b-a : goal.returns-then-b-a
returns-then-b-a c = link_turned _ _ _ _ (omega arith)

pub returns-then-n-b : goal.returns-then-n-b
returns-then-n-b c = link_far _ _ _ _ (omega arith) (omega arith)

pub returns-then-rank_at-ne0 : goal.returns-then-rank_at-ne0
returns-then-rank_at-ne0 c = link_placed _ _ _ _ (omega arith) (omega arith) _ c.rank_at.ensures.says (omega arith)

pub returns : goal.returns
returns c = link_loose _ _ _ _ (omega arith) (omega arith) _ c.rank_at.ensures.says (omega arith) _ c.rank_at-2.ensures.says
