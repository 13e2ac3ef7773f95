-- `building::links::is_among` meets its contract: what is left to look at gives the answer.
-- Assumes nothing.
use mathlib.Core.Path.{sym, ◌∙◌}
use native.Mathlib.Omega.{arith}
use Rattle.building.specs.Laws.Among.{among_more, among_hit, among_none}
use Rattle.building.proofs.links.is_among.Goals as goal

pub returns-then-is_same : goal.returns-then-is_same
returns-then-is_same c =
    let l = c.loop-i in
    among_hit _ _ l.i (omega arith) c.requires.1 _ _ c.low_end-c.ensures c.high_end-d.ensures _ _ (sym c.if-is_same.true ∙ c.is_same.ensures) ∙ l.invariant

pub loop-i-preserved : goal.loop-i-preserved
loop-i-preserved c =
    let l = c.loop-i in
    among_more _ _ l.i (omega arith) c.requires.1 _ _ c.low_end-c.ensures c.high_end-d.ensures _ _ (sym c.if-is_same.false ∙ c.is_same.ensures) ∙ l.invariant

pub returns : goal.returns
returns c = let l = c.loop-i in among_none _ _ l.i (omega arith) _ _ ∙ l.invariant
