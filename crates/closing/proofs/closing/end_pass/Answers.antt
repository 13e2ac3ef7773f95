-- `closing::closing::end_pass` meets its contract: prepared, placed, cleared.
-- Assumes nothing.
use Rattle.closing.specs.Laws.Ending.{end_laid}
use Rattle.closing.proofs.closing.end_pass.Goals as goal

pub place_all-requires : goal.place_all-requires
place_all-requires c =
    let q = c.requires in
    record { told = _; closable = (c.prepare.ensures _ q.endable q.laid).closable }

pub returns : goal.returns
returns c = λ f W e. end_laid _ _ _ _ W _ _ (c.prepare.ensures f W e) _ c.place_all.ensures _ _ c.clear.ensures c.clear-2.ensures
