-- `c_telling::words::put_telling` meets its contract.
-- Assumes nothing.
use Rattle.c_telling.specs.Laws.Steps.{telling_stored}
use Rattle.c_telling.proofs.words.put_telling.Goals as goal

pub returns : goal.returns
returns c = let a = c.args in telling_stored a.t a.words.now _ _ _ c.from.ensures c.pack.ensures c.put_rest.ensures
