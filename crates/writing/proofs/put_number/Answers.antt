-- `writing::put_number` meets its contract: what the number writer promises where there is room.
-- Assumes nothing.
use Rattle.writing.specs.Laws.Steps.{stored_whole}
use Rattle.writing.proofs.put_number.Goals as goal

pub unwrap-requires : goal.unwrap-requires
unwrap-requires c = rw (stored_whole _ _ _ c.requires _ _ c.write_number.ensures).0

pub returns : goal.returns
returns c = let p = stored_whole _ _ _ c.requires _ _ c.write_number.ensures in record { end = cc (p.0, c.unwrap.ensures); bytes = p.1 }
