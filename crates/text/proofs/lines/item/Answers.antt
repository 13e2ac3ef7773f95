-- `text::lines::item` meets its contract.
-- Assumes nothing.
use Rattle.text.specs.Laws.Put.{line_item}
use native.Mathlib.Omega.{arith}
use Rattle.text.proofs.lines.item.Goals as goal

pub returns : goal.returns
returns c = line_item _ _ (omega arith) (omega arith) c.word-middle.ensures c.number.ensures
