-- `text::no_file_line` meets its contract.
-- Assumes nothing.
use mathlib.Core.Path.{refl}
use native.Mathlib.Omega.{arith}
use Rattle.text.specs.Laws.Put.{store_short, store_done}
use Rattle.text.proofs.no_file_line.Goals as goal

pub returns-then-out-size : goal.returns-then-out-size
returns-then-out-size c = store_short c.no_file_text-size.ensures _ _ refl (omega arith)

pub returns : goal.returns
returns c = store_done c.no_file_text-size.ensures _ _ _ (omega arith) c.no_file_text.ensures
