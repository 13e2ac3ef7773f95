-- `c_calls::tell_file::welmocant_begin` meets its contract.
-- Assumes nothing.
use native.Mathlib.Omega.{arith}
use Rattle.c_calls.specs.Laws.Tell.{begin_short, begin_long}
use Rattle.c_calls.proofs.tell_file.welmocant_begin.Goals as goal

pub returns-then-words-lt-TELLING : goal.returns-then-words-lt-TELLING
returns-then-words-lt-TELLING c = begin_short _ _ (omega arith)

pub returns : goal.returns
returns c = begin_long _ c.args.words.now (omega arith) _ _ _ c.wide.ensures c.begin.ensures c.put_telling.ensures
