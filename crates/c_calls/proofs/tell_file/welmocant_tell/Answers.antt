-- `c_calls::tell_file::welmocant_tell` meets its contract.
-- Assumes nothing.
use native.Mathlib.Omega.{arith}
use Rattle.c_calls.specs.Laws.Tell.{tell_short, tell_long}
use Rattle.c_calls.proofs.tell_file.welmocant_tell.Goals as goal

pub returns-then-words-lt-TELLING : goal.returns-then-words-lt-TELLING
returns-then-words-lt-TELLING c = tell_short _ _ _ _ _ _ (omega arith)

pub returns : goal.returns
returns c =
    let a = c.args in tell_long a.words.now a.frag.now a.held.now a.buffer.now a.text.now _ (omega arith) _ _ c.tell-next.result _ _ _ _ _ c.telling_in-t.ensures c.heard_in.ensures c.tell-next.ensures c.end_tell.ensures
