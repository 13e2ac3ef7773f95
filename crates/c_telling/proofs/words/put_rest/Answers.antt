-- `c_telling::words::put_rest` meets its contract.
-- Assumes nothing.
use native.Mathlib.Omega.{arith}
use lib.ListN.{length-set}
use Rattle.c_telling.specs.Laws.Steps.{rest_short, rest_stored}
use Rattle.c_telling.proofs.words.put_rest.Goals as goal

pub returns-then-words-lt-TELLING : goal.returns-then-words-lt-TELLING
returns-then-words-lt-TELLING c = rest_short _ _ _ _ _ (omega arith)

pub bounds-words-8 : goal.bounds-words-8
bounds-words-8 c = simp length-set (omega arith)

pub bounds-words-9 : goal.bounds-words-9
bounds-words-9 c = simp length-set (omega arith)

pub bounds-words-10 : goal.bounds-words-10
bounds-words-10 c = simp length-set (omega arith)

pub bounds-words-11 : goal.bounds-words-11
bounds-words-11 c = simp length-set (omega arith)

pub bounds-words-12 : goal.bounds-words-12
bounds-words-12 c = simp length-set (omega arith)

pub returns : goal.returns
returns c =
    let a = c.args in rest_stored a.step a.place a.count a.number a.words.now c.low.result c.high.result c.low-2.result c.high-2.result (omega arith) c.low.ensures c.high.ensures c.low-2.ensures c.high-2.ensures
