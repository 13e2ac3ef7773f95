-- `c_words::words::pack` meets its contract.
-- Assumes nothing.
use native.Mathlib.Omega.{arith}
use lib.ListN.{length-set}
use Rattle.c_words.specs.Laws.Steps.{state_short, state_stored}
use Rattle.c_words.proofs.words.pack.Goals as goal

pub returns-then-words-lt-STATE : goal.returns-then-words-lt-STATE
returns-then-words-lt-STATE c = state_short _ _ (omega arith)

pub bounds-words-1 : goal.bounds-words-1
bounds-words-1 c = simp length-set (omega arith)

pub bounds-words-2 : goal.bounds-words-2
bounds-words-2 c = simp length-set (omega arith)

pub bounds-words-3 : goal.bounds-words-3
bounds-words-3 c = simp length-set (omega arith)

pub bounds-words-4 : goal.bounds-words-4
bounds-words-4 c = simp length-set (omega arith)

pub bounds-words-5 : goal.bounds-words-5
bounds-words-5 c = simp length-set (omega arith)

pub bounds-words-6 : goal.bounds-words-6
bounds-words-6 c = simp length-set (omega arith)

pub returns : goal.returns
returns c =
    let a = c.args in state_stored a.s a.words.now c.word_for.result c.word_for-2.result c.from.result c.word_for-3.result c.word_for-4.result c.word_for-5.result c.from-2.result (omega arith) c.word_for.ensures c.word_for-2.ensures c.from.ensures c.word_for-3.ensures c.word_for-4.ensures c.word_for-5.ensures c.from-2.ensures
