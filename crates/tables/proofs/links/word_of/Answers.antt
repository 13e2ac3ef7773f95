-- `tables::links::word_of` meets its contract: an end too great, or the smaller end in the high part.
-- Assumes nothing.
use native.Mathlib.Omega.{arith}
use Rattle.tables.specs.Laws.Links.{word_first, word_second, word_rising, word_falling}
use borrow.Author.Rules.{rules}
use Rattle.tables.proofs.links.word_of.Goals as goal

pub overflow_cast-t-3 : goal.overflow_cast-t-3
overflow_cast-t-3 c = search rules

pub returns-then-a : goal.returns-then-a
returns-then-a c = word_first _ _ (omega arith)

pub overflow_cast-t-3-2 : goal.overflow_cast-t-3-2
overflow_cast-t-3-2 c = search rules

pub returns-then-b : goal.returns-then-b
returns-then-b c = word_second _ _ (omega arith) (omega arith)

pub overflow_cast-result : goal.overflow_cast-result
overflow_cast-result c = search rules

pub overflow_mul-result : goal.overflow_mul-result
overflow_mul-result c = search rules

pub overflow_cast-result-then-a-b : goal.overflow_cast-result-then-a-b
overflow_cast-result-then-a-b c = search rules

pub overflow_add-result : goal.overflow_add-result
overflow_add-result c = search rules

pub returns-then-a-b : goal.returns-then-a-b
returns-then-a-b c = word_rising _ _ (omega arith) (omega arith) (omega arith)

pub overflow_cast-result-2 : goal.overflow_cast-result-2
overflow_cast-result-2 c = search rules

pub overflow_mul-result-2 : goal.overflow_mul-result-2
overflow_mul-result-2 c = search rules

pub overflow_cast-result-3 : goal.overflow_cast-result-3
overflow_cast-result-3 c = search rules

pub overflow_add-result-2 : goal.overflow_add-result-2
overflow_add-result-2 c = search rules

pub returns : goal.returns
returns c = word_falling _ _ (omega arith) (omega arith) (omega arith)
