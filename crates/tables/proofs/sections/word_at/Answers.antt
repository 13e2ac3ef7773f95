-- `tables::sections::word_at` meets its contract: none, past the table, or there.
-- Assumes nothing.
use native.Mathlib.Omega.{arith}
use mathlib.Core.Path.{refl}
use native.Mathlib.Nat.{mul-le-mul_right}
use Rattle.tables.specs.Laws.Sections.{word_none, word_short, word_past, word_there}
use Rattle.tables.proofs.sections.word_at.Goals as goal

pub returns-then-n-v : goal.returns-then-n-v
returns-then-n-v c = word_none _ _ _ _ (omega arith)

pub returns-then-frag-n : goal.returns-then-frag-n
returns-then-frag-n c = word_short _ _ _ _ c.requires.0 (omega arith)

pub overflow_mul-i : goal.overflow_mul-i
overflow_mul-i c = let a = c.args in omega (arith, mul-le-mul_right {m = a.j} {n = 6} a.n c.requires.1)

pub overflow_add-i : goal.overflow_add-i
overflow_add-i c = let a = c.args in omega (arith, mul-le-mul_right {m = a.j} {n = 6} a.n c.requires.1)

pub returns-then-frag-i : goal.returns-then-frag-i
returns-then-frag-i c = word_past _ _ _ _ (omega arith)

pub returns : goal.returns
returns c = word_there _ _ _ _ (omega arith) _ _ refl c.wide.ensures
