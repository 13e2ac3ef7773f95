-- `text::lines::number` meets its contract.
-- Assumes nothing.
use native.Mathlib.Omega.{arith}
use mathlib.Core.Path.{sym}
use Rattle.text.specs.Laws.Put.{put_is, put_then, decimal_last, decimal_more, decimal_end}
use Rattle.text.proofs.lines.+number.Goals as goal

pub returns-then-x-lt10 : goal.returns-then-x-lt10
returns-then-x-lt10 t c = put_is (sym (decimal_last _ (omega arith))) c.byte.ensures

pub byte-requires-2 : goal.byte-requires-2
byte-requires-2 t c = omega (arith, decimal_end _ c.number-end.ensures (omega arith))

pub returns : goal.returns
returns t c = put_is (sym (decimal_more _ (omega arith))) (put_then c.number-end.ensures c.byte-2.ensures)
