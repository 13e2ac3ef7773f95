-- `numbers::put_groups` meets its contract; the value falls to its quotient by 128 at each call.
-- Assumes nothing.
use mathlib.Core.Path.{◌∙◌}
use native.Mathlib.Omega.{arith}
use Rattle.numbers.proofs.Laws.Writing.{all_some, put_last, put_room, put_further}
use Rattle.numbers.proofs.+put_groups.Goals as goal

pub bounds-buffer-at : goal.bounds-buffer-at
bounds-buffer-at t c = omega (arith, all_some c.args.value)

pub returns-then-value-lt128 : goal.returns-then-value-lt128
returns-then-value-lt128 t c = put_last _ _ _ (omega arith) (omega arith)

pub bounds-buffer-at-2 : goal.bounds-buffer-at-2
bounds-buffer-at-2 t c = omega (arith, all_some c.args.value)

pub put_groups-requires : goal.put_groups-requires
put_groups-requires t c =
    let a = c.args in
    (omega arith, put_room a.value a.buffer.now a.at (omega arith) (omega arith))

pub returns : goal.returns
returns t c = c.put_groups.ensures ∙ put_further _ _ _ (omega arith) (omega arith)
