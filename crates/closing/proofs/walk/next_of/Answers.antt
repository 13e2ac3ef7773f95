-- `closing::walk::next_of` meets its contract: a smaller neighbour, else a greater one, else none.
-- Assumes nothing.
use Rattle.closing.specs.Laws.Seeking.{start_next, seek_end, seeks_smaller, seeks_greater, seeks_none}
use Prim.Native.Nat.{suc, ◌+◌, ◌*◌}
use mathlib.Core.Path.{refl}
use native.Mathlib.Omega.{arith}
use Rattle.closing.proofs.walk.next_of.Goals as goal

pub overflow_cast-frag : goal.overflow_cast-frag
overflow_cast-frag c = let a = c.args in omega (arith, c.next_smaller-i.ensures.behind.to, c.slice_known-2-1.given (4 * a.n + suc a.v))

pub smaller_at-requires : goal.smaller_at-requires
smaller_at-requires c = let a = c.args in omega (arith, start_next a.n a.frag.now a.v, seek_end c.requires)

pub returns-then-i-end : goal.returns-then-i-end
returns-then-i-end c =
    let a = c.args in
    seeks_smaller c.requires _ c.next_smaller-i.ensures _ (omega (arith, start_next a.n a.frag.now a.v)) refl _ c.smaller_at.ensures

pub overflow_cast-i : goal.overflow_cast-i
overflow_cast-i c = let a = c.args in omega (arith, c.next_smaller-i.ensures.behind.to, c.slice_known-2-1.given (4 * a.n + suc a.v))

pub returns-then-g-ne0 : goal.returns-then-g-ne0
returns-then-g-ne0 c =
    let a = c.args in
    seeks_greater c.requires _ c.next_smaller-i.ensures _ (omega (arith, start_next a.n a.frag.now a.v)) _ c.next_greater-g.ensures c.keep_cursors.ensures c.if-g-ne0.true

pub returns : goal.returns
returns c =
    let a = c.args in
    seeks_none c.requires _ c.next_smaller-i.ensures _ (omega (arith, start_next a.n a.frag.now a.v)) _ c.next_greater-g.ensures c.keep_cursors.ensures (omega arith)
