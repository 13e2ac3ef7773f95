-- `building::noted::note_one` meets its contract: one more word in an empty slot, or nothing written.
-- Assumes nothing.
use Prim.Native.Nat.{◌-◌, ◌*◌, ◌<◌}
use native.Mathlib.Omega.{arith}
use Rattle.building.specs.Laws.Noted.{apart_set, fresh_more}
use Rattle.building.proofs.noted.note_one.Goals as goal

pub returns : goal.returns
returns c =
    let p = c.requires in
    let k = c.look-i in
    let h : k.result < 9 * c.args.n - 1 = omega (arith, k.ensures.in_range, c.if-i-size.false) in
    (fresh_more _ c.word_of-w.ensures p.0 p.1 k.ensures h (omega (arith, c.if-frag-n-ne0-3.false)), apart_set k.result _ (omega arith), omega (arith, p.0.some))
