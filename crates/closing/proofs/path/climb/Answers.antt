-- `closing::path::climb` meets its contract: what is left of the path keeps the rest.
-- Assumes nothing.
use mathlib.Core.List.{[]}
use Rattle.closing.specs.Laws.Frames.{wide_by}
use Rattle.closing.specs.Laws.Copying.{keepable, climbing_starts, climbing_up, climbing_ends}
use Rattle.state.proofs.Laws.Layout.{level_word}
use Rattle.state.specs.Layout.{bare}
use Rattle.std.proofs.Math.Nat.{sub-zero, sub-add-eq}
use native.Mathlib.Omega.{arith}
use Rattle.closing.proofs.path.climb.Goals as goal

pub overflow_sub-steps : goal.overflow_sub-steps
overflow_sub-steps c = let a = c.args in omega (arith, level_word (bare a.n) a.frag.now [] a.deepest (omega arith), level_word (bare a.n) a.frag.now [] a.top (omega arith))

pub loop-init : goal.loop-init
loop-init c = rw sub-zero (climbing_starts _ _ _ _ c.requires)

pub copy-requires : goal.copy-requires
copy-requires c = let l = c.loop in (keepable (wide_by l.invariant.beside.same_long c.requires.wide), l.invariant.in_range)

pub loop-preserved : goal.loop-preserved
loop-preserved c = let l = c.loop in rw (c.copy.ensures, sub-add-eq) (climbing_up _ _ _ _ _ _ _ l.invariant c.requires.standing (omega arith))

pub returns : goal.returns
returns c = let l = c.loop in rw c.copy-2.ensures (climbing_ends _ _ _ _ _ _ _ l.invariant (omega arith))
