-- `closing::walk::hang` meets its contract: a root, or under the fragment noted, whose level fits.
-- Assumes nothing.
use mathlib.Core.List.{[]}
use Rattle.closing.specs.Laws.Walking.{hung_root, hung_under}
use Rattle.state.proofs.Laws.Layout.{level_word}
use Rattle.state.specs.Layout.{bare}
use native.Mathlib.Omega.{arith}
use Prim.Native.Nat.{◌-◌}
use mathlib.Core.Path.{◌∙◌}
use Rattle.closing.proofs.walk.hang.Goals as goal

pub overflow_add-r-else-note-eq0 : goal.overflow_add-r-else-note-eq0
overflow_add-r-else-note-eq0 c = let a = c.args in omega (arith, level_word (bare a.n) a.frag.now [] (a.note - 1) (omega arith), c.requires.levels (a.note - 1) (omega arith))

pub returns-then-note-eq0 : goal.returns-then-note-eq0
returns-then-note-eq0 c = c.put.ensures ∙ hung_root _ _ _ _ (omega arith)

pub returns-else-note-eq0 : goal.returns-else-note-eq0
returns-else-note-eq0 c = c.put-else-note-eq0.ensures ∙ hung_under _ _ _ _ (omega arith)
