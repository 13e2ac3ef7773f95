-- `reaches::judge::sole_word` meets its contract.
-- Assumes nothing.
use native.Mathlib.Omega.{arith}
use mathlib.Core.Path.{◌∙◌}
use Rattle.reaches.specs.Laws.Judged.{sole_root, sole_yes, sole_no}
use Rattle.reaches.proofs.judge.sole_word.Goals as goal

pub returns-then-parent_of-v : goal.returns-then-parent_of-v
returns-then-parent_of-v c = sole_root _ _ _ _ c.parent_of.ensures (omega arith)

pub returns-then-wide-level_of : goal.returns-then-wide-level_of
returns-then-wide-level_of c = let p = c.requires in sole_yes _ _ _ _ c.parent_of.ensures (omega arith) _ _ (c.wide.ensures.says ∙ p.0.each _ p.1) c.level_of.ensures (omega arith)

pub returns : goal.returns
returns c = let p = c.requires in sole_no _ _ _ _ c.parent_of.ensures (omega arith) _ _ (c.wide.ensures.says ∙ p.0.each _ p.1) c.level_of.ensures (omega arith)
