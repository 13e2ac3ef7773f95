-- `reaches::judge::cut_word` meets its contract.
-- Assumes nothing.
use mathlib.Core.Path.{sym, ◌∙◌}
use Rattle.reaches.specs.Laws.Judged.{cut_marked, cut_kept}
use Rattle.reaches.proofs.judge.cut_word.Goals as goal

pub returns-then-cuts : goal.returns-then-cuts
returns-then-cuts c = cut_marked _ _ _ _ (sym c.if-cuts.true ∙ c.cuts.ensures)

pub returns : goal.returns
returns c = cut_kept _ _ _ _ (sym c.if-cuts.false ∙ c.cuts.ensures)
