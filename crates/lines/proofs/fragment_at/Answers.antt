-- `lines::fragment_at` meets its contract.
-- Assumes nothing.
use mathlib.Core.Path.{◌∙◌}
use Rattle.lines.specs.Laws.Lines.{fragment_put}
use Rattle.lines.proofs.fragment_at.Goals as goal

pub returns : goal.returns
returns c =
    let p = c.requires in fragment_put _ _ _ _ _ _ p.2 c.parent_at-p.ensures.says (c.wide-q.ensures.says ∙ p.0.pieces _ p.1) (p.0.cuts _ p.1) c.fragment_line.ensures
