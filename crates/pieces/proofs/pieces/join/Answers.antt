-- `pieces::pieces::join` meets its contract: two ways are found, and the pieces where they end are bound.
-- Assumes nothing.
use mathlib.Core.Path.{sym, ◌∙◌}
use Rattle.pieces.specs.Laws.Gather.{joined_no_first, joined_no_second, joined_by, joined_members}
use Rattle.pieces.proofs.pieces.join.Goals as goal

pub returns-then-not-is_in : goal.returns-then-not-is_in
returns-then-not-is_in c = joined_no_first _ _ _ _ (sym (c.if-not-is_in.true) ∙ c.is_in.ensures)

pub returns-then-not-is_in-2 : goal.returns-then-not-is_in-2
returns-then-not-is_in-2 c = joined_no_second _ _ _ _ (sym (c.if-not-is_in.false) ∙ c.is_in.ensures) (sym (c.if-not-is_in-2.true) ∙ c.is_in-2.ensures)

pub bind-requires : goal.bind-requires
bind-requires c =
    joined_members _ _ _ _ (sym (c.if-not-is_in.false) ∙ c.is_in.ensures)
    (sym (c.if-not-is_in-2.false) ∙ c.is_in-2.ensures)
    _ _ _ _ c.find-p.ensures c.find-q.ensures
    c.find-p.auto.frag (c.find-q.auto.frag ∙ c.find-p.auto.frag)

pub returns : goal.returns
returns c =
    c.bind.ensures
    ∙ joined_by _ _ _ _ (sym (c.if-not-is_in.false) ∙ c.is_in.ensures)
    (sym (c.if-not-is_in-2.false) ∙ c.is_in-2.ensures)
    _ _ _ _ c.find-p.ensures c.find-q.ensures
