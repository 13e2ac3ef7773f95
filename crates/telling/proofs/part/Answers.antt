-- `telling::part` meets its contract.
-- Assumes nothing.
use mathlib.Core.Path.{sym, ◌∙◌}
use Rattle.telling.specs.Steps.{part_over, part_links, part_head}
use Rattle.telling.proofs.part.Goals as goal

pub returns-then-is_over : goal.returns-then-is_over
returns-then-is_over c = part_over _ _ _ _ _ _ c.args.t.step _ (sym c.is_over.ensures ∙ c.if-is_over.true) c.refuse.ensures

pub returns-then-is_links : goal.returns-then-is_links
returns-then-is_links c = part_links _ _ _ _ _ _ c.args.t.step _ (sym c.is_links.ensures ∙ c.if-is_links.true) c.feed.ensures

pub returns : goal.returns
returns c = part_head _ _ _ _ _ _ c.args.t.step _ (sym c.is_over.ensures ∙ c.if-is_over.false) (sym c.is_links.ensures ∙ c.if-is_links.false) c.head.ensures
