-- `parts::in_file` meets its contract.
-- Assumes nothing.
use Rattle.std.proofs.Common.{sym, refl, ◌∙◌}
use Rattle.parts.specs.Steps.{place_block, place_none}
use Rattle.parts.proofs.in_file.Goals as goal

pub returns-then-in_block : goal.returns-then-in_block
returns-then-in_block c = (refl, place_block _ _ _ _ (sym c.in_block.ensures ∙ c.if-in_block.true) refl)

pub returns : goal.returns
returns c = (refl, place_none _ _ _ (sym c.in_block.ensures ∙ c.if-in_block.false))
