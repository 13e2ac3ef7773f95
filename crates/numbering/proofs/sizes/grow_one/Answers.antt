-- `numbering::sizes::grow_one` meets its contract.
-- Assumes nothing.
use Rattle.numbering.specs.Laws.Sizes.{grown_root, grown_child}
use Rattle.numbering.proofs.sizes.grow_one.Goals as goal

pub returns-then-p-v : goal.returns-then-p-v
returns-then-p-v c = grown_root _ _ _ _ c.parent_of-p.ensures c.if-p-v.true

pub returns : goal.returns
returns c = grown_child _ _ _ _ c.parent_of-p.ensures c.if-p-v.false
