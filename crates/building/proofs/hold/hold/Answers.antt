-- `building::hold::hold` meets its contract: the link is put behind the others and the pieces are joined.
-- Assumes nothing.
use Rattle.building.specs.Laws.Telling.{holds_rising, holds_falling}
use Rattle.building.proofs.hold.hold.Goals as goal

pub returns-then-a-b : goal.returns-then-a-b
returns-then-a-b c = holds_rising c.requires c.put_link.ensures c.if-a-b.true c.join.ensures

pub returns-else-a-b : goal.returns-else-a-b
returns-else-a-b c = holds_falling c.requires c.put_link.ensures c.if-a-b.false c.join-else-a-b.ensures
