-- `reading::tell::read_link` meets its contract: both ends hear, and the pass is false where neither is above the other.
-- Assumes nothing.
use Rattle.reading.specs.Laws.Tell.{kept_whole, read_apart, read_joined}
use Rattle.reading.proofs.tell.read_link.Goals as goal

pub hear-requires-2 : goal.hear-requires-2
hear-requires-2 c =
    let p = c.requires in
    (kept_whole p.0.whole c.hear.ensures.kept, p.2, p.1)

pub returns-then-crosses : goal.returns-then-crosses
returns-then-crosses c =
    rw c.if-crosses.true (read_apart _ _ c.hear.ensures c.hear-2.ensures _ _ c.apart-crosses.ensures c.if-crosses.true)

pub returns-else-crosses : goal.returns-else-crosses
returns-else-crosses c =
    read_joined _ _ c.hear.ensures c.hear-2.ensures _ _ c.apart-crosses.ensures c.if-crosses.false
