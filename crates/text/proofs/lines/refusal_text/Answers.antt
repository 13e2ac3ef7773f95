-- `text::lines::refusal_text` meets its contract.
-- Assumes nothing.
use Rattle.text.specs.Lines.{refusal_line}
use Rattle.text.specs.Laws.Put.{put_then}
use Rattle.text.proofs.lines.refusal_text.Goals as goal

pub returns : goal.returns
unfolding refusal_line
returns c = put_then c.item-x.ensures.put (put_then c.item-y.ensures.put c.byte.ensures)
