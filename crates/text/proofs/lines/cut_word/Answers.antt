-- `text::lines::cut_word` meets its contract.
-- Assumes nothing.
use Rattle.text.specs.Laws.Put.{cut_yes, cut_no}
use Rattle.text.proofs.lines.cut_word.Goals as goal

pub returns-then-cut : goal.returns-then-cut
returns-then-cut c = cut_yes _ c.if-cut.true c.word.ensures

pub returns : goal.returns
returns c = cut_no _ c.if-cut.false c.word-2.ensures
