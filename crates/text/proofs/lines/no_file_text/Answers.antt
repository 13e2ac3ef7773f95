-- `text::lines::no_file_text` meets its contract.
-- Assumes nothing.
use Rattle.text.specs.Lines.{no_file_line}
use Rattle.text.proofs.lines.no_file_text.Goals as goal

pub returns : goal.returns
unfolding no_file_line
returns c = c.word.ensures
