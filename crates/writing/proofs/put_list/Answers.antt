-- `writing::put_list` meets its contract: the words from `word-index` on, put at `at`, give what all of them give.
-- Assumes nothing.
use mathlib.Core.Path.{◌∙◌}
use Rattle.writing.specs.Laws.Steps.{putting_whole, putting_ends, putting_more, putting_on}
use Rattle.writing.proofs.put_list.Goals as goal

pub put_number-at-requires-in-loop-word : goal.put_number-at-requires-in-loop-word
put_number-at-requires-in-loop-word c = putting_more c.loop-word.invariant c.loop-word-test.true (c.requires.most _)

pub loop-word-preserved : goal.loop-word-preserved
loop-word-preserved c = putting_on c.loop-word.invariant c.loop-word-test.true _ _ c.put_number-at-in-loop-word.ensures

pub returns : goal.returns
returns c = putting_ends c.loop-word.invariant c.loop-word-test.false ∙ putting_whole c.requires c.put_number-at.ensures
