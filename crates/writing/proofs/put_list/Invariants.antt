-- `writing::put_list` meets its contract: the words from `word-index` on, put at `at`, give what all of them give.
use Rattle.writing.specs.Laws.Steps.{Putting}
use Rattle.writing.proofs.put_list.Given as goal

abbrev pub invariant-loop-word : goal.invariant-loop-word
invariant-loop-word l = Putting l.words l.initial.buffer l.initial.at l.word-index l.at l.buffer
