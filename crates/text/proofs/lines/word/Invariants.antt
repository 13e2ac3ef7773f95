-- `text::lines::word` meets its contract.
use lib.ListN.{take}
use Rattle.text.specs.Put.{Put}
use Rattle.text.proofs.lines.word.Given as goal

abbrev pub invariant-loop-b : goal.invariant-loop-b
invariant-loop-b l = Put (take l.b-index l.bytes) l.at l.initial.out l.end l.out
