-- `reaches::judge::mark_soles` meets its contract.
use Rattle.reaches.specs.Judged.{Soles}
use Rattle.reaches.proofs.judge.mark_soles.Given as goal

abbrev pub invariant-loop-v : goal.invariant-loop-v
invariant-loop-v l = Soles l.n l.v l.initial.frag l.frag
