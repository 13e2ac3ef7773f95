-- `reaches::judge::mark_cuts` meets its contract.
use Rattle.reaches.specs.Judged.{Cuts}
use Rattle.reaches.proofs.judge.mark_cuts.Given as goal

abbrev pub invariant-loop-c : goal.invariant-loop-c
invariant-loop-c l = Cuts l.n l.c l.initial.frag l.frag
