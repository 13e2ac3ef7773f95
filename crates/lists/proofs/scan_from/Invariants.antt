-- `lists::scan_from` meets its contract: the links told so far and what is left from `at` on give the whole answer; inside, how many of a link's numbers are read.
use Prim.Native.Nat.{◌-◌}
use mathlib.Core.Path.{◌≡◌}
use lib.ListN.{length}
use Rattle.numbers.specs.Answers.{due}
use Rattle.lists.specs.Laws.Scan.{Halfway, Scanning}
use Rattle.lists.proofs.scan_from.Given as goal

abbrev pub invariant-loop-ends : goal.invariant-loop-ends
invariant-loop-ends l = Halfway l.block l.at l.first l.second l.next l.ends × (due l.bad ≡ 0)

abbrev pub invariant-links : goal.invariant-links
invariant-links l = Scanning l.n l.entries l.block l.from l.told l.at (due l.bad)

abbrev pub decreases-links : goal.decreases-links
decreases-links l = length l.block - l.at
