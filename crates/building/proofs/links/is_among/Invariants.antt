-- `building::links::is_among` meets its contract: what is left to look at gives the answer.
use mathlib.Core.Path.{◌≡◌}
use Rattle.rules.specs.Links.{linked}
use Rattle.differing.specs.Laws.Links.{left}
use Rattle.building.proofs.links.is_among.Given as goal

abbrev pub invariant-loop-i : goal.invariant-loop-i
invariant-loop-i l = linked (left l.held l.to l.i) l.a l.b ≡ linked (left l.held l.to l.from) l.a l.b
