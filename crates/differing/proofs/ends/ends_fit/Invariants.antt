-- `differing::ends::ends_fit` meets its contract: what is left to look at gives the answer.
use mathlib.Core.Path.{◌≡◌}
use Rattle.state.specs.Layout.{forest_in, held_links}
use Rattle.state.specs.Test.{ends_fit}
use Rattle.differing.specs.Laws.Links.{left}
use Rattle.differing.proofs.ends.ends_fit.Given as goal

abbrev pub invariant-loop-i : goal.invariant-loop-i
invariant-loop-i l = ends_fit l.n (forest_in l.n l.frag) (left l.held l.count l.i) ≡ ends_fit l.n (forest_in l.n l.frag) (held_links l.count l.held)
