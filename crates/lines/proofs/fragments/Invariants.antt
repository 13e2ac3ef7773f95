-- `lines::fragments` meets its contract.
use Prim.Native.Nat.{◌*◌}
use Rattle.state.specs.Layout.{forest_in}
use Rattle.text.specs.Put.{Line}
use Rattle.lines.specs.Report.{lines_to, fragment_at}
use Rattle.lines.proofs.fragments.Given as goal

abbrev pub invariant-loop-v : goal.invariant-loop-v
invariant-loop-v l = Line (lines_to (fragment_at l.n (forest_in l.n l.frag)) l.v) (200 * l.v) l.from l.initial.out l.at l.out
