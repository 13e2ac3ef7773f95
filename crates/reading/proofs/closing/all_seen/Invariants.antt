-- `reading::closing::all_seen` meets its contract: the parent links below v were seen.
use mathlib.Core.Path.{◌≡◌}
use mathlib.Core.Bool.{true}
use Rattle.rules.specs.Search.{every}
use Rattle.rules.specs.Reading.{seen}
use Rattle.state.specs.Layout.{forest_in}
use Rattle.reading.proofs.closing.all_seen.Given as goal

abbrev pub invariant-loop-v : goal.invariant-loop-v
invariant-loop-v l = every (seen (forest_in l.n l.frag)) l.v ≡ true
