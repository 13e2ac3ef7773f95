-- `state::words::zeros` meets its contract: what was found and what is left to look at decide.
use mathlib.Core.Bool.{◌&&◌, not}
use mathlib.Core.Path.{◌≡◌}
use lib.ListN.{drop}
use Rattle.state.specs.Test.{all_zero}
use Rattle.state.proofs.words.zeros.Given as goal

abbrev pub invariant-loop-w : goal.invariant-loop-w
invariant-loop-w l = not l.found && all_zero (drop l.w-index l.part) ≡ all_zero l.part
