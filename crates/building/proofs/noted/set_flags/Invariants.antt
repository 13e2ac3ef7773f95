-- `building::noted::set_flags` meets its contract: so many of the held links are told.
use Rattle.state.specs.Layout.{held_links}
use Rattle.building.specs.Noted.{Noted, Apart}
use Rattle.building.proofs.noted.set_flags.Given as goal

abbrev pub invariant-loop-w : goal.invariant-loop-w
invariant-loop-w l = Noted l.n (held_links l.w-index l.held) l.frag × Apart l.n l.initial.frag l.frag
