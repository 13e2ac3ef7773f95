-- `building::noted::note_links` meets its contract: each link noted keeps what is noted.
use Prim.Native.Nat.{◌-◌}
use Rattle.building.specs.Noted.{Fresh, Apart}
use Rattle.building.proofs.noted.note_links.Given as goal

abbrev pub invariant-loop-at : goal.invariant-loop-at
invariant-loop-at l = Fresh l.n l.frag × Apart l.n l.initial.frag l.frag

abbrev pub decreases-loop-at : goal.decreases-loop-at
decreases-loop-at l = l.end - l.at
