-- `building::noted::set_flags` meets its contract: so many of the held links are told.
-- Assumes nothing.
use Prim.Native.Nat.{◌<◌}
use mathlib.Core.Path.{◌≡◌}
use native.Mathlib.Omega.{arith}
use Rattle.std.proofs.lemmas.List.{length-take-le, get_or-take}
use Rattle.pieces.specs.Laws.Gather.{links_more}
use Rattle.building.specs.Laws.Noted.{apart_none, apart_then, held_small}
use Rattle.building.proofs.noted.set_flags.Goals as goal

pub loop-w-init : goal.loop-w-init
loop-w-init c = (c.requires.fresh.noted, apart_none)

pub set_flag-requires : goal.set_flag-requires
set_flag-requires c =
    let l = c.loop-w in
    let p = c.requires in
    let few : l.w-index < c.args.count = omega (arith, length-take-le c.args.count c.args.held.now p.there) in
    let s = p.inside l.w-index few in
    rw (get_or-take c.args.count c.args.held.now l.w-index 0 few) (record {
      some = p.fresh.some;
      few_fragments = p.fresh.few_fragments;
      long = omega (arith, p.fresh.long, l.invariant.1.same_long);
      sorted = s.0;
      small = held_small p.fresh.few_fragments s.0 s.1;
      held = _;
      noted = l.invariant.0;
    })

pub loop-w-preserved : goal.loop-w-preserved
loop-w-preserved c =
    let l = c.loop-w in
    let p = c.requires in
    let m = c.set_flag.ensures in
    let few : l.w-index < c.args.count = omega (arith, length-take-le c.args.count c.args.held.now p.there) in
    let told = rw (get_or-take c.args.count c.args.held.now l.w-index 0 few) at m.0 _ l.invariant.0 in
    (rw (links_more c.args.held.now l.w-index (omega (arith, p.there))) told, apart_then l.invariant.1 m.1)

pub returns : goal.returns
returns c =
    let l = c.loop-w in
    let e : l.w-index ≡ c.args.count = omega (arith, length-take-le c.args.count c.args.held.now c.requires.there) in
    rw (← e) (l.invariant.0, l.invariant.1)
