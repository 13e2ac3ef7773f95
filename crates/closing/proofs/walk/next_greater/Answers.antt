-- `closing::walk::next_greater` meets its contract: each that it goes past is placed, and the next one is greater.
-- Assumes nothing.
use Rattle.closing.specs.Laws.Seeking.{moves_through, moves_after, seek_at, seek_after, seek_found}
use Prim.Native.Nat.{◌-◌, ◌<◌}
use native.Mathlib.Omega.{arith}
use mathlib.Core.Path.{refl, sym, ◌∙◌}
use Rattle.closing.specs.Arranged.{after_at}
use Rattle.closing.specs.Walk.{Findable}
use Rattle.closing.proofs.walk.next_greater.Goals as goal
use Rattle.closing.proofs.walk.next_greater.Goals.{Else-w-b, In-loop-g}

-- The greater neighbour that the cursor is at.
neighbour : (c : In-loop-g) → let a = c.args in (c.loop-g.g - 1 < a.n) × Findable a.n (c.loop-g.g - 1) a.v a.frag.now a.held.now
neighbour c = seek_at c.requires _ c.loop-g.invariant (omega arith)

-- The next one is greater.
further : (c : Else-w-b) → (c.loop-g.g - 1 < after_at c.args.held.now c.place_of-i.result) × (after_at c.args.held.now c.place_of-i.result < c.args.n)
further c = seek_after c.requires _ c.loop-g.invariant (omega arith) (omega arith) _ c.place_of-i.ensures (λ e. c.if-w-b.false (c.after_at-w.ensures ∙ e))

pub overflow_add-n : goal.overflow_add-n
overflow_add-n c = omega (arith, (neighbour c).0)

pub offset_bounds-frag-n-in-loop-g : goal.offset_bounds-frag-n-in-loop-g
offset_bounds-frag-n-in-loop-g c = omega (arith, (neighbour c).0)

pub bounds-frag-n-in-loop-g : goal.bounds-frag-n-in-loop-g
bounds-frag-n-in-loop-g c = omega (arith, (neighbour (goal.at.bounds-frag-n-in-loop-g c).In-loop-g).0)

pub returns-then-frag-n-eq0 : goal.returns-then-frag-n-eq0
returns-then-frag-n-eq0 c = seek_found c.requires _ c.loop-g.invariant (λ d. c.if-frag-n-eq0.true)

pub place_of-i-requires : goal.place_of-i-requires
place_of-i-requires c = (neighbour (goal.at.place_of-i-requires c).In-loop-g).1

pub after_at-w-requires : goal.after_at-w-requires
after_at-w-requires c = omega (arith, c.place_of-i.ensures, (neighbour (goal.at.after_at-w-requires c).In-loop-g).1.there)

pub returns-then-w-b : goal.returns-then-w-b
returns-then-w-b c =
    seek_found c.requires _ (moves_through _ (omega arith) c.loop-g.invariant (omega arith) _ c.place_of-i.ensures (sym c.after_at-w.ensures ∙ c.if-w-b.true)) (λ d. absurd (d refl))

pub overflow_add-g-in-loop-g : goal.overflow_add-g-in-loop-g
overflow_add-g-in-loop-g c = omega (arith, further c, c.after_at-w.ensures)

pub loop-g-smaller : goal.loop-g-smaller
loop-g-smaller c = omega (arith, further c, c.after_at-w.ensures)

pub loop-g-preserved : goal.loop-g-preserved
loop-g-preserved c =
    rw c.after_at-w.ensures (moves_after _ (omega arith) c.loop-g.invariant (omega arith) _ c.place_of-i.ensures (λ e. c.if-w-b.false (c.after_at-w.ensures ∙ e)))

pub returns : goal.returns
returns c = seek_found c.requires _ (rw c.loop-g-test.false at c.loop-g.invariant) (λ d. absurd (d refl))
