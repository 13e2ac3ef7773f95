-- `closing::choose::best_note` meets its contract: at each member it has the best note of those below.
-- Assumes nothing.
use mathlib.Core.List.{[]}
use mathlib.Core.Path.{◌≡◌}
use native.Mathlib.Omega.{arith}
use Rattle.state.specs.Layout.{bare}
use Rattle.state.proofs.Laws.Layout.{note_word}
use Rattle.closing.specs.Laws.Members.{along_first, along_next}
use Rattle.tables.specs.Laws.Sections.{better_small}
use Rattle.closing.specs.Laws.Choosing.{best_start, best_next}
use Rattle.closing.proofs.choose.best_note.Goals as goal

pub loop-v-init : goal.loop-v-init
loop-v-init c = let q = c.requires.chained in (along_first q, best_start _ _ _ q, omega arith)

pub next_member-v-requires : goal.next_member-v-requires
next_member-v-requires c = let q = c.requires.chained in (q.wide, q.membered, omega arith)

pub loop-v-smaller : goal.loop-v-smaller
loop-v-smaller c = omega (arith, c.next_member-v.ensures.on)

pub loop-v-preserved : goal.loop-v-preserved
loop-v-preserved c =
    let l = c.loop-v in
    let b = c.better_note-best.ensures in
    let a = c.args in
    let q = c.requires in
    let m = better_small _ _ _ a.n _ b l.invariant.2 (omega (arith, note_word (bare a.n) a.frag.now [] l.v (omega arith), q.notes l.v (omega arith))) in
    (along_next l.invariant.0 (omega arith) c.next_member-v.ensures, best_next _ _ _ _ _ l.invariant.0 (omega arith) c.next_member-v.ensures _ _ l.invariant.1 b, m)

pub returns : goal.returns
returns c =
    let l = c.loop-v in
    let e : l.v ≡ c.args.n = omega (arith, l.invariant.0.within) in
    (rw e at l.invariant.1, l.invariant.2)
