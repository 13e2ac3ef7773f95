-- `state::bounds` meets its contract: one law of the ladder for each answer.
-- Assumes nothing.
use Prim.Native.Nat.{◌≤◌}
use native.Mathlib.Omega.{arith}
use native.Mathlib.Nat.{mul-le-mul}
use Rattle.state.proofs.Laws.Bounds.{no_fragments, many_fragments, no_room, much_room, short_frag, short_held, within_bounds}
use borrow.Author.Rules.{rules}
use Rattle.state.proofs.bounds.Goals as goal

pub returns-then-n-eq0 : goal.returns-then-n-eq0
returns-then-n-eq0 c = no_fragments _ _ _ _ (omega arith)

pub returns-then-n-gt-FRAGMENTS : goal.returns-then-n-gt-FRAGMENTS
returns-then-n-gt-FRAGMENTS c = many_fragments _ _ _ _ (omega arith) (omega arith)

pub returns-then-k-eq0 : goal.returns-then-k-eq0
returns-then-k-eq0 c = no_room _ _ _ _ (omega arith) (omega arith) (omega arith)

pub returns-then-k-gt-ROOM : goal.returns-then-k-gt-ROOM
returns-then-k-gt-ROOM c = much_room _ _ _ _ (omega arith) (omega arith) (omega arith) (omega arith)

pub overflow_mul-n : goal.overflow_mul-n
overflow_mul-n c = search rules

pub returns-then-frags-n : goal.returns-then-frags-n
returns-then-frags-n c = short_frag _ _ _ _ (omega arith) (omega arith) (omega arith) (omega arith) (omega arith)

pub overflow_mul-k : goal.overflow_mul-k
overflow_mul-k c =
    let b = c.args in
    let k : b.k ≤ 64 = omega arith in
    let n : b.n ≤ 32768 = omega arith in
    omega (arith, mul-le-mul k n)

pub returns-then-helds-k : goal.returns-then-helds-k
returns-then-helds-k c = short_held _ _ _ _ (omega arith) (omega arith) (omega arith) (omega arith) (omega arith) (omega arith)

pub returns : goal.returns
returns c = within_bounds _ _ _ _ (omega arith) (omega arith) (omega arith) (omega arith) (omega arith) (omega arith)
