-- `writing::list_size` meets its contract: the size so far and the pairs from `a-index` on give the whole answer.
-- Assumes nothing.
use Prim.Native.Nat.{ℕ, zero, suc, ◌+◌, ◌-◌, ◌*◌, ◌/◌, ◌<◌}
use mathlib.Core.List.{List, []}
use mathlib.Core.Path.{◌≡◌, refl, sym, ap, ◌∙◌}
use native.Mathlib.Omega.{arith}
use lib.ListN.{length, drop, get_or}
use Rattle.std.proofs.lemmas.Bool.Decides.{nat_tests}
use Rattle.std.proofs.lemmas.Result.{err_from_is_err_and}
use Rattle.std.specs.Simd.{first_chunks}
use Rattle.std.proofs.lemmas.List.{get_or-take, get_or-drop}
use Rattle.numbers.specs.Answers.{due}
use Rattle.numbers.proofs.Unique.{number_some}
use Rattle.writing.specs.Laws.Steps.{sizing_starts, size_refused, size_bad, size_on, size_odd, size_end, width_bound}
use Rattle.writing.proofs.list_size.Goals as goal

-- A word of a pair.
of_pair : (m k j i : ℕ) (s : List ℕ) → k < m → j < 2 → i ≡ 2 * k + j → get_or (get_or (first_chunks 2 m s) k []) j 0 ≡ get_or s i 0
of_pair zero k j i s h g e = absurd (omega arith)
of_pair (suc m) zero j i s h g e = let z : i ≡ j = omega arith in rw z (get_or-take 2 s j 0 g)
of_pair (suc m) (suc k) j i s h g e =
    let z : 2 + (i - 2) ≡ i = omega arith in
    of_pair m k j (i - 2) (drop 2 s) (omega arith) g (omega arith) ∙ get_or-drop 2 s (i - 2) 0 ∙ ap (λ x. get_or s x 0) z

-- Both words of a pair.
pair : (s : List ℕ) (p : List (List ℕ)) → p ≡ first_chunks 2 (length s / 2) s → (k : ℕ) → k < length s / 2
    → (get_or (get_or p k []) 0 0 ≡ get_or s (2 * k) 0) × (get_or (get_or p k []) 1 0 ≡ get_or s (2 * k + 1) 0)
pair s p e k h = rw e (of_pair _ k 0 (2 * k) s h (omega arith) (omega arith), of_pair _ k 1 (2 * k + 1) s h (omega arith) (omega arith))

pub returns-then-bad_size : goal.returns-then-bad_size
returns-then-bad_size c = size_refused _ _ (sym c.bad_size.ensures ∙ c.if-bad_size.true)

pub loop-a-init : goal.loop-a-init
loop-a-init c = sizing_starts _ _ (sym c.bad_size.ensures ∙ c.if-bad_size.false) _ c.width-size.ensures

pub returns-in_err-bad_ends : goal.returns-in_err-bad_ends
returns-in_err-bad_ends c =
    let (x, y) = pair c.args.words.now _ c.as_chunks.ensures.front c.loop-a.a-index (omega arith) in
    let p = err_from_is_err_and c.from_residual.result c.from_residual.ensures.1 in
    let z = rw (x, y) at (sym (ap due c.in_err-bad_ends.was) ∙ c.bad_ends.ensures) in
    rw (p.1, p.2) (size_bad _ _ c.loop-a.invariant (omega arith) _ z (number_some _))

pub overflow_add-size : goal.overflow_add-size
overflow_add-size c = let x = width_bound _ _ c.width.ensures in let y = width_bound _ _ c.width-in-loop-a.ensures in omega arith

pub overflow_add-size-in-loop-a : goal.overflow_add-size-in-loop-a
overflow_add-size-in-loop-a c = let x = width_bound _ _ c.width.ensures in let y = width_bound _ _ c.width-in-loop-a.ensures in omega arith

pub loop-a-preserved : goal.loop-a-preserved
loop-a-preserved c =
    let (x, y) = pair c.args.words.now _ c.as_chunks.ensures.front c.loop-a.a-index (omega arith) in
    let e : 2 * (c.loop-a.a-index + 1) ≡ 2 * c.loop-a.a-index + 2 = omega arith in
    let z = rw (x, y) at (sym c.bad_ends.ensures ∙ ap due c.in_ok-bad_ends.was) in
    rw e (size_on _ _ c.loop-a.invariant (omega arith) z _ (rw (c.width.ensures, c.width-in-loop-a.ensures, x, y) refl))

pub returns-then-not-is_empty : goal.returns-then-not-is_empty
returns-then-not-is_empty c = size_odd _ _ c.loop-a.invariant (grind (arith, nat_tests)) (omega arith)

pub returns : goal.returns
returns c = size_end _ _ c.loop-a.invariant (grind (arith, nat_tests))
