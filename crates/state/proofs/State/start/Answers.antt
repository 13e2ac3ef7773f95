-- `state::State::start` meets its contract: refused by the bounds, or both tables cleared.
-- Assumes nothing.
use mathlib.Core.Path.{sym, ap, ◌∙◌}
use Rattle.std.proofs.lemmas.Result.{err_from_is_err_and}
use Rattle.numbers.specs.Answers.{due}
use Rattle.numbers.proofs.Unique.{number_some}
use native.Mathlib.Omega.{arith}
use native.Mathlib.Nat.{mul-le-mul}
use Rattle.state.proofs.Laws.Bounds.{bounds_known}
use Rattle.state.proofs.Laws.Start.{start_refused, start_ready, frag_fresh, held_fresh}
use Rattle.state.proofs.State.start.Goals as goal

pub returns-in_err-bounds : goal.returns-in_err-bounds
returns-in_err-bounds c =
    let p = err_from_is_err_and c.from_residual.result c.from_residual.ensures.1 in
    rw (p.1, p.2.0, p.2.1) (start_refused _ _ _ _ _ (sym (ap due c.in_err-bounds.was) ∙ c.bounds.ensures) (number_some _))

pub overflow_mul-n : goal.overflow_mul-n
overflow_mul-n c =
    let b = bounds_known _ _ _ _ (sym c.bounds.ensures ∙ ap due c.in_ok-bounds.was) in
    omega arith

pub overflow_mul-k : goal.overflow_mul-k
overflow_mul-k c =
    let b = bounds_known _ _ _ _ (sym c.bounds.ensures ∙ ap due c.in_ok-bounds.was) in
    omega (arith, mul-le-mul b.room b.fragments)

pub returns : goal.returns
returns c =
    let e = sym c.bounds.ensures ∙ ap due c.in_ok-bounds.was in
    let b = bounds_known _ _ _ _ e in
    start_ready _ _ _ _ e _ c.begun.ensures _ _ (c.clear.ensures ∙ frag_fresh _ _ b.frag_long) (c.clear-2.ensures ∙ held_fresh _ _ _ b.held_long)
