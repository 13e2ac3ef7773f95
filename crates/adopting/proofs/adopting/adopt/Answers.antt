-- `adopting::adopting::adopt` meets its contract: refused, or parents and levels written and the rest cleared.
-- Assumes nothing.
use mathlib.Core.Path.{sym, ap, ◌∙◌}
use native.Mathlib.Omega.{arith}
use native.Mathlib.Nat.{mul-le-mul}
use Rattle.std.proofs.lemmas.Result.{err_from_is_err_and}
use Rattle.numbers.specs.Answers.{due}
use Rattle.numbers.proofs.Unique.{number_some}
use Rattle.adopting.specs.Laws.Adopt.{adopt_known, adopt_refused, adopt_ready, frag_adopted, held_adopted}
use Rattle.adopting.proofs.adopting.adopt.Goals as goal

pub returns-in_err-refusal_of : goal.returns-in_err-refusal_of
returns-in_err-refusal_of c =
    let p = err_from_is_err_and c.from_residual.result c.from_residual.ensures.1 in
    rw (p.1, p.2.0, p.2.1) (adopt_refused _ _ _ _ _ _ (sym (ap due c.in_err-refusal_of.was) ∙ c.refusal_of.ensures) (number_some _))

pub place_all-requires : goal.place_all-requires
place_all-requires c = let (b, i) = adopt_known _ _ _ _ _ (sym c.refusal_of.ensures ∙ ap due c.in_ok-refusal_of.was) in (record { few = b.fragments; long = b.frag_long }, i)

pub overflow_mul-n : goal.overflow_mul-n
overflow_mul-n c = let (b, i) = adopt_known _ _ _ _ _ (sym c.refusal_of.ensures ∙ ap due c.in_ok-refusal_of.was) in omega (arith, b.fragments)

pub overflow_mul-n-2 : goal.overflow_mul-n-2
overflow_mul-n-2 c = let (b, i) = adopt_known _ _ _ _ _ (sym c.refusal_of.ensures ∙ ap due c.in_ok-refusal_of.was) in omega (arith, b.fragments)

pub overflow_mul-k : goal.overflow_mul-k
overflow_mul-k c = let (b, i) = adopt_known _ _ _ _ _ (sym c.refusal_of.ensures ∙ ap due c.in_ok-refusal_of.was) in omega (arith, mul-le-mul b.room b.fragments)

pub returns : goal.returns
returns c =
    let (b, i) = adopt_known _ _ _ _ _ (sym c.refusal_of.ensures ∙ ap due c.in_ok-refusal_of.was) in
    let p = c.place_all.ensures in
    let q = c.clear.ensures in
    let r = c.clear-2.ensures in
    adopt_ready _ _ _ _ _ _ c.refusal_of.ensures (ap due c.in_ok-refusal_of.was) _ c.begun.ensures _ _ (frag_adopted _ _ _ _ _ _ _ _ b i p q r) (held_adopted _ _ _ _ _ _ _ _ b i p q r)
