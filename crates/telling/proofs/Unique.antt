-- A number is read as one step only, or as none: two answers that meet the promise are equal.
-- Assumes nothing.
use Rattle.std.specs.Prelude.{ℕ, zero, suc, ◌≤◌, ◌≡◌, refl, Result, Ok, Err}
use Rattle.std.proofs.Common.{sym, ap, ◌∙◌, arith}
use Rattle.telling.specs.StepNumber.{step_number, Names}
use Rattle.telling.specs.declared.Step.{Step}
use Rattle.telling.specs.declared.Step.TheVariants.{First, Head, Links, Over}
use Rattle.telling.specs.declared.steps.UnknownStep.{UnknownStep}

abbrev step_of : ℕ → Step
step_of zero = First
step_of (suc zero) = Head
step_of (suc (suc zero)) = Links
step_of _ = Over

step_back : (g : Step) → step_of (step_number g) ≡ g
step_back First = refl
step_back Head = refl
step_back Links = refl
step_back Over = refl

step_few : (g : Step) → step_number g ≤ 3
step_few First = omega arith
step_few Head = omega arith
step_few Links = omega arith
step_few Over = omega arith

pub names_once : (number : ℕ) (a b : Result Step UnknownStep) → Names number a → Names number b → a ≡ b
names_once number (Ok g) (Ok j) p q = ap Ok (sym (step_back g) ∙ ap step_of (sym p ∙ q) ∙ step_back j)
names_once number (Ok g) (Err u) p q = let few : step_number g ≤ 3 = step_few g in absurd (omega arith)
names_once number (Err u) (Ok j) p q = let few : step_number j ≤ 3 = step_few j in absurd (omega arith)
names_once number (Err u) (Err v) p q = ap (λ (x : ℕ). Err (record { 0 = x })) (p.0 ∙ sym q.0)
