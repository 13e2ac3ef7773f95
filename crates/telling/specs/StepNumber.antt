-- The number of each step, by which docs/LINKING.md has it in a word. Definitions only.
-- Assumes nothing.
use Rattle.std.specs.Prelude.{ℕ, ◌<◌, ◌≡◌, Result, MatchResult}
use Rattle.telling.specs.declared.Step.{Step}
use Rattle.telling.specs.declared.Step.TheVariants.{First, Head, Links, Over}
use Rattle.telling.specs.declared.steps.UnknownStep.{UnknownStep}

abbrev pub step_number : Step → ℕ
step_number First = 0
step_number Head = 1
step_number Links = 2
step_number Over = 3

abbrev pub numbered_as : Step → ℕ → Type 0
numbered_as step number = number ≡ step_number step

-- The step with this number, or the number, which no step has.
abbrev pub Names : ℕ → Result Step UnknownStep → Type 0
Names number r = MatchResult r (λ step. number ≡ step_number step) (λ e. (e.0 ≡ number) × (3 < number))
