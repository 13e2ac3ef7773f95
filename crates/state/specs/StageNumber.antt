-- The number of each stage, by which docs/LINKING.md has it in a word. Definitions only.
-- Assumes nothing.
use Rattle.std.specs.Prelude.{ℕ, ◌<◌, ◌≡◌, Result, MatchResult}
use Rattle.state.specs.declared.Stage.{Stage}
use Rattle.state.specs.declared.Stage.TheVariants.{Building, Built, Reading, Read}
use Rattle.state.specs.declared.stages.UnknownStage.{UnknownStage}

abbrev pub stage_number : Stage → ℕ
stage_number Building = 0
stage_number Built = 1
stage_number Reading = 2
stage_number Read = 3

abbrev pub numbered_as : Stage → ℕ → Type 0
numbered_as stage number = number ≡ stage_number stage

-- The stage with this number, or the number, which no stage has.
abbrev pub Names : ℕ → Result Stage UnknownStage → Type 0
Names number r = MatchResult r (λ stage. number ≡ stage_number stage) (λ e. (e.0 ≡ number) × (3 < number))
