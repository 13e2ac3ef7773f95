-- What is known where no refusal is due at the head of a call in Building.
-- Assumes nothing.
use Rattle.std.specs.Prelude.{ℕ, ◌≡◌, refl, List, T, length}
use Rattle.std.proofs.Common.{sym, ◌∙◌, arith}
use Rattle.std.proofs.Math.Decide.{ℕ_discrete}
use Rattle.base.specs.Truth.{T_dec, T_true, T_false}
use Rattle.state.specs.Test.{is_building, sound}
use Rattle.state.specs.Call.{bounds_refusal, head_refusal}
use Rattle.state.proofs.Laws.Bounds.{Bounds, bounds_known}
use Rattle.state.proofs.Laws.Tests.{head_bounds, head_stage, head_unsound}
use Rattle.state.proofs.Laws.Sound.{Sound, sound_known}
use Rattle.state.specs.declared.State.{State}
use Rattle.state.specs.declared.Stage.{Stage}
use Rattle.state.specs.declared.Stage.TheVariants.{Building, Built, Reading, Read}

pub record Passed (s : State) (f h : List ℕ) : Type 0 where
  pub bounds : Bounds s.n s.k (length f) (length h)
  pub stage : s.stage ≡ Building
  pub found : Sound s f h

is_building_lem : (g : Stage) → T (is_building g) → g ≡ Building
is_building_lem Building t = refl
is_building_lem Built t = absurd t
is_building_lem Reading t = absurd t
is_building_lem Read t = absurd t

pub passed : (s : State) (f h : List ℕ) → head_refusal is_building s f h ≡ 0 → Passed s f h
passed s f h z =
    let b = bounds_refusal s.n s.k (length f) (length h) in
    elim (ℕ_discrete b 0) [
      | no d ↦ absurd (d (head_bounds is_building s f h b refl d ∙ z))
      | yes e ↦ elim (T_dec (is_building s.stage)) [
        | no q ↦ absurd (omega (arith, head_stage is_building s f h b refl e (T_false (is_building s.stage) q) ∙ z))
        | yes q ↦ elim (T_dec (sound s f h)) [
          | no r ↦ absurd (omega (arith, head_unsound is_building s f h b refl e (T_true (is_building s.stage) q) (sym (T_false (sound s f h) r)) ∙ z))
          | yes r ↦
              let k = bounds_known s.n s.k (length f) (length h) e in
              record { bounds = k; stage = is_building_lem s.stage q; found = sound_known s f h k r }
        ]
      ]
    ]
