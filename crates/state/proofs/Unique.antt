-- Two answers that meet the promise of a call are equal, and so are the tables that they leave.
-- Assumes nothing.
use Rattle.std.specs.Prelude.{ℕ, zero, suc, ◌≤◌, ◌≡◌, refl, Bool, false, List, Result, Ok, Err}
use Rattle.std.proofs.Common.{sym, ap, ◌∙◌, arith}
use Rattle.base.specs.Answer.{Answer}
use Rattle.state.specs.Call.{Begun, Left}
use Rattle.state.specs.Close.{close_in}
use Rattle.state.specs.StageNumber.{stage_number, Names}
use Rattle.state.specs.Answers.{Asked, Ended, Judged, Started, Taken, begun_told, taken_told, closed_told, asked_told, judged_told}
use Rattle.state.proofs.Laws.Start.{told_once}
use Rattle.state.proofs.Laws.Answers.{taken_once, closed_once, close_other, asked_once, judged_once}
use Rattle.state.specs.declared.State.{State}
use Rattle.state.specs.declared.Stage.{Stage}
use Rattle.state.specs.declared.Stage.TheVariants.{Building, Built, Reading, Read}
use Rattle.state.specs.declared.stages.UnknownStage.{UnknownStage}

-- Adopt (and start): whatever x the promise asks for.
pub begun_decided : (x : Begun) (a b : Started) (fa fb ha hb : List ℕ) → begun_told a fa ha ≡ x → begun_told b fb hb ≡ x → (a ≡ b) × (fa ≡ fb) × (ha ≡ hb)
begun_decided x a b fa fb ha hb p q = told_once a b fa fb ha hb (p ∙ sym q)

-- Open reading and take.
pub taken_decided : (s : State) (x : Left (Unit {0})) (a b : Taken) (fa fb ha hb : List ℕ) → taken_told s a fa ha ≡ x → taken_told s b fb hb ≡ x → (a ≡ b) × (fa ≡ fb) × (ha ≡ hb)
taken_decided s x a b fa fb ha hb p q = taken_once s a b fa fb ha hb (p ∙ sym q)

-- Close, wherever it is allowed, but never in Built. Told alone, False with the state as it was and a plain refusal 9 would be alike; no plain refusal 9 meets the promise.
pub closed_decided : (allowed : Stage → Bool) → allowed Built ≡ false → (s : State) (f h : List ℕ) (a b : Ended) (fa fb ha hb : List ℕ)
    → closed_told s a fa ha ≡ close_in allowed s f h → closed_told s b fb hb ≡ close_in allowed s f h → (a ≡ b) × (fa ≡ fb) × (ha ≡ hb)
closed_decided allowed n s f h a b fa fb ha hb p q =
    closed_once s a b fa fb ha hb (close_other allowed n s f h fa ha a p) (close_other allowed n s f h fb hb b q) (p ∙ sym q)

-- The questions.
pub asked_decided : (x : Answer ℕ) (a b : Asked) → asked_told a ≡ x → asked_told b ≡ x → a ≡ b
asked_decided x a b p q = asked_once a b (p ∙ sym q)

pub judged_decided : (x : Answer Bool) (a b : Judged) → judged_told a ≡ x → judged_told b ≡ x → a ≡ b
judged_decided x a b p q = judged_once a b (p ∙ sym q)

-- A stage by its number.
abbrev stage_of : ℕ → Stage
stage_of zero = Building
stage_of (suc zero) = Built
stage_of (suc (suc zero)) = Reading
stage_of _ = Read

stage_back : (g : Stage) → stage_of (stage_number g) ≡ g
stage_back Building = refl
stage_back Built = refl
stage_back Reading = refl
stage_back Read = refl

stage_few : (g : Stage) → stage_number g ≤ 3
stage_few Building = omega arith
stage_few Built = omega arith
stage_few Reading = omega arith
stage_few Read = omega arith

pub names_once : (number : ℕ) (a b : Result Stage UnknownStage) → Names number a → Names number b → a ≡ b
names_once number (Ok g) (Ok j) p q = ap Ok (sym (stage_back g) ∙ ap stage_of (sym p ∙ q) ∙ stage_back j)
names_once number (Ok g) (Err u) p q = let few : stage_number g ≤ 3 = stage_few g in absurd (omega arith)
names_once number (Err u) (Ok j) p q = let few : stage_number j ≤ 3 = stage_few j in absurd (omega arith)
names_once number (Err u) (Err v) p q = ap (λ (x : ℕ). Err (record { 0 = x })) (p.0 ∙ sym q.0)
