-- A call that is allowed in some stages is, in each of them, the call that is allowed there alone.
-- Assumes nothing.
use Rattle.std.specs.Prelude.{◌≡◌, refl, Bool, true, false, List, ℕ}
use Rattle.state.specs.Test.{is_building, is_reading}
use Rattle.state.specs.Call.{Left, head_refusal, headed}
use Rattle.state.specs.Take.{takes, take_in, take_call}
use Rattle.state.specs.Close.{close_in, close_call}
use Rattle.state.specs.declared.State.{State}
use Rattle.state.specs.declared.Stage.{Stage}

-- Of the stages that are allowed only the present one counts.
headed_same : {A : Type 0} (p q : Stage → Bool) (s : State) (f h : List ℕ) (rest : Left A) → p s.stage ≡ q s.stage → headed p s f h rest ≡ headed q s f h rest
unfolding headed head_refusal
headed_same p q s f h rest e = rw e

module _ (s : State) (f h : List ℕ) where
  -- In Building,
  pub take_building : (block : List ℕ) → is_building s.stage ≡ true → take_in is_building s f h block ≡ take_call s f h block
  unfolding take_in take_call
  take_building block e = headed_same is_building takes s f h _ (rw e refl)

  pub close_building_lem : is_building s.stage ≡ true → close_in is_building s f h ≡ close_call s f h
  unfolding close_in close_call
  close_building_lem e = headed_same is_building takes s f h _ (rw e refl)

  -- and in any other stage.
  pub take_reading : (block : List ℕ) → is_building s.stage ≡ false → take_in is_reading s f h block ≡ take_call s f h block
  unfolding take_in take_call
  take_reading block e = headed_same is_reading takes s f h _ (rw e refl)

  pub close_reading : is_building s.stage ≡ false → close_in is_reading s f h ≡ close_call s f h
  unfolding close_in close_call
  close_reading e = headed_same is_reading takes s f h _ (rw e refl)
