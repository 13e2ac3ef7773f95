-- What a call answers, in document 01's words: what was asked for, or a refusal with its number and place.
-- Assumes nothing.
use Rattle.std.specs.Prelude.{ℕ}

pub data Answer (A : Type 0) : Type 0 where
  gives : A → Answer A
  -- 'Each returns its number and a place'
  refuses : (number place : ℕ) → Answer A
