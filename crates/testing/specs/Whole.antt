-- A fragment table in which every fragment is placed in a forest that stands: what there is outside Building; and one that holds the numbers of that forest too:
-- what there is in Reading and Read. Definitions only.
-- Assumes nothing.
use Rattle.std.specs.Prelude.{ℕ, ◌*◌, ◌≤◌, ◌<◌, ◌≡◌, List, length, T}
use Rattle.rules.specs.Tables.{placed}
use Rattle.rules.specs.Numbers.{turn, end, at_turn}
use Rattle.rules.specs.Facts.{Standing}
use Rattle.state.specs.Layout.{words, forest_in, turn_in, end_in, whose_in}
use Rattle.state.specs.Call.{fragments_most}

pub record Whole (n : ℕ) (f : List ℕ) : Type 0 where
  pub few : n ≤ fragments_most
  pub long : words * n ≤ length f
  pub standing : Standing n (forest_in n f)
  pub all : (v : ℕ) → v < n → T (placed (forest_in n f) v)

pub record Numbered (n : ℕ) (f : List ℕ) : Type 0 where
  pub whole : Whole n f
  pub turns : (v : ℕ) → v < n → turn_in n f v ≡ turn n (forest_in n f) v
  pub ends : (v : ℕ) → v < n → end_in n f v ≡ end n (forest_in n f) v
  pub whose : (i : ℕ) → i < n → whose_in n f i ≡ at_turn n (forest_in n f) i
