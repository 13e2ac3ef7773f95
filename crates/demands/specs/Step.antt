-- What the definitions of the calls make of a moment, and tell of its questions. (Laws.Answered: that is what every answer comes to, and there is one.) Definitions only.
-- Assumes nothing.
use Rattle.std.specs.Prelude.{ℕ, Bool, List, [], ◌∷◌}
use Rattle.base.specs.Answer.{Answer}
use Rattle.lists.specs.List.{block_links}
use Rattle.state.specs.Call.{Left}
use Rattle.state.specs.Take.{take_call}
use Rattle.state.specs.Close.{Ending, open_call, close_call}
use Rattle.state.specs.Ask.{parent_call, piece_call, cut_call, sole_call}
use Rattle.demands.specs.Run.{Call, take, close, open_reading, Moment, after_take, after_close, after_open}

abbrev pub take_at : Moment → List ℕ → Left (Unit {0})
take_at m block = take_call m.state m.frag m.held block

abbrev pub close_at : Moment → Left Ending
close_at m = close_call m.state m.frag m.held

abbrev pub open_at : Moment → Left (Unit {0})
open_at m = open_call m.state m.frag m.held

abbrev pub parent_at : Moment → ℕ → Answer ℕ
parent_at m v = parent_call m.state m.frag m.held v

abbrev pub piece_at : Moment → ℕ → Answer ℕ
piece_at m v = piece_call m.state m.frag m.held v

abbrev pub cut_at : Moment → ℕ → Answer Bool
cut_at m v = cut_call m.state m.frag m.held v

abbrev pub sole_at : Moment → ℕ → ℕ → Answer Bool
sole_at m a b = sole_call m.state m.frag m.held a b

unfoldable pub step : Moment → Call → Moment
step m (take block) = after_take m (block_links m.state.n m.state.entries block) (take_at m block)
step m close = after_close m (close_at m)
step m open_reading = after_open m (open_at m)

-- Calls one after another.
unfoldable pub after : Moment → List Call → Moment
after m [] = m
after m (c ∷ cs) = after (step m c) cs
