-- What the questions piece, cut and sole answer for all fragments, laid in scratch. Definitions only.
-- Assumes nothing.
use Rattle.std.specs.Prelude.{ℕ, Bool, List, eqb}
use Rattle.base.specs.Pick.{pick}
use Rattle.rules.specs.Tables.{Tables, par}
use Rattle.rules.specs.Reading.{sole_below, cut, piece}
use Rattle.state.specs.Layout.{tables_in}
use Rattle.state.specs.Test.{is_read}
use Rattle.state.specs.Call.{head_refusal}
use Rattle.state.specs.declared.State.{State}
use Rattle.testing.specs.Laid.{laid_at}

-- A verdict in a word: 1 for yes.
unfoldable pub flag : Bool → ℕ
flag b = pick b 1 0

-- Section 8: whether the fragment is cut.
unfoldable pub cut_at : ℕ → Tables → ℕ → ℕ
cut_at n t v = flag (cut n t v)

-- Section 9: whether the link to its parent is sole; a root has none.
unfoldable pub sole_at : ℕ → Tables → ℕ → ℕ
sole_at n t v = flag (sole_below n t (par t v) v)

-- Section 7, the piece, and those two, between the words that stood before and behind them.
unfoldable pub laid : ℕ → Tables → List ℕ → List ℕ
laid n t f = laid_at n 7 (piece n t) (cut_at n t) (sole_at n t) f

-- Where a refusal is due at the head of a question that is asked in Read the table is as it was.
unfoldable pub spread_in : State → List ℕ → List ℕ → List ℕ
spread_in s f h = pick (eqb (head_refusal is_read s f h) 0) (laid s.n (tables_in s f h) f) f
