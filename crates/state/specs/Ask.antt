-- The questions: 'Parent, level and piece are asked in Built, Reading and Read; cut and sole only in Read.' Definitions only.
-- Assumes nothing.
use Rattle.std.specs.Prelude.{ℕ, Bool, ◌||◌, not, List, leb, eqb}
use Rattle.base.specs.Pick.{pick}
use Rattle.base.specs.Answer.{Answer, gives, refuses}
use Rattle.rules.specs.Tables.{parent_of, lev}
use Rattle.rules.specs.Reading.{piece, cut, sole}
use Rattle.state.specs.Layout.{tables_in}
use Rattle.state.specs.Test.{is_building, is_read}
use Rattle.state.specs.Call.{head_refusal}
use Rattle.state.specs.declared.State.{State}
use Rattle.state.specs.declared.Stage.{Stage}

abbrev pub asks : Stage → Bool
asks stage = not (is_building stage)

-- A question about the fragments a and b: the head's refusal, 'then .. a question's 4 and then 5'; else its answer.
unfoldable pub ask_two : {A : Type 0} → (Stage → Bool) → State → List ℕ → List ℕ → (a b : ℕ) → A → Answer A
ask_two allowed s f h a b answer =
    pick (not (eqb (head_refusal allowed s f h) 0)) (refuses (head_refusal allowed s f h) 0)
    (pick (leb s.n a || leb s.n b) (refuses 4 0)
    (pick (eqb a b) (refuses 5 0)
    (gives answer)))

-- A question about the fragment v.
unfoldable pub ask_one : {A : Type 0} → (Stage → Bool) → State → List ℕ → List ℕ → (v : ℕ) → A → Answer A
ask_one allowed s f h v answer =
    pick (not (eqb (head_refusal allowed s f h) 0)) (refuses (head_refusal allowed s f h) 0)
    (pick (leb s.n v) (refuses 4 0)
    (gives answer))

unfoldable pub parent_call : State → List ℕ → List ℕ → ℕ → Answer ℕ
parent_call s f h v = ask_one asks s f h v (parent_of (tables_in s f h) v)

unfoldable pub level_call : State → List ℕ → List ℕ → ℕ → Answer ℕ
level_call s f h v = ask_one asks s f h v (lev (tables_in s f h) v)

unfoldable pub piece_call : State → List ℕ → List ℕ → ℕ → Answer ℕ
piece_call s f h v = ask_one asks s f h v (piece s.n (tables_in s f h) v)

unfoldable pub cut_call : State → List ℕ → List ℕ → ℕ → Answer Bool
cut_call s f h v = ask_one is_read s f h v (cut s.n (tables_in s f h) v)

unfoldable pub sole_call : State → List ℕ → List ℕ → ℕ → ℕ → Answer Bool
sole_call s f h a b = ask_two is_read s f h a b (sole s.n (tables_in s f h) a b)
