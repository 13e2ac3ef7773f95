-- What a call on a state leaves, and the refusals that every such call tests first, in document 01's order: 1, 2, 3, 6, 11. Definitions only.
-- Assumes nothing.
use Rattle.std.specs.Prelude.{ℕ, ◌*◌, Bool, ◌||◌, not, List, length, ltb, eqb}
use Rattle.base.specs.Pick.{pick}
use Rattle.base.specs.Answer.{Answer, gives, refuses}
-- 'n: 1 to 32,768.'
pub use Rattle.lists.specs.List.{fragments_most}
use Rattle.rules.specs.Tables.{Tables}
use Rattle.state.specs.Layout.{words, moved_on, frag_of, held_of}
use Rattle.state.specs.Test.{sound}
use Rattle.state.specs.declared.State.{State}
use Rattle.state.specs.declared.Stage.{Stage}

-- 'Room k: 1 to 64.'
abbrev pub room_most : ℕ
room_most = 64

-- Which of the refusals 1, 2 and 3 is due, for n, k and the lengths of the tables; 0 where none is.
unfoldable pub bounds_refusal : (n k frags helds : ℕ) → ℕ
bounds_refusal n k frags helds =
    -- 1: 'n, given or in the state, is 0 or above 32,768'
    pick (eqb n 0 || ltb fragments_most n) 1
    -- 2: 'k, given or in the state, is 0 or above 64'
    (pick (eqb k 0 || ltb room_most k) 2
    -- 3: 'a lent table .. is too short'
    (pick (ltb frags (words * n) || ltb helds (k * n)) 3
    0))

-- What a call that begins a state leaves: the state, or a refusal, and both tables.
pub record Begun : Type 0 where
  pub answer : Answer State
  pub frag : List ℕ
  pub held : List ℕ

-- What a call on a state leaves: its answer, the state to go on with, and both tables.
pub record Left (A : Type 0) : Type 0 where
  pub answer : Answer A
  pub state : State
  pub frag : List ℕ
  pub held : List ℕ

-- 'leaves state and tables as found'
abbrev pub refused : {A : Type 0} → State → List ℕ → List ℕ → (number place : ℕ) → Left A
refused s f h number place = record { answer = refuses number place; state = s; frag = f; held = h }

-- 'Order: 1, 2, 3, 6, 11, then ..': the refusal due at the head of a call that is allowed in some stages; 0 where none is.
unfoldable pub head_refusal : (Stage → Bool) → State → List ℕ → List ℕ → ℕ
head_refusal allowed s f h =
    pick (not (eqb (bounds_refusal s.n s.k (length f) (length h)) 0)) (bounds_refusal s.n s.k (length f) (length h))
    -- 6: 'the stage does not allow the call'
    (pick (not (allowed s.stage)) 6
    -- 11: 'the tables are no state'
    (pick (not (sound s f h)) 11
    0))

-- A call on a state: the refusal due at its head, or what it goes on to.
unfoldable pub headed : {A : Type 0} → (Stage → Bool) → State → List ℕ → List ℕ → Left A → Left A
headed allowed s f h rest =
    pick (eqb (head_refusal allowed s f h) 0) rest (refused s f h (head_refusal allowed s f h) 0)

-- The state after a call that leaves the tables t.
unfoldable pub moved : Stage → (passes entries : ℕ) → Tables → State → State
moved stage passes entries t s = moved_on s stage passes entries (length t.held) t.crossed

-- What an accepted call leaves: an answer, the state, and the tables t in the words that were lent.
unfoldable pub leaves : {A : Type 0} → A → State → Tables → List ℕ → List ℕ → Left A
leaves answer s t f h = record { answer = gives answer; state = s; frag = frag_of s.stage s.n t f; held = held_of s.n s.k t h }
