-- What the demands say of a call and of the moments of runs. Definitions only.
-- Assumes nothing.
use Rattle.std.specs.Prelude.{ℕ, ◌<◌, ◌≤◌, ◌≡◌, List, ◌≢◌, T, Ok, Err, true, false}
use Rattle.numbers.specs.declared.Refusal.{Refusal}
use Rattle.rules.specs.Links.{Links, Tells}
use Rattle.rules.specs.Removal.{Sole, Cut, Piece}
use Rattle.rules.specs.Forest.{up}
use Rattle.rules.specs.Tables.{clear_notes}
use Rattle.rules.specs.Building.{ceiling}
use Rattle.rules.specs.Adopting.{parent_in}
use Rattle.state.specs.Layout.{tables_in, frag_of}
use Rattle.state.specs.Test.{is_building, is_reading, is_read}
use Rattle.state.specs.Call.{moved}
use Rattle.state.specs.declared.State.{State}
use Rattle.state.specs.declared.Stage.TheVariants.{Built}
use Rattle.demands.specs.Run.{start, Moment, TakeAt, CloseAt, OpenAt, ParentAt, LevelAt, PieceAt, CutAt, SoleAt, Run}
use Rattle.state.specs.Answers.{Asked, Judged}

-- The stage of a moment.
abbrev pub InBuilding : Moment → Type 0
InBuilding m = T (is_building m.state.stage)

abbrev pub InReading : Moment → Type 0
InReading m = T (is_reading m.state.stage)

abbrev pub InRead : Moment → Type 0
InRead m = T (is_read m.state.stage)

-- A question is answered with a number that has a property,
abbrev pub Gives : (ℕ → Type 0) → Asked → Type 0
Gives P (Ok x) = P x
Gives P (Err r) = ⊥

-- or with yes or no, yes exactly when something holds.
abbrev pub Decides : Type 0 → Judged → Type 0
Decides P (Ok true) = P
Decides P (Ok false) = P → ⊥
Decides P (Err r) = ⊥

-- Not '10: an adopted parent is n or more, or parents run in a cycle of two or more'.
abbrev pub Leading : ℕ → List ℕ → Type 0
Leading n ps = ((v : ℕ) → v < n → parent_in ps v < n) × ((v : ℕ) → v < n → (i : ℕ) × (parent_in ps (up (parent_in ps) i v) ≡ up (parent_in ps) i v))

-- The way from v to its root has l steps: so many lead there, and no fewer.
abbrev pub StepsToRoot : (ℕ → ℕ) → ℕ → ℕ → Type 0
StepsToRoot par v l = (par (up par l v) ≡ up par l v) × ((i : ℕ) → par (up par i v) ≡ up par i v → l ≤ i)

-- What refusal 9 leaves of a state s and its tables f and h: 'the notes are cleared and the stage is Built. This is the one refusal that changes anything.'
pub record NotesLost (s : State) (f h : List ℕ) (s' : State) (f' h' : List ℕ) : Type 0 where
  -- a reading pass was under way
  pub was_reading : T (is_reading s.stage)
  -- 'The entry count becomes 0 at .. refusal 9'
  pub state_after : s' ≡ moved Built s.passes 0 (clear_notes s.n (tables_in s f h)) s
  -- of the words that hold the tables, notes and marks are cleared, and the numbers with the stage; parents, levels and every other word stay
  pub frag_before : f ≡ frag_of s.stage s.n (tables_in s f h) f
  pub frag_after : f' ≡ frag_of Built s.n (clear_notes s.n (tables_in s f h)) f
  pub held_after : h' ≡ h

-- No call at a moment is refused with x.
pub record Never (m : Moment) (x : ℕ) : Type 0 where
  pub take_never : (block : List ℕ) (a : TakeAt m block) (r : Refusal) → a.answer ≡ Err r → r.number ≢ x
  pub close_never : (a : CloseAt m) (r : Refusal) → a.answer ≡ Err r → r.number ≢ x
  pub open_never : (a : OpenAt m) (r : Refusal) → a.answer ≡ Err r → r.number ≢ x
  pub parent_never : (v : ℕ) (a : ParentAt m v) (r : Refusal) → a.answer ≡ Err r → r.number ≢ x
  pub level_never : (v : ℕ) (a : LevelAt m v) (r : Refusal) → a.answer ≡ Err r → r.number ≢ x
  pub piece_never : (v : ℕ) (a : PieceAt m v) (r : Refusal) → a.answer ≡ Err r → r.number ≢ x
  pub cut_never : (v : ℕ) (a : CutAt m v) (r : Refusal) → a.answer ≡ Err r → r.number ≢ x
  pub sole_never : (u v : ℕ) (a : SoleAt m u v) (r : Refusal) → a.answer ≡ Err r → r.number ≢ x

-- 'those that taking the link or fragment away would show': every question about the n fragments is answered, and truly of the list read last.
pub record Truly (n : ℕ) (m : Moment) : Type 0 where
  pub piece_true : (v : ℕ) → v < n → (a : PieceAt m v) → Gives (Piece m.telling v) a.answer
  pub sole_true : (u v : ℕ) → u < n → v < n → u ≢ v → (a : SoleAt m u v) → Decides (Sole m.telling u v) a.answer
  pub cut_true : (v : ℕ) → v < n → (a : CutAt m v) → Decides (Cut m.telling v) a.answer

-- 'equal reports of these': both answer alike for every fragment and pair, refusals included.
pub record Alike (m w : Moment) : Type 0 where
  pub pieces_alike : (v : ℕ) (a : PieceAt m v) (b : PieceAt w v) → a.answer ≡ b.answer
  pub soles_alike : (u v : ℕ) (a : SoleAt m u v) (b : SoleAt w u v) → a.answer ≡ b.answer
  pub cuts_alike : (v : ℕ) (a : CutAt m v) (b : CutAt w v) → a.answer ≡ b.answer

-- A run that built with room k from passes that told E, and read E: 'ends within n/k passes, rounded up, and the reading pass accepts'.
pub record Finished (n k : ℕ) (E : Links) (m : Moment) : Type 0 where
  pub run : Run (start n k) m
  pub read_whole : InRead m
  pub read_set : Tells E m.telling
  pub passes_few : m.state.passes ≤ ceiling n k
  pub reports_true : Truly n m
