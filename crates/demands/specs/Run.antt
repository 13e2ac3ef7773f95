-- Runs of calls: 'runs in which each call gets the state and tables as the call before left them', and what each pass of a run told. Definitions only.
-- Assumes nothing.
use Rattle.std.specs.Prelude.{ℕ, suc, ◌≡◌, List, [], ◌∷◌, ◌++◌, Ok}
use Rattle.base.specs.Pick.{pick}
use Rattle.base.specs.Answer.{Answer, gives, refuses}
use Rattle.base.specs.Link.{Link}
use Rattle.lists.specs.List.{block_links}
use Rattle.rules.specs.Tables.{Tables, fresh, clear_notes}
use Rattle.rules.specs.Building.{build_links, passes}
use Rattle.rules.specs.Reading.{read_links}
use Rattle.rules.specs.Adopting.{adopted}
use Rattle.state.specs.Layout.{tables_in}
use Rattle.state.specs.Test.{is_building}
use Rattle.state.specs.Call.{Begun, Left}
use Rattle.state.specs.Start.{start_call}
use Rattle.state.specs.Adopt.{adopt_call}
use Rattle.state.specs.Close.{Ending, more, whole, read}
use Rattle.state.specs.Answers.{taken_told, closed_told}
use Rattle.state.specs.declared.State.{State}
use Rattle.demands.specs.Promises.{Begins, TakeAnswer, OpenAnswer, CloseAnswer, ParentAnswer, LevelAnswer, PieceAnswer, SoleAnswer, CutAnswer, ends_building, changes}

-- The call that a run begins with.
pub data Origin : Type 0 where
  start : (n k : ℕ) → Origin
  adopt : (n k : ℕ) (parents : List ℕ) → Origin

-- The calls that may follow it, in any order. The questions are asked of a moment and change nothing.
pub data Call : Type 0 where
  take : (block : List ℕ) → Call
  close : Call
  open_reading : Call

-- A moment of a run: the state and both tables as the last call left them, and what was told up to here.
pub record Moment : Type 0 where
  pub state : State
  pub frag : List ℕ
  pub held : List ℕ
  -- the list that each Building pass told whose close was accepted since the start, the first pass first
  pub told : List (List Link)
  -- the list that the pass under way told up to here; in Read, the list of the pass that was read
  pub telling : List Link

-- What a pass told 'is the list that its accepted blocks add up to': the links that a take adds to it.
abbrev pub heard : Answer (Unit {0}) → Answer (List Link) → List Link
heard (gives _) (gives links) = links
heard (gives _) (refuses number place) = []
heard (refuses number place) links = []

-- A Building close that is accepted tells its pass.
abbrev pub now_told : Answer Ending → List (List Link) → List Link → List (List Link)
now_told (gives more) told g = told ++ (g ∷ [])
now_told (gives whole) told g = told ++ (g ∷ [])
now_told (gives read) told g = told
now_told (refuses number place) told g = told

-- The pass is read and its list stays, or it goes on because the close was refused and changed nothing; else a new pass begins.
abbrev pub stays_told : Answer Ending → List Link → List Link
stays_told (gives more) g = []
stays_told (gives whole) g = []
stays_told (gives read) g = g
stays_told (refuses number place) g = pick (changes number) [] g

abbrev pub clears_told : Answer (Unit {0}) → List Link → List Link
clears_told (gives _) g = []
clears_told (refuses number place) g = g

-- What each call leaves of a moment.
unfoldable pub after_take : Moment → Answer (List Link) → Left (Unit {0}) → Moment
after_take m links l = record { state = l.state; frag = l.frag; held = l.held; told = m.told; telling = m.telling ++ heard l.answer links }

unfoldable pub after_close : Moment → Left Ending → Moment
after_close m l = record {
  state = l.state;
  frag = l.frag;
  held = l.held;
  told = now_told l.answer m.told m.telling;
  telling = stays_told l.answer m.telling;
}

unfoldable pub after_open : Moment → Left (Unit {0}) → Moment
after_open m l = record { state = l.state; frag = l.frag; held = l.held; told = m.told; telling = clears_told l.answer m.telling }

-- What is answered at a moment.
abbrev pub TakeAt : Moment → List ℕ → Type 0
TakeAt m block = TakeAnswer m.state m.frag m.held block

abbrev pub CloseAt : Moment → Type 0
CloseAt m = CloseAnswer m.state m.frag m.held

abbrev pub OpenAt : Moment → Type 0
OpenAt m = OpenAnswer m.state m.frag m.held

abbrev pub ParentAt : Moment → ℕ → Type 0
ParentAt m v = ParentAnswer m.state m.frag m.held v

abbrev pub LevelAt : Moment → ℕ → Type 0
LevelAt m v = LevelAnswer m.state m.frag m.held v

abbrev pub PieceAt : Moment → ℕ → Type 0
PieceAt m v = PieceAnswer m.state m.frag m.held v

abbrev pub CutAt : Moment → ℕ → Type 0
CutAt m v = CutAnswer m.state m.frag m.held v

abbrev pub SoleAt : Moment → ℕ → ℕ → Type 0
SoleAt m a b = SoleAnswer m.state m.frag m.held a b

-- What a call at a moment may answer,
abbrev pub Answered : Moment → Call → Type 0
Answered m (take block) = TakeAt m block
Answered m close = CloseAt m
Answered m open_reading = OpenAt m

-- and the moment that comes of it: the state that the answer has, or the one before where it is a plain refusal; the tables as left.
unfoldable pub next : (m : Moment) (c : Call) → Answered m c → Moment
next m (take block) a = after_take m (block_links m.state.n m.state.entries block) (taken_told m.state a.answer a.frag a.held)
next m close a = after_close m (closed_told m.state a.answer a.frag a.held)
next m open_reading a = after_open m (taken_told m.state a.answer a.frag a.held)

-- What the first call is to leave, on tables as they were lent.
abbrev pub begun_by : Origin → List ℕ → List ℕ → Begun
begun_by (start n k) f h = start_call n k f h
begun_by (adopt n k ps) f h = adopt_call n k ps f h

abbrev pub BeginAnswer : Origin → List ℕ → List ℕ → Type 0
BeginAnswer o f h = Begins (begun_by o f h)

unfoldable pub opening : State → List ℕ → List ℕ → Moment
opening s f h = record { state = s; frag = f; held = h; told = []; telling = [] }

-- A run has come to a moment: an accepted first call, then any calls, refused ones included, with whatever they answered.
pub data Run (o : Origin) : Moment → Type 0 where
  begins : (f h : List ℕ) (a : BeginAnswer o f h) (s : State) → a.answer ≡ Ok s → Run o (opening s a.frag a.held)
  goes : {m : Moment} → Run o m → (c : Call) (a : Answered m c) → Run o (next m c a)

-- The calls of a run after the first.
unfoldable pub calls : {o : Origin} {m : Moment} → Run o m → List Call
calls (begins f h a s e) = []
calls (goes r c a) = calls r ++ (c ∷ [])

-- How many of some calls are closes.
unfoldable pub closes_in : List Call → ℕ
closes_in [] = 0
closes_in (take block ∷ cs) = closes_in cs
closes_in (close ∷ cs) = suc (closes_in cs)
closes_in (open_reading ∷ cs) = closes_in cs

-- How many closes of a run were accepted in Building.
unfoldable pub accepted_closes : {o : Origin} {m : Moment} → Run o m → ℕ
accepted_closes (begins f h a s e) = 0
accepted_closes (goes r (take block) a) = accepted_closes r
accepted_closes (goes r close a) = pick (ends_building a.answer) (suc (accepted_closes r)) (accepted_closes r)
accepted_closes (goes r open_reading a) = accepted_closes r

-- What the rules make of what was told: of the passes closed since the first call a forest,
abbrev pub fragments : Origin → ℕ
fragments (start n k) = n
fragments (adopt n k ps) = n

abbrev pub room_for : Origin → ℕ
room_for (start n k) = k
room_for (adopt n k ps) = k

abbrev pub first_tables : Origin → Tables
first_tables (start n k) = fresh n
first_tables (adopt n k ps) = adopted n ps

unfoldable pub forest_of : Origin → List (List Link) → Tables
forest_of o told = passes (fragments o) (room_for o) (first_tables o) told

-- and of the pass under way the tables that go with it.
unfoldable pub tables_of : Origin → Moment → Tables
tables_of o m =
    pick (is_building m.state.stage)
    (build_links (fragments o) (room_for o) (forest_of o m.told) m.telling)
    (read_links (clear_notes (fragments o) (forest_of o m.told)) m.telling)

-- What the state and the tables of a moment hold.
abbrev pub tables_at : Moment → Tables
tables_at m = tables_in m.state m.frag m.held
