-- What it means that a run through C is a run. Definitions only.
-- Assumes nothing.
use Rattle.std.specs.Prelude.{ℕ, ◌≡◌, List, [], ◌∷◌, leb}
use Rattle.base.specs.Pick.{pick}
use Rattle.base.specs.Answer.{Answer, gives, refuses}
use Rattle.state.specs.Call.{Begun, Left}
use Rattle.state.specs.Take.{take_call}
use Rattle.state.specs.Close.{open_call, close_call}
use Rattle.c_words.specs.State.{Holds}
use Rattle.c_words.specs.Answers.{Reply}
use Rattle.c_calls.specs.Call.{Returned, number_of, c_open, c_take, c_close}
use Rattle.state.specs.declared.State.{State}
use Rattle.telling.specs.Tell.{Does, reads, rereads, reports, refuses_at, lacks, fails, Goes, tell_call}
use Rattle.telling.specs.declared.Telling.{Telling}
use Rattle.c_telling.specs.Telling.{heard_in, HoldsTelling, SaysOver}
use Rattle.c_telling.specs.Answers.{does_number}
use Rattle.c_calls.specs.Tell.{Told, c_tell}

-- What a C call left is what the call of crate `state` leaves: the same answer, words that hold the same state, the same tables.
pub record Follows {A : Type 0} (tells : Answer A → Reply) (r : Returned) (l : Left A) : Type 0 where
  pub reply : r.reply ≡ tells l.answer
  pub state : Holds r.state l.state
  pub frag : r.frag ≡ l.frag
  pub held : r.held ≡ l.held

-- The same of start and adopt: the words hold the state to begin with; where the call is refused they are as found.
pub record Begins (w : List ℕ) (r : Returned) (b : Begun) : Type 0 where
  pub reply : r.reply ≡ number_of b.answer
  pub state : (s : State) → b.answer ≡ gives s → Holds r.state s
  pub same : (number place : ℕ) → b.answer ≡ refuses number place → r.state ≡ w
  pub frag : r.frag ≡ b.frag
  pub held : r.held ≡ b.held

-- The calls that may follow start or adopt, in any order.
pub data Step : Type 0 where
  take : (block : List ℕ) → Step
  close : Step
  open_reading : Step

-- A state with both tables, and the words that are lent for them.
pub record Moment : Type 0 where
  pub state : State
  pub frag : List ℕ
  pub held : List ℕ

pub record Lent : Type 0 where
  pub state : List ℕ
  pub frag : List ℕ
  pub held : List ℕ

pub record HoldsAt (l : Lent) (m : Moment) : Type 0 where
  pub state : Holds l.state m.state
  pub frag : l.frag ≡ m.frag
  pub held : l.held ≡ m.held

-- 'each call gets the state and tables as the call before left them'
abbrev pub left_at : {A : Type 0} → Left A → Moment
left_at l = record { state = l.state; frag = l.frag; held = l.held }

abbrev pub lent_at : Returned → Lent
lent_at r = record { state = r.state; frag = r.frag; held = r.held }

abbrev pub step : Moment → Step → Moment
step m (take block) = left_at (take_call m.state m.frag m.held block)
step m close = left_at (close_call m.state m.frag m.held)
step m open_reading = left_at (open_call m.state m.frag m.held)

abbrev pub c_step : Lent → Step → Lent
c_step l (take block) = lent_at (c_take l.state l.frag l.held block)
c_step l close = lent_at (c_close l.state l.frag l.held)
c_step l open_reading = lent_at (c_open l.state l.frag l.held)

unfoldable pub run : Moment → List Step → Moment
run m [] = m
run m (x ∷ xs) = run (step m x) xs

unfoldable pub c_run : Lent → List Step → Lent
c_run l [] = l
c_run l (x ∷ xs) = c_run (c_step l x) xs

-- What a telling in C left is what `telling::tell` leaves: the number of what to do next, the same tables, buffer and text. Where it goes on,
-- from here or from the start of the file, the words hold the telling to go on with; where a list was read they hold its state; and where it is
-- over they say where, with which text and with which refusal.
pub record FollowsTell (r : Told) (g : Goes) : Type 0 where
  pub number : r.end.number ≡ does_number g.turn.said.does
  pub on : (t : Telling) → g.turn.said.does ≡ reads t → HoldsTelling r.end.words t
  pub again : (t : Telling) → g.turn.said.does ≡ rereads t → HoldsTelling r.end.words t
  pub read : (s : State) (size : ℕ) → g.turn.said.does ≡ reports s size → Holds r.end.words s × SaysOver r.end.words 0 size 0
  pub refused : (number place size : ℕ) → g.turn.said.does ≡ refuses_at number place size → SaysOver r.end.words place size number
  pub frag : r.frag ≡ g.turn.frag
  pub held : r.held ≡ g.turn.held
  pub buffer : r.buffer ≡ g.buffer
  pub text : r.text ≡ g.turn.said.text

-- What comes with a call of a telling: the bytes in the buffer, the text, and what was heard.
pub record Hearing : Type 0 where
  pub buffer : List ℕ
  pub text : List ℕ
  pub heard : ℕ

-- A telling with both tables, and the words that are lent for them.
pub record Teller : Type 0 where
  pub telling : Telling
  pub frag : List ℕ
  pub held : List ℕ

pub record TellerLent : Type 0 where
  pub words : List ℕ
  pub frag : List ℕ
  pub held : List ℕ

pub record HoldsTeller (l : TellerLent) (m : Teller) : Type 0 where
  pub words : HoldsTelling l.words m.telling
  pub frag : l.frag ≡ m.frag
  pub held : l.held ≡ m.held

-- After some calls: it waits for the next, or one of them had nothing to go on with and is the last.
pub data Course (A B : Type 0) : Type 0 where
  waits : A → Course A B
  stops : B → Course A B

-- On with the telling that was answered, or else.
abbrev pub onward : {A : Type 0} → Does → A → (Telling → A) → A
onward (reads t) stop on = on t
onward (rereads t) stop on = on t
onward (reports s size) stop on = stop
onward (refuses_at number place size) stop on = stop
onward (lacks size) stop on = stop
onward fails stop on = stop

abbrev pub teller_at : Goes → Telling → Teller
teller_at g t = record { telling = t; frag = g.turn.frag; held = g.turn.held }

abbrev pub teller_lent_at : Told → TellerLent
teller_lent_at r = record { words = r.end.words; frag = r.frag; held = r.held }

unfoldable pub tell_run : List Hearing → Teller → Course Teller Goes
tell_run [] m = waits m
tell_run (x ∷ xs) m =
    let g = tell_call m.telling m.frag m.held x.buffer x.text (heard_in x.heard) in
    onward g.turn.said.does (stops g) (λ t. tell_run xs (teller_at g t))

-- In C: on while the number is 0 or 1.
unfoldable pub c_tell_run : List Hearing → TellerLent → Course TellerLent Told
c_tell_run [] l = waits l
c_tell_run (x ∷ xs) l =
    let r = c_tell l.words l.frag l.held x.buffer x.text x.heard in
    pick (leb r.end.number 1) (c_tell_run xs (teller_lent_at r)) (stops r)

-- Both wait, and the words hold the telling; or both have stopped, at calls that leave the same.
abbrev pub SameCourse : Course TellerLent Told → Course Teller Goes → Type 0
SameCourse (waits l) (waits m) = HoldsTeller l m
SameCourse (waits l) (stops g) = ⊥
SameCourse (stops r) (waits m) = ⊥
SameCourse (stops r) (stops g) = FollowsTell r g
