-- What each C call leaves: the call of crate `state`, on the state that the words hold. Definitions only.
-- Assumes nothing.
use Rattle.std.specs.Prelude.{ℕ, List, length, ltb, eqb}
use Rattle.base.specs.Pick.{pick}
use Rattle.base.specs.Answer.{Answer, gives, refuses}
use Rattle.state.specs.Call.{Begun, Left, bounds_refusal}
use Rattle.state.specs.Start.{start_call}
use Rattle.state.specs.Adopt.{adopt_call}
use Rattle.state.specs.Take.{take_call}
use Rattle.state.specs.Close.{Ending, more, whole, read, open_call, close_call}
use Rattle.state.specs.Ask.{parent_call, level_call, piece_call, cut_call, sole_call}
use Rattle.c_words.specs.State.{state_size, state_in, state_words, mark_word}
use Rattle.c_words.specs.Answers.{Reply, reply}
use Rattle.state.specs.declared.State.{State}
use Rattle.state.specs.declared.Stage.TheVariants.{Building, Built}

-- What a C call leaves that begins a state or moves it on: its reply, the words of the state and both tables. A question leaves its reply alone.
pub record Returned : Type 0 where
  pub reply : Reply
  pub state : List ℕ
  pub frag : List ℕ
  pub held : List ℕ

abbrev pub returned : ℕ → ℕ → List ℕ → List ℕ → List ℕ → Returned
returned number word w f h = record { reply = reply number word; state = w; frag = f; held = h }

-- An answer in two words; of a refusal, its number and its place.
unfoldable pub reply_of : {A : Type 0} → (A → ℕ) → Answer A → Reply
reply_of word (gives a) = reply 0 (word a)
reply_of word (refuses number place) = reply number place

-- Of a call that has no word for its answer: the number alone.
unfoldable pub number_of : {A : Type 0} → Answer A → Reply
number_of (gives a) = reply 0 0
number_of (refuses number place) = reply number 0

-- The values that the answers are told by.
abbrev pub nothing : Unit {0} → ℕ
nothing x = 0

abbrev pub itself : ℕ → ℕ
itself x = x

abbrev pub ending_word : Ending → ℕ
ending_word more = 0
ending_word whole = 1
ending_word read = 2

-- 'a lent table .. is too short': what a call answers to an array too short for a state, and else.
unfoldable pub short_or : {A : Type 0} → List ℕ → A → A → A
short_or w short rest = pick (ltb (length w) state_size) short rest

-- Start and adopt: a refused call leaves the words as found.
unfoldable pub begun_words : List ℕ → Answer State → List ℕ
begun_words w (gives s) = state_words s w
begun_words w (refuses number place) = w

unfoldable pub begun : List ℕ → Begun → Returned
begun w b = record { reply = number_of b.answer; state = begun_words w b.answer; frag = b.frag; held = b.held }

-- 'Order: 1, 2, 3': n and k are given, so that their refusals come before that of the array.
unfoldable pub short_refusal : (n k frags helds : ℕ) → ℕ
short_refusal n k frags helds = pick (eqb (bounds_refusal n k frags helds) 0) 3 (bounds_refusal n k frags helds)

unfoldable pub begins : (n k : ℕ) → List ℕ → List ℕ → List ℕ → Begun → Returned
begins n k w f h b = short_or w (returned (short_refusal n k (length f) (length h)) 0 w f h) (begun w b)

unfoldable pub c_start : (n k : ℕ) → List ℕ → List ℕ → List ℕ → Returned
c_start n k w f h = begins n k w f h (start_call n k f h)

unfoldable pub c_adopt : (n k : ℕ) → List ℕ → List ℕ → List ℕ → List ℕ → Returned
c_adopt n k ps w f h = begins n k w f h (adopt_call n k ps f h)

-- Open reading and take: 'leaves state and tables as found'.
unfoldable pub left_words : {A : Type 0} → List ℕ → Answer A → State → List ℕ
left_words w (gives a) s = state_words s w
left_words w (refuses number place) s = w

unfoldable pub left : {A : Type 0} → (Answer A → Reply) → List ℕ → Left A → Returned
left tells w l = record { reply = tells l.answer; state = left_words w l.answer l.state; frag = l.frag; held = l.held }

-- In an array too short n and k cannot be read: 3.
unfoldable pub on_state : List ℕ → List ℕ → List ℕ → Returned → Returned
on_state w f h rest = short_or w (returned 3 0 w f h) rest

unfoldable pub c_open : List ℕ → List ℕ → List ℕ → Returned
c_open w f h = on_state w f h (left number_of w (open_call (state_in Building w) f h))

unfoldable pub c_take : List ℕ → List ℕ → List ℕ → List ℕ → Returned
c_take w f h block = on_state w f h (left (reply_of nothing) w (take_call (state_in Built w) f h block))

-- Close: refusal 9 'is the one refusal that changes anything'.
unfoldable pub closed_words : List ℕ → Answer Ending → State → List ℕ
closed_words w (gives a) s = state_words s w
closed_words w (refuses number place) s = pick (eqb number 9) (state_words s w) w

unfoldable pub closed : List ℕ → Left Ending → Returned
closed w l = record { reply = reply_of ending_word l.answer; state = closed_words w l.answer l.state; frag = l.frag; held = l.held }

unfoldable pub c_close : List ℕ → List ℕ → List ℕ → Returned
c_close w f h = on_state w f h (closed w (close_call (state_in Built w) f h))

-- The questions.
unfoldable pub asks : {A : Type 0} → (A → ℕ) → List ℕ → Answer A → Reply
asks word w answer = short_or w (reply 3 0) (reply_of word answer)

unfoldable pub c_parent : List ℕ → List ℕ → List ℕ → ℕ → Reply
c_parent w f h v = asks itself w (parent_call (state_in Building w) f h v)

unfoldable pub c_level : List ℕ → List ℕ → List ℕ → ℕ → Reply
c_level w f h v = asks itself w (level_call (state_in Building w) f h v)

unfoldable pub c_piece : List ℕ → List ℕ → List ℕ → ℕ → Reply
c_piece w f h v = asks itself w (piece_call (state_in Building w) f h v)

unfoldable pub c_cut : List ℕ → List ℕ → List ℕ → ℕ → Reply
c_cut w f h v = asks mark_word w (cut_call (state_in Building w) f h v)

unfoldable pub c_sole : List ℕ → List ℕ → List ℕ → (a b : ℕ) → Reply
c_sole w f h a b = asks mark_word w (sole_call (state_in Building w) f h a b)
