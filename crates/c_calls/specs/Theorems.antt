-- A run through C is a run: where the words hold a state, each C call leaves words that hold the state that the call of crate `state` leaves, leaves the same tables and
-- tells the same answer, whether it is accepted or refused.
-- Assumes nothing.
use Rattle.std.specs.Prelude.{ℕ, ◌≤◌, ◌≡◌, List, length}
use Rattle.lists.specs.List.{and_then, file_links}
use Rattle.state.specs.Start.{start_call}
use Rattle.state.specs.Adopt.{adopt_call}
use Rattle.state.specs.Take.{take_call}
use Rattle.state.specs.Close.{open_call, close_call}
use Rattle.state.specs.Ask.{parent_call, level_call, piece_call, cut_call, sole_call}
use Rattle.state.proofs.Laws.KeepsBegun.{start_keeps, adopt_keeps}
use Rattle.c_words.specs.State.{state_size, word_most, Holds, mark_word}
use Rattle.c_calls.specs.Call.{number_of, reply_of, nothing, itself, ending_word, c_start, c_adopt, c_open, c_take, c_close, c_parent, c_level, c_piece, c_cut, c_sole}
use Rattle.telling.specs.Tell.{beginning, tell_call}
use Rattle.telling.specs.declared.Telling.{Telling}
use Rattle.c_telling.specs.Telling.{telling_size, heard_in, HoldsTelling}
use Rattle.c_calls.specs.Tell.{c_begin, c_tell}
use Rattle.c_calls.specs.Run.{Follows, Begins, Step, Moment, Lent, HoldsAt, run, c_run, FollowsTell, Hearing, Teller, TellerLent, HoldsTeller, tell_run, c_tell_run, SameCourse}
use Rattle.c_calls.specs.File.{list_head, links_from}
use Rattle.c_calls.specs.Laws.File.{file_parted}
use Rattle.c_calls.specs.Laws.Tell.{begin_held, tell_held, tell_run_held}
use Rattle.c_calls.specs.Laws.Runs.{begins_begins, open_held, take_held, close_held, asks_held, run_held}
use Rattle.state.specs.declared.State.{State}

-- The calls that begin a state, in words enough for one.
pub start_begins : (n k : ℕ) (w f h : List ℕ) → state_size ≤ length w → Begins w (c_start n k w f h) (start_call n k f h)
unfolding c_start
start_begins n k w f h l = begins_begins w f h l (start_call n k f h) (start_keeps n k f h) n k

pub adopt_begins : (n k : ℕ) (ps w f h : List ℕ) → state_size ≤ length w → Begins w (c_adopt n k ps w f h) (adopt_call n k ps f h)
unfolding c_adopt
adopt_begins n k ps w f h l = begins_begins w f h l (adopt_call n k ps f h) (adopt_keeps n k f h ps) n k

-- The calls on a state.
module _ (w f h : List ℕ) (s : State) (H : Holds w s) where
  pub open_follows : Follows number_of (c_open w f h) (open_call s f h)
  open_follows = open_held w f h s H

  pub take_follows : (block : List ℕ) → Follows (reply_of nothing) (c_take w f h block) (take_call s f h block)
  take_follows block = take_held w f h s H block

  pub close_follows : Follows (reply_of ending_word) (c_close w f h) (close_call s f h)
  close_follows = close_held w f h s H

  -- The questions: none writes in the state's words.
  pub parent_follows : (v : ℕ) → c_parent w f h v ≡ reply_of itself (parent_call s f h v)
  unfolding c_parent
  parent_follows v = asks_held w f h s H itself (λ (s : State). parent_call s f h v)

  pub level_follows : (v : ℕ) → c_level w f h v ≡ reply_of itself (level_call s f h v)
  unfolding c_level
  level_follows v = asks_held w f h s H itself (λ (s : State). level_call s f h v)

  pub piece_follows : (v : ℕ) → c_piece w f h v ≡ reply_of itself (piece_call s f h v)
  unfolding c_piece
  piece_follows v = asks_held w f h s H itself (λ (s : State). piece_call s f h v)

  pub cut_follows : (v : ℕ) → c_cut w f h v ≡ reply_of mark_word (cut_call s f h v)
  unfolding c_cut
  cut_follows v = asks_held w f h s H mark_word (λ (s : State). cut_call s f h v)

  pub sole_follows : (a b : ℕ) → c_sole w f h a b ≡ reply_of mark_word (sole_call s f h a b)
  unfolding c_sole
  sole_follows a b = asks_held w f h s H mark_word (λ (s : State). sole_call s f h a b)

-- Any number of calls, in any order, from words that hold a state.
pub run_holds : (l : Lent) (m : Moment) → HoldsAt l m → (steps : List Step) → HoldsAt (c_run l steps) (run m steps)
run_holds = run_held

-- What a list file tells is its head and the links from there on; where the head is refused, the file is.
pub head_of_file : (s : List ℕ) → file_links s ≡ and_then (list_head s) (links_from s)
head_of_file = file_parted

-- A telling through C is a telling: begun, the words hold it; from then on each call does what `telling::tell` does on the telling that they
-- hold, and where it goes on they hold the one to go on with.
pub begin_holds : (k : ℕ) (w : List ℕ) → telling_size ≤ length w → k ≤ word_most → HoldsTelling (c_begin k w).words (beginning k)
begin_holds = begin_held

pub tell_follows : (w f h b text : List ℕ) (t : Telling) → HoldsTelling w t → (heard : ℕ) → FollowsTell (c_tell w f h b text heard) (tell_call t f h b text (heard_in heard))
tell_follows = tell_held

-- Any number of such calls, each with a buffer, a text and what was heard, from words that hold a telling: the C calls wait or stop where those of
-- crate `telling` do.
pub tell_run_holds : (xs : List Hearing) (l : TellerLent) (m : Teller) → HoldsTeller l m → SameCourse (c_tell_run xs l) (tell_run xs m)
tell_run_holds = tell_run_held
