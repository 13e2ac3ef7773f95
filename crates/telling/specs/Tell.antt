-- What telling a file answers and leaves. Definitions only.
-- Assumes nothing.
use Rattle.std.specs.Prelude.{ℕ, ◌+◌, Bool, true, false, ◌&&◌, not, List, ltb, eqb, length}
use Rattle.base.specs.Pick.{pick}
use Rattle.base.specs.Answer.{Answer, gives, refuses}
use Rattle.numbers.specs.Number.{Wrote, groups_most}
use Rattle.state.specs.Layout.{begun}
use Rattle.state.specs.Call.{Begun, Left}
use Rattle.state.specs.Start.{start_call}
use Rattle.state.specs.Close.{Ending, more, whole, read, open_call, close_call}
use Rattle.state.specs.declared.State.{State}
use Rattle.state.specs.declared.Stage.TheVariants.{Building}
use Rattle.parts.specs.Parts.{Header, Opens, Carry, Feeds, open_part, feed_part}
use Rattle.text.specs.Lines.{refusal_line, no_file_line, store}
use Rattle.lines.specs.Report.{report_call}
use Rattle.telling.specs.declared.Step.{Step}
use Rattle.telling.specs.declared.Step.TheVariants.{First, Head, Links, Over}
use Rattle.telling.specs.declared.Telling.{Telling}
use Rattle.telling.specs.declared.Heard.{Heard}
use Rattle.telling.specs.declared.Heard.TheVariants.{Bytes, End, Failed, NoFile}
use Rattle.telling.specs.declared.Next.{Next}
use Rattle.telling.specs.declared.Next.TheVariants.{More, Again, Report, Refused, NoFile as Absent, Failed as Unread}

-- What is answered: what to do next.
pub data Does : Type 0 where
  -- read more, behind the bytes that stand at the buffer's front
  reads : Telling → Does
  -- read again, from the start of the file
  rereads : Telling → Does
  -- print so many bytes of the text, and stop: the report of a list that was read,
  reports : State → (size : ℕ) → Does
  -- the line of a refusal,
  refuses_at : (number place size : ℕ) → Does
  -- or that there is no file
  lacks : (size : ℕ) → Does
  -- a read failed: stop, and print nothing
  fails : Does

abbrev pub next_does : Next → Does
next_does (More t) = reads t
next_does (Again t) = rereads t
next_does (Report s size) = reports s size
next_does (Refused r size) = refuses_at r.number r.place size
next_does (Absent size) = lacks size
next_does Unread = fails

-- The answer with the text that goes with it; with both tables; with the buffer.
pub record Said : Type 0 where
  pub does : Does
  pub text : List ℕ

pub record Turn : Type 0 where
  pub said : Said
  pub frag : List ℕ
  pub held : List ℕ

pub record Goes : Type 0 where
  pub turn : Turn
  pub buffer : List ℕ

abbrev pub said : Next → List ℕ → Said
said r text = record { does = next_does r; text = text }

abbrev pub turned : Next → (f h text : List ℕ) → Turn
turned r f h text = record { said = said r text; frag = f; held = h }

abbrev pub goes : Next → (f h buffer text : List ℕ) → Goes
goes r f h buffer text = record { turn = turned r f h text; buffer = buffer }

abbrev pub telling_of : State → Step → (offset have : ℕ) → Telling
telling_of s step offset have = record { state = s; step = step; offset = offset; have = have }

-- To tell a file with room k: n is not known yet.
unfoldable pub beginning : ℕ → Telling
beginning k = telling_of (begun 0 k Building) First 0 0

-- How many bytes are to be printed: none where the text had no room.
abbrev pub size_of : Answer ℕ → ℕ
size_of (gives size) = size
size_of (refuses number place) = 0

-- 'On a refusal it prints only `refused R at P`'
unfoldable pub refusing : (number place : ℕ) → List ℕ → Said
refusing number place text =
    let w = store text (refusal_line number place) in
    record { does = refuses_at number place (size_of w.answer); text = w.buffer }

-- 'No such file: `no file`.'
unfoldable pub missing : List ℕ → Said
missing text = let w = store text no_file_line in record { does = lacks (size_of w.answer); text = w.buffer }

-- Nothing was read.
unfoldable pub unheard : Heard → List ℕ → Said
unheard (Bytes count) text = record { does = fails; text = text }
unheard End text = record { does = fails; text = text }
unheard Failed text = record { does = fails; text = text }
unheard NoFile text = missing text

-- A list was read: its report.
unfoldable pub reporting_by : State → (f h : List ℕ) → List ℕ → Answer ℕ → Turn
reporting_by s f h text (gives size) = record { said = record { does = reports s size; text = text }; frag = f; held = h }
reporting_by s f h text (refuses number place) = record { said = refusing number place text; frag = f; held = h }

unfoldable pub reporting : State → (f h : List ℕ) → Wrote → Turn
reporting s f h w = reporting_by s f h w.buffer w.answer

-- The list is to be told again.
abbrev pub retelling : State → (f h text : List ℕ) → Turn
retelling s f h text = record { said = record { does = rereads (telling_of s Head 0 0); text = text }; frag = f; held = h }

unfoldable pub opening_by : Left (Unit {0}) → List ℕ → Answer (Unit {0}) → Turn
opening_by l text (gives x) = retelling l.state l.frag l.held text
opening_by l text (refuses number place) = record { said = refusing number place text; frag = l.frag; held = l.held }

unfoldable pub opening : Left (Unit {0}) → List ℕ → Turn
opening l text = opening_by l text l.answer

-- A pass has ended: 'in Building it answers more or done'; done, reading is opened and the list told once more; read, it is reported.
unfoldable pub ending_by : Left Ending → List ℕ → Answer Ending → Turn
ending_by l text (gives more) = retelling l.state l.frag l.held text
ending_by l text (gives whole) = opening (open_call l.state l.frag l.held) text
ending_by l text (gives read) = reporting l.state l.frag l.held (report_call l.state l.frag l.held text)
ending_by l text (refuses number place) = record { said = refusing number place text; frag = l.frag; held = l.held }

unfoldable pub ending : Left Ending → List ℕ → Turn
ending l text = ending_by l text l.answer

-- Links were taken: at the file's end the pass ends, else there is more to read.
unfoldable pub feeding_by : Bool → List ℕ → Feeds → Answer Carry → Goes
feeding_by last text w (gives c) =
    pick last
    (record { turn = ending (close_call w.left.state w.left.frag w.left.held) text; buffer = w.buffer })
    (record {
      turn = record {
        said = record { does = reads (telling_of w.left.state Links c.offset c.have); text = text };
        frag = w.left.frag;
        held = w.left.held;
      };
      buffer = w.buffer;
    })
feeding_by last text w (refuses number place) = record {
  turn = record { said = refusing number place text; frag = w.left.frag; held = w.left.held };
  buffer = w.buffer;
}

unfoldable pub feeding : Bool → List ℕ → Feeds → Goes
feeding last text w = feeding_by last text w w.left.answer

abbrev pub is_over : Step → Bool
is_over First = false
is_over Head = false
is_over Links = false
is_over Over = true

abbrev pub is_links : Step → Bool
is_links First = false
is_links Head = false
is_links Links = true
is_links Over = false

abbrev pub is_first : Step → Bool
is_first First = true
is_first Head = false
is_first Links = false
is_first Over = false

-- The head of the file has n. The first time a forest is started; from then on another n is refused with 9: the list does not have the forest that
-- is being built.
unfoldable pub entering : State → Step → ℕ → List ℕ → List ℕ → Begun
entering s step n f h =
    pick (is_first step) (start_call n s.k f h)
    (pick (eqb n s.n) (record { answer = gives s; frag = f; held = h })
    (record { answer = refuses 9 0; frag = f; held = h }))

unfoldable pub entered_by : (begins have : ℕ) → Bool → (text buffer : List ℕ) → Begun → Answer State → Goes
entered_by begins have last text buffer b (gives s) = feeding last text (feed_part s b.frag b.held buffer have begins last)
entered_by begins have last text buffer b (refuses number place) = record {
  turn = record { said = refusing number place text; frag = b.frag; held = b.held };
  buffer = buffer;
}

-- The links that stand at the buffer's front are told to the state.
unfoldable pub entered : (begins have : ℕ) → Bool → (text buffer : List ℕ) → Begun → Goes
entered begins have last text buffer b = entered_by begins have last text buffer b b.answer

-- The bytes end inside the head (8) and the file has not ended: more bytes may mend that.
unfoldable pub unfinished : ℕ → Bool → Bool
unfinished number last = not last && eqb number 8

unfoldable pub heading_by : Telling → (f h text : List ℕ) → Bool → List ℕ → Answer Header → Goes
heading_by t f h text last buffer (gives head) = entered head.begins head.have last text buffer (entering t.state t.step head.fragments f h)
heading_by t f h text last buffer (refuses number place) = record {
  turn = record {
    said = pick (unfinished number last) (record { does = reads t; text = text }) (refusing number place text);
    frag = f;
    held = h;
  };
  buffer = buffer;
}

-- The first part of a pass: the head, and what is there of the links.
unfoldable pub heading : Telling → (f h text : List ℕ) → Bool → Opens → Goes
heading t f h text last w = heading_by t f h text last w.buffer w.answer

-- A part of the file: the bytes at the buffer's front.
unfoldable pub parted : Telling → (f h buffer text : List ℕ) → Bool → Step → Goes
parted t f h buffer text last First = heading t f h text last (open_part t.have buffer)
parted t f h buffer text last Head = heading t f h text last (open_part t.have buffer)
parted t f h buffer text last Links = feeding last text (feed_part t.state f h buffer t.have t.offset last)
-- '6: the stage does not allow the call'
parted t f h buffer text last Over = record { turn = record { said = refusing 6 0 text; frag = f; held = h }; buffer = buffer }

-- `count` bytes more stand behind those that the buffer had: '3: a lent table, or a writer's buffer, is too short', also for one link.
unfoldable pub given : Telling → (f h buffer text : List ℕ) → (count : ℕ) → Bool → Goes
given t f h buffer text count last =
    pick (ltb (length buffer) (groups_most + groups_most))
    (record { turn = record { said = refusing 3 0 text; frag = f; held = h }; buffer = buffer })
    (pick (ltb (length buffer) (t.have + count))
    (record { turn = record { said = refusing 3 0 text; frag = f; held = h }; buffer = buffer })
    (parted (telling_of t.state t.step t.offset (t.have + count)) f h buffer text last t.step))

-- The file was read: bytes of it, or its end.
abbrev pub was_read : Heard → Bool
was_read (Bytes count) = true
was_read End = true
was_read Failed = false
was_read NoFile = false

abbrev pub is_end : Heard → Bool
is_end (Bytes count) = false
is_end End = true
is_end Failed = false
is_end NoFile = false

abbrev pub count_in : Heard → ℕ
count_in (Bytes count) = count
count_in End = 0
count_in Failed = 0
count_in NoFile = 0

unfoldable pub tell_call : Telling → (f h buffer text : List ℕ) → Heard → Goes
tell_call t f h buffer text (Bytes count) = given t f h buffer text count false
tell_call t f h buffer text End = given t f h buffer text 0 true
tell_call t f h buffer text Failed = record { turn = record { said = record { does = fails; text = text }; frag = f; held = h }; buffer = buffer }
tell_call t f h buffer text NoFile = record { turn = record { said = missing text; frag = f; held = h }; buffer = buffer }
