-- What the program prints, as a function of the bytes that each pass over the file read: document 01, 'The program `report`', in the words of the
-- rules. The passes may have read different bytes. Definitions only.
-- Assumes nothing.
use Rattle.std.specs.Prelude.{ℕ, suc, ◌*◌, Bool, true, false, List, [], ◌∷◌, eqb, length, drop}
use Rattle.base.specs.Pick.{pick}
use Rattle.base.specs.Answer.{Answer, gives, refuses}
use Rattle.base.specs.Link.{Link}
use Rattle.numbers.specs.Number.{Numeral, read_number}
use Rattle.lists.specs.List.{block_links}
use Rattle.rules.specs.Tables.{Tables, fresh, clear_notes}
use Rattle.rules.specs.Building.{pass, done}
use Rattle.rules.specs.Reading.{read_links, accepted}
use Rattle.state.specs.Layout.{words}
use Rattle.state.specs.Call.{bounds_refusal}
use Rattle.text.specs.Lines.{refusal_line}
use Rattle.lines.specs.Report.{report_lines}
use Rattle.parts.specs.Parts.{place_in}

-- What is lent: the room k, and how many words each table has.
pub record Lent : Type 0 where
  pub k : ℕ
  pub frags : ℕ
  pub helds : ℕ

-- 'with k = 4 and room for n up to 512'
abbrev pub room_for : (k most : ℕ) → Lent
room_for k most = record { k = k; frags = words * most; helds = k * most }

-- How far the passes over a file have come.
pub data Course : Type 0 where
  -- no pass was made
  unread : Course
  -- the list is to be told again: in Building, or to be read; n, the passes closed in Building, and the tables
  again : (reading : Bool) → (n passes : ℕ) → Tables → Course
  -- the lines of the report are printed
  reported : List ℕ → Course
  -- 'On a refusal it prints only `refused R at P`'
  refused_at : (number place : ℕ) → Course

abbrev pub printed : Course → List ℕ
printed unread = []
printed (again reading n passes t) = []
printed (reported lines) = lines
printed (refused_at number place) = refusal_line number place

-- The head of the file has m: the first time a forest of m fragments is started; from then on another m is not the list that the forest is built
-- for, and refused with 9.
unfoldable pub enters : Lent → ℕ → Course → Course
enters w m unread =
    pick (eqb (bounds_refusal m w.k w.frags w.helds) 0)
    (again false m 0 (fresh m))
    (refused_at (bounds_refusal m w.k w.frags w.helds) 0)
enters w m (again reading n passes t) = pick (eqb m n) (again reading n passes t) (refused_at 9 0)
enters w m (reported lines) = reported lines
enters w m (refused_at number place) = refused_at number place

-- A pass that told the links g is closed. In Building (B4 to B6): done, reading is opened, which clears the notes; else the list is told again.
unfoldable pub closes_building : (n passes : ℕ) → Tables → Course
closes_building n passes t = pick (done n t) (again true n (suc passes) (clear_notes n t)) (again false n (suc passes) t)

-- In Reading: the report, or refusal 9.
unfoldable pub closes_reading : (n passes : ℕ) → Tables → List Link → Course
closes_reading n passes t g = pick (accepted n t) (reported (report_lines n (length g) passes t)) (refused_at 9 0)

unfoldable pub closes : (k : ℕ) → (reading : Bool) → (n passes : ℕ) → Tables → List Link → Course
closes k true n passes t g = closes_reading n passes (read_links t g) g
closes k false n passes t g = closes_building n passes (pass n k t g)

-- 'P being a byte of the file for 4, 5, 7, 8 and 12, else 0': the links begin at byte `begins`.
unfoldable pub closes_or : (k begins : ℕ) → (reading : Bool) → (n passes : ℕ) → Tables → Answer (List Link) → Course
closes_or k begins reading n passes t (gives g) = closes k reading n passes t g
closes_or k begins reading n passes t (refuses number place) = refused_at number (place_in begins number place)

-- The links from byte `begins` to the end of the file are told.
unfoldable pub tells : Lent → (begins : ℕ) → List ℕ → Course → Course
tells w begins bytes unread = unread
tells w begins bytes (again reading n passes t) = closes_or w.k begins reading n passes t (block_links n 0 (drop begins bytes))
tells w begins bytes (reported lines) = reported lines
tells w begins bytes (refused_at number place) = refused_at number place

unfoldable pub headed_by : Lent → List ℕ → Course → Answer Numeral → Course
headed_by w bytes c (gives a) = tells w a.next bytes (enters w a.value c)
headed_by w bytes c (refuses number place) = refused_at number place

-- One pass more, over these bytes; after what was printed nothing more is.
unfoldable pub over_pass : Lent → Course → List ℕ → Course
over_pass w unread bytes = headed_by w bytes unread (read_number bytes 0)
over_pass w (again reading n passes t) bytes = headed_by w bytes (again reading n passes t) (read_number bytes 0)
over_pass w (reported lines) bytes = reported lines
over_pass w (refused_at number place) bytes = refused_at number place

unfoldable pub course_from : Lent → Course → List (List ℕ) → Course
course_from w c [] = c
course_from w c (bytes ∷ rest) = course_from w (over_pass w c bytes) rest

-- The whole of it: one list of bytes for each pass.
unfoldable pub course : Lent → List (List ℕ) → Course
course w passes = course_from w unread passes
