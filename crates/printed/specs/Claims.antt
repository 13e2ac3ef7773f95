-- What the theorems say of the files that the passes read, and of what is printed. Definitions only.
-- Assumes nothing.
use Rattle.std.specs.Prelude.{ℕ, ◌+◌, ◌*◌, ◌<◌, ◌≤◌, Bool, true, false, List, [], ◌∷◌, ◌++◌, ◌↔◌, ◌≡◌, T, length, take, drop}
use Rattle.base.specs.Answer.{gives}
use Rattle.base.specs.Link.{Link}
use Rattle.numbers.specs.Number.{Numeral, read_number}
use Rattle.lists.specs.List.{block_links}
use Rattle.rules.specs.Links.{Links, linked, Tells}
use Rattle.rules.specs.Removal.{Sole, Cut, Piece}
use Rattle.rules.specs.Forest.{DepthFirst}
use Rattle.rules.specs.Tables.{Tables, par}
use Rattle.rules.specs.Reading.{sole, cut, piece}
use Rattle.lines.specs.Report.{report_lines}
use Rattle.telling.specs.Tell.{Does, reads, rereads, reports, refuses_at, lacks, fails, Said}
use Rattle.printed.specs.Printed.{Course, unread, again, reported, refused_at}

-- The bytes are a list file of n fragments with the links g.
pub record ListFile (n : ℕ) (g : List Link) (bytes : List ℕ) : Type 0 where
  pub head : Numeral
  pub heads : read_number bytes 0 ≡ gives head
  pub has : head.value ≡ n
  pub links : block_links n 0 (drop head.next bytes) ≡ gives g

-- All the files are the same bytes.
abbrev pub Same : List ℕ → List (List ℕ) → Type 0
Same bytes [] = Unit
Same bytes (b ∷ rest) = (b ≡ bytes) × Same bytes rest

-- Each of the files tells the same set, in any order and with any repeats.
abbrev pub AllTell : ℕ → Links → List (List ℕ) → Type 0
AllTell n E [] = Unit
AllTell n E (bytes ∷ rest) = ((g : List Link) × ListFile n g bytes × Tells E g) × AllTell n E rest

-- The lines are a true report on the links g: those of a depth-first forest of them, 'The pieces, sole links and cut fragments reported are then those
-- that taking the link or fragment away would show.'
pub record TrueReport (n : ℕ) (g : List Link) (lines : List ℕ) : Type 0 where
  pub passes : ℕ
  pub tables : Tables
  pub as_lines : lines ≡ report_lines n (length g) passes tables
  pub forest : DepthFirst n (par tables) (linked g)
  pub piece_true : (v : ℕ) → v < n → Piece g v (piece n tables v)
  pub sole_true : (a b : ℕ) → a < n → b < n → T (sole n tables a b) ↔ Sole g a b
  pub cut_true : (v : ℕ) → v < n → T (cut n tables v) ↔ Cut g v
  -- so many bytes are room enough for it
  pub fits : length lines ≤ 64 + 56 * n

-- Of some files, one after another, the one read last is a list on which the lines are a true report; those after it are not read any more.
pub record LastRead (files : List (List ℕ)) (lines : List ℕ) : Type 0 where
  pub before : List (List ℕ)
  pub last : List ℕ
  pub after : List (List ℕ)
  pub all : files ≡ before ++ (last ∷ after)
  pub n : ℕ
  pub g : List Link
  pub listed : ListFile n g last
  pub true_of_it : TrueReport n g lines

-- Whether an answer says to stop, and how many bytes of the text are then printed.
abbrev pub stops : Does → Bool
stops (reads t) = false
stops (rereads t) = false
stops (reports s size) = true
stops (refuses_at number place size) = true
stops (lacks size) = true
stops fails = true

abbrev pub size_in : Does → ℕ
size_in (reads t) = 0
size_in (rereads t) = 0
size_in (reports s size) = size
size_in (refuses_at number place size) = size
size_in (lacks size) = size
size_in fails = 0

-- What an answer prints.
abbrev pub prints : Said → List ℕ
prints u = take (size_in u.does) u.text

-- Whether something was printed.
abbrev pub ended : Course → Bool
ended unread = false
ended (again reading n passes t) = false
ended (reported lines) = true
ended (refused_at number place) = true

-- Whether it is a report.
abbrev pub is_report : Does → Bool
is_report (reads t) = false
is_report (rereads t) = false
is_report (reports s size) = true
is_report (refuses_at number place size) = false
is_report (lacks size) = false
is_report fails = false
