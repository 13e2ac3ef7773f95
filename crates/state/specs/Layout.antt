-- How the two lent tables hold the tables of the rules. Definitions only; docs/TABLES.md has the layout in words.
-- Assumes nothing.
use Rattle.std.specs.Prelude.{ℕ, ◌+◌, ◌-◌, ◌*◌, ◌/◌, ◌%◌, ◌<◌, min, max, ◌≡◌, Bool, false, ◌&&◌, List, [], ◌++◌, map, length, get_or, take, drop, replicate, leb, ltb}
use Rattle.base.specs.Pick.{pick}
use Rattle.base.specs.Link.{Link}
use Rattle.rules.specs.Search.{table}
use Rattle.rules.specs.Tables.{Tables}
use Rattle.rules.specs.Numbers.{turn, end, at_turn}
use Rattle.state.specs.Stages.{is_numbered}
use Rattle.state.specs.declared.State.{State}
use Rattle.state.specs.declared.Stage.{Stage}
use Rattle.state.specs.declared.Stage.TheVariants.{Built}

-- The state that start and adopt give: nothing counted, nothing held.
abbrev pub begun : ℕ → ℕ → Stage → State
begun n k stage = record { n = n; k = k; stage = stage; passes = 0; entries = 0; held = 0; crossed = false }

-- The state that a call goes on to.
abbrev pub moved_on : State → Stage → (passes entries held : ℕ) → Bool → State
moved_on s stage passes entries held crossed = record { n = s.n; k = s.k; stage = stage; passes = passes; entries = entries; held = held; crossed = crossed }

-- 'the fragment table of at least 16·n'
abbrev pub words : ℕ
words = 16

-- The sections that are stored in every stage: parent, level, note and mark.
abbrev pub stored : ℕ
stored = 4

-- Those that follow them while the forest is numbered: the turn of each fragment, where those below it end, and whose turn each is.
abbrev pub numbers : ℕ
numbers = 3

-- The sections that are stored in a stage. The others are scratch.
unfoldable pub stored_in : Stage → ℕ
stored_in stage = pick (is_numbered stage) (stored + numbers) stored

-- Section j of the fragment table: n words from word j·n on.
unfoldable pub section : ℕ → ℕ → List ℕ → List ℕ
section n j f = take n (drop (j * n) f)

abbrev pub turn_in : ℕ → List ℕ → ℕ → ℕ
turn_in n f v = get_or (section n 4 f) v 0

abbrev pub end_in : ℕ → List ℕ → ℕ → ℕ
end_in n f v = get_or (section n 5 f) v 0

abbrev pub whose_in : ℕ → List ℕ → ℕ → ℕ
whose_in n f i = get_or (section n 6 f) i 0

-- By these words b comes at a's turn or behind it, and before those below a end.
unfoldable pub above_in : ℕ → List ℕ → ℕ → ℕ → Bool
above_in n f a b = leb (turn_in n f a) (turn_in n f b) && ltb (turn_in n f b) (end_in n f a)

-- A held link in a word: the smaller end in the high part.
abbrev pub radix : ℕ
radix = 32768

unfoldable pub link_in : ℕ → Link
link_in w = (w / radix, w % radix)

unfoldable pub word_of : Link → ℕ
word_of (a, b) = a * radix + b

-- The word of the link between a and b, whichever is the smaller; 0 where an end is too great for a word.
unfoldable pub link_word : ℕ → ℕ → ℕ
link_word a b = pick (ltb a radix && ltb b radix) (word_of (min a b, max a b)) 0

-- The held link at place i of the held table, and the first `count` of them.
abbrev pub held_link : List ℕ → ℕ → Link
held_link h i = link_in (get_or h i 0)

abbrev pub held_links : ℕ → List ℕ → List Link
held_links count h = map link_in (take count h)

-- What a state and its two tables hold.
unfoldable pub tables_in : State → List ℕ → List ℕ → Tables
tables_in s f h = record {
  parent = section s.n 0 f;
  level = section s.n 1 f;
  note = section s.n 2 f;
  mark = section s.n 3 f;
  held = held_links s.held h;
  crossed = s.crossed;
}

-- What the fragment table alone holds: the tables of a state of n fragments with no held link and no false mark.
abbrev pub bare : ℕ → State
bare n = begun n 0 Built

abbrev pub forest_in : ℕ → List ℕ → Tables
forest_in n f = tables_in (bare n) f []

-- What a word says, in a number.
pub record Says (r x : ℕ) : Type 0 where
  pub says : r ≡ x
  pub small : r < 4294967296

-- The words of a table from one place to another cleared, as far as it goes.
unfoldable pub wiped : ℕ → ℕ → List ℕ → List ℕ
wiped from to l = take from l ++ (replicate (min to (length l) - from) 0 ++ drop (max from to) l)

-- The numbers of the forest t.
unfoldable pub numbers_of : ℕ → Tables → List ℕ
numbers_of n t = table (turn n t) n ++ (table (end n t) n ++ table (at_turn n t) n)

-- What is laid behind the sections of every stage: the numbers of the forest where it is numbered, and scratch, which is 0.
unfoldable pub behind : Stage → ℕ → Tables → List ℕ
behind stage n t = pick (is_numbered stage) (numbers_of n t) [] ++ replicate ((words - stored_in stage) * n) 0

-- The fragment table that holds the tables t in a stage, over the words that stood there: words past 16·n stay.
unfoldable pub frag_of : Stage → ℕ → Tables → List ℕ → List ℕ
frag_of stage n t f = t.parent ++ (t.level ++ (t.note ++ (t.mark ++ (behind stage n t ++ drop (words * n) f))))

-- The held table that holds the links of t in order of arrival: unused words are 0, words past k·n stay.
unfoldable pub held_of : ℕ → ℕ → Tables → List ℕ → List ℕ
held_of n k t h = map word_of t.held ++ (replicate (k * n - length t.held) 0 ++ drop (k * n) h)
