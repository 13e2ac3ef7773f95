-- How an array of words holds a state: n, k, stage, passes, entries, held links, false mark. Definitions only; docs/LINKING.md has it in words.
-- Assumes nothing.
use Rattle.std.specs.Prelude.{ℕ, suc, ◌≤◌, ◌≡◌, Bool, true, false, List, [], ◌∷◌, ◌++◌, length, get_or, drop, ltb, leb, eqb}
use Rattle.base.specs.Pick.{pick}
use Rattle.state.specs.Test.{entries_most}
use Rattle.state.specs.declared.State.{State}
use Rattle.state.specs.declared.Stage.{Stage}
use Rattle.state.specs.declared.Stage.TheVariants.{Building, Built, Reading, Read}

-- Words of a state.
abbrev pub state_size : ℕ
state_size = 7

-- The stage that a word stands for. A word above 3 stands for none, and is read as `other`, a stage that the call is not allowed in: refusal 6, in its order.
unfoldable pub stage_in : Stage → ℕ → Stage
stage_in other x =
    pick (eqb x 0) Building
    (pick (eqb x 1) Built
    (pick (eqb x 2) Reading
    (pick (eqb x 3) Read
    other)))

-- A false mark above 1 stands for no state, and is read as an entry count that no state has: refusal 11, in its order.
unfoldable pub entries_in : (entries mark : ℕ) → ℕ
entries_in entries mark = pick (ltb 1 mark) (suc entries_most) entries

-- The state in an array of words.
unfoldable pub state_in : Stage → List ℕ → State
state_in other w = record {
  n = get_or w 0 0;
  k = get_or w 1 0;
  stage = stage_in other (get_or w 2 0);
  passes = get_or w 3 0;
  entries = entries_in (get_or w 4 0) (get_or w 6 0);
  held = get_or w 5 0;
  crossed = eqb (get_or w 6 0) 1;
}

abbrev pub stage_word : Stage → ℕ
stage_word Building = 0
stage_word Built = 1
stage_word Reading = 2
stage_word Read = 3

abbrev pub mark_word : Bool → ℕ
mark_word true = 1
mark_word false = 0

abbrev pub word_most : ℕ
word_most = 4294967295

-- A number in a word: the greatest word where it is more than a word holds. The numbers of a state are far below that.
unfoldable pub word_for : ℕ → ℕ
word_for x = pick (leb x word_most) x word_most

-- The words of a state,
abbrev pub state_list : State → List ℕ
state_list s = word_for s.n ∷ word_for s.k ∷ stage_word s.stage ∷ word_for s.passes ∷ word_for s.entries ∷ word_for s.held ∷ mark_word s.crossed ∷ []

-- over the words that stood there: words past the seventh stay, and an array too short stays as it is.
unfoldable pub state_words : State → List ℕ → List ℕ
state_words s w = pick (ltb (length w) state_size) w (state_list s ++ drop state_size w)

-- The words w hold the state s: there are enough, and it is read in them whatever stage a bad stage word is read as.
pub record Holds (w : List ℕ) (s : State) : Type 0 where
  pub long : state_size ≤ length w
  pub reads : (other : Stage) → state_in other w ≡ s

-- No number of a state is more than a word holds.
pub record Fits (s : State) : Type 0 where
  pub n_fits : s.n ≤ word_most
  pub k_fits : s.k ≤ word_most
  pub passes_fit : s.passes ≤ word_most
  pub entries_fit : s.entries ≤ word_most
  pub held_fits_lem : s.held ≤ word_most
