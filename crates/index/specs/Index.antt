-- An index of words in a part of a table: `size` slots from word `at` on, 0 where a slot is empty or past the table. Definitions only.
-- Assumes nothing.
use Rattle.std.specs.Prelude.{ℕ, ◌+◌, ◌-◌, ◌*◌, ◌/◌, ◌%◌, ◌≤◌, ◌<◌, ◌≡◌, List, ◌≢◌, length, get_or, take, drop}

-- What a word noted may have added to it. The words themselves are below it, and not 0.
abbrev pub flag : ℕ
flag = 1073741824

-- The home slot of a word. The last eighth of the slots is room to run on.
unfoldable pub home_of : ℕ → ℕ → ℕ
home_of size w = w * 2654435769 % 4294967296 * (size - size / 8) / 4294967296

-- From the home of w to slot i every slot holds another word.
pub record Way (at size : ℕ) (f : List ℕ) (w i : ℕ) : Type 0 where
  pub home : home_of size w ≤ i
  pub filled : (j : ℕ) → home_of size w ≤ j → j < i → get_or f (at + j) 0 ≢ 0
  pub other : (j : ℕ) → home_of size w ≤ j → j < i → get_or f (at + j) 0 % flag ≢ w

-- The slot where w stands, or where its way ends: the first empty slot, or `size`.
pub record Place (at size : ℕ) (f : List ℕ) (w i : ℕ) : Type 0 where
  pub in_range : i ≤ size
  pub way : Way at size f w i
  pub ends : i < size → get_or f (at + i) 0 ≢ 0 → get_or f (at + i) 0 % flag ≡ w

-- Each word noted stands at the end of a way.
pub record Indexed (at size : ℕ) (f : List ℕ) : Type 0 where
  pub long : at + size ≤ length f
  pub way : (i : ℕ) → i < size → get_or f (at + i) 0 ≢ 0 → Way at size f (get_or f (at + i) 0 % flag) i

-- The word w is noted.
pub record In (at size : ℕ) (f : List ℕ) (w : ℕ) : Type 0 where
  pub slot : ℕ
  pub in_range : slot < size
  pub some : get_or f (at + slot) 0 ≢ 0
  pub is : get_or f (at + slot) 0 % flag ≡ w

-- Nothing changes but the slots.
pub record Outside (at size : ℕ) (f f' : List ℕ) : Type 0 where
  pub same_long : length f' ≡ length f
  pub before : take at f' ≡ take at f
  pub past : drop (at + size) f' ≡ drop (at + size) f
