-- What the private functions of the list writer answer, ask for and leave.
-- Assumes nothing.
use Rattle.std.specs.Prelude.{List, [], ◌∷◌, ◌++◌, ◌≡◌, ℕ, ◌+◌, ◌≤◌, length, get_or}
use Rattle.base.specs.Answer.{Answer, gives, refuses}
use Rattle.numbers.specs.Number.{value_most, written_number, put}
use Rattle.lists.specs.List.{and_then, sized}
use Rattle.writing.specs.Write.{word_links, written_list}

-- What was given, or else another number.
abbrev pub answer_or : Answer ℕ → ℕ → ℕ
answer_or (gives a) other = a
answer_or (refuses number place) other = other

-- How many bytes the list takes, refused as the list writer refuses its words.
unfoldable pub list_size : ℕ → List ℕ → Answer ℕ
list_size n words = and_then (sized n (word_links n words)) λ ls. gives (length (written_list n ls))

-- The bytes of words one after the other.
unfoldable pub written_words : List ℕ → List ℕ
written_words [] = []
written_words (w ∷ ws) = written_number w ++ written_words ws

-- The number has a form, and the buffer room for it.
pub record Fitting (value at long : ℕ) : Type 0 where
  pub most : value ≤ value_most
  pub room : at + length (written_number value) ≤ long

pub record Stored (value at : ℕ) (buffer : List ℕ) (r : ℕ) (after : List ℕ) : Type 0 where
  pub end : r ≡ at + length (written_number value)
  pub bytes : after ≡ put buffer at (written_number value)

pub record Room (n : ℕ) (words buffer : List ℕ) : Type 0 where
  pub first : n ≤ value_most
  pub most : (i : ℕ) → get_or words i 0 ≤ value_most
  pub room : length (written_number n ++ written_words words) ≤ length buffer
