-- Held words compared with one another, class by class, a batch of them noted at a time. Definitions only.
-- Assumes nothing.
use Rattle.std.specs.Prelude.{ℕ, ◌+◌, ◌*◌, ◌/◌, ◌%◌, ◌≤◌, ◌<◌, ◌≡◌, Bool, true, false, List, ◌≢◌, length, get_or}
use Rattle.state.specs.Layout.{words, stored, held_links, held_link}
use Rattle.state.specs.Test.{none_twice}
use Rattle.state.specs.Call.{fragments_most, room_most}
use Rattle.index.specs.Index.{flag, Indexed, In, Outside}
use Rattle.differing.specs.Laws.Scratch.{Blank}

-- As many slots as the largest tables have.
abbrev pub slots_most : ℕ
slots_most = 393216

-- The slots can be looked at.
pub record Open (at size : ℕ) (f : List ℕ) : Type 0 where
  pub some : 0 < size
  pub few_slots : size ≤ slots_most
  pub long : at + size ≤ length f

-- As many classes as the words are spread over.
abbrev pub classes_most : ℕ
classes_most = 4294967296

-- The class of a word.
unfoldable pub class_of : ℕ → ℕ → ℕ
class_of classes w = w * 2246822519 % 4294967296 * classes / 4294967296

-- No word of class c from `from` to `to` stands again behind itself and before `end`.
abbrev pub Differ : (c classes : ℕ) (h : List ℕ) (from to end : ℕ) → Type 0
Differ c classes h from to end = (p q : ℕ) → from ≤ p → p < to → p < q → q < end → class_of classes (get_or h p 0) ≡ c → get_or h p 0 ≢ get_or h q 0

-- Two of the first `count` words are the same.
pub record Twice (h : List ℕ) (count : ℕ) : Type 0 where
  pub one : ℕ
  pub two : ℕ
  pub less : one < two
  pub in_range : two < count
  pub same : get_or h one 0 ≡ get_or h two 0

-- Words can be noted, and no slot is filled.
pub record Batchable (at size from to classes : ℕ) (f h : List ℕ) : Type 0 where
  pub slots : Open at size f
  pub blank : (i : ℕ) → i < size → get_or f (at + i) 0 ≡ 0
  pub some : from < to
  pub there : to ≤ length h
  pub small : (i : ℕ) → i < to → (get_or h i 0 ≢ 0) × (get_or h i 0 < flag)
  pub few_classes : classes ≤ classes_most

-- The words of class c from `from` to `to` are noted, and no others. They differ.
pub record Batch (at size from to c classes : ℕ) (f h : List ℕ) : Type 0 where
  pub indexed : Indexed at size f
  pub stands : (p : ℕ) → from ≤ p → p < to → class_of classes (get_or h p 0) ≡ c → In at size f (get_or h p 0)
  pub stood : (i : ℕ) → i < size → get_or f (at + i) 0 ≢ 0 → (p : ℕ) × (from ≤ p) × (p < to) × (get_or f (at + i) 0 % flag ≡ get_or h p 0)
  pub differ : Differ c classes h from to to

-- The words up to r are noted; r is 0 where one was noted already.
pub record Batches (at size from to c classes : ℕ) (f h : List ℕ) (r : ℕ) (f' : List ℕ) : Type 0 where
  pub twice : r ≡ 0 → Twice h to
  pub noted : (r ≡ 0 → ⊥) → (from < r) × (r ≤ to) × Batch at size from r c classes f' h
  pub outside : Outside at size f f'

-- Whether a word is noted.
pub record Recalls (at size : ℕ) (f : List ℕ) (w : ℕ) (r : Bool) : Type 0 where
  pub yes : r ≡ true → In at size f w
  pub no : r ≡ false → In at size f w → ⊥

-- The words from `from` to `to` can be looked up.
pub record Missable (at size from to classes : ℕ) (f h : List ℕ) : Type 0 where
  pub slots : Open at size f
  pub indexed : Indexed at size f
  pub order : from ≤ to
  pub there : to ≤ length h
  pub few_classes : classes ≤ classes_most

-- Whether none of the words of class c from `from` to `to` is noted.
pub record Misses (at size from to c classes : ℕ) (f h : List ℕ) (r : Bool) : Type 0 where
  pub none : r ≡ true → (q : ℕ) → from ≤ q → q < to → class_of classes (get_or h q 0) ≡ c → In at size f (get_or h q 0) → ⊥
  pub one : r ≡ false → (q : ℕ) × (from ≤ q) × (q < to) × In at size f (get_or h q 0)

-- Each of the first `count` words is a link between two of n fragments, the smaller end first.
abbrev pub Sorted : (n count : ℕ) (h : List ℕ) → Type 0
Sorted n count h = (i : ℕ) → i < count → ((held_link h i).0 < (held_link h i).1) × ((held_link h i).1 < n)

pub record Comparable (n count : ℕ) (f h : List ℕ) : Type 0 where
  pub few_fragments : n ≤ fragments_most
  pub few : count ≤ room_most * n
  pub long : words * n ≤ length f
  pub blank : Blank n f
  pub there : count ≤ length h
  pub inside : Sorted n count h

-- Whether the words of class c differ. Scratch is 0 again where they do.
pub record Sifts (n count c classes : ℕ) (f h : List ℕ) (r : Bool) (f' : List ℕ) : Type 0 where
  pub twice : r ≡ false → Twice h count
  pub differ : r ≡ true → Differ c classes h 0 count count
  pub outside : Outside (stored * n) (12 * n) f f'
  pub back : r ≡ true → f' ≡ f

-- 'none twice'. Scratch is 0 again where the links differ.
pub record Compares (n count : ℕ) (f h : List ℕ) (r : Bool) (f' : List ℕ) : Type 0 where
  pub answer : r ≡ none_twice (held_links count h)
  pub outside : Outside (stored * n) (12 * n) f f'
  pub back : r ≡ true → f' ≡ f
