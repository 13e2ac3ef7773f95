-- Links noted in scratch while a block is told, each with whether it is held. Definitions only.
-- Assumes nothing.
use Rattle.std.specs.Prelude.{ℕ, ◌+◌, ◌-◌, ◌*◌, ◌%◌, ◌≤◌, ◌<◌, ◌≡◌, Bool, List, [], ◌∷◌, ◌++◌, ◌≢◌, length, get_or, take, drop, T, leb}
use Rattle.base.specs.Link.{Link}
use Rattle.rules.specs.Links.{linked}
use Rattle.state.specs.Layout.{words, link_in, held_links, held_link}
use Rattle.state.specs.Call.{fragments_most}
use Rattle.index.specs.Index.{flag, Place, Indexed, In}
use Rattle.differing.specs.Batches.{Sorted}

-- The ends of a link.
pub record Ends (n a b : ℕ) : Type 0 where
  pub first : a < n
  pub second : b < n
  pub differ : a ≢ b

-- The word in slot i of sections 7 to 15, and the link noted there.
abbrev pub slot_at : ℕ → List ℕ → ℕ → ℕ
slot_at n f i = get_or f (7 * n + i) 0

abbrev pub link_at : ℕ → List ℕ → ℕ → Link
link_at n f i = link_in (slot_at n f i % flag)

-- The word behind the slots: 0 where not every held link need be noted.
abbrev pub whole_at : ℕ → List ℕ → ℕ
whole_at n f = slot_at n f (9 * n - 1)

-- Every held link is noted.
abbrev pub Whole : (n : ℕ) (held : List Link) (f : List ℕ) → Type 0
Whole n held f = (w : ℕ) → (link_in w).0 < (link_in w).1 → T (linked held (link_in w).0 (link_in w).1) → In (7 * n) (9 * n - 1) f w

-- Sections 7 to 15 note links: of each link noted they tell whether it is held.
pub record Noted (n : ℕ) (held : List Link) (f : List ℕ) : Type 0 where
  pub indexed : Indexed (7 * n) (9 * n - 1) f
  pub sorted : (i : ℕ) → i < 9 * n - 1 → slot_at n f i ≢ 0 → (link_at n f i).0 < (link_at n f i).1
  pub truth : (i : ℕ) → i < 9 * n - 1 → slot_at n f i ≢ 0 → leb flag (slot_at n f i) ≡ linked held (link_at n f i).0 (link_at n f i).1
  pub whole : 0 < n → whole_at n f ≢ 0 → Whole n held f

-- Nothing changes but the sections 7 to 15.
pub record Apart (n : ℕ) (f f' : List ℕ) : Type 0 where
  pub same_long : length f' ≡ length f
  pub before : take (7 * n) f' ≡ take (7 * n) f
  pub past : drop (words * n) f' ≡ drop (words * n) f

-- Whether the link between a and b is held may be asked.
pub record Askable (n count a b : ℕ) (f h : List ℕ) : Type 0 where
  pub some : 0 < n
  pub few_fragments : n ≤ fragments_most
  pub long : words * n ≤ length f
  pub there : count ≤ length h
  pub ends : Ends n a b
  pub inside : (i : ℕ) → i < count → ((held_link h i).0 < (held_link h i).1) × ((held_link h i).1 < n)
  pub noted : Noted n (held_links count h) f

pub record Answers (n count a b : ℕ) (f h : List ℕ) (r : Bool) (f' : List ℕ) : Type 0 where
  pub held : r ≡ linked (held_links count h) a b
  pub noted : Noted n (held_links count h) f'
  pub apart : Apart n f f'

-- One more link is held, whatever links were.
abbrev pub Flags : (n : ℕ) (l : Link) (f f' : List ℕ) → Type 0
Flags n l f f' = ((held : List Link) → Noted n held f → Noted n (held ++ (l ∷ [])) f') × Apart n f f'

-- The link from a to b may be told held.
pub record Learnable (n a b : ℕ) (f : List ℕ) : Type 0 where
  pub some : 0 < n
  pub few_fragments : n ≤ fragments_most
  pub long : words * n ≤ length f
  pub ends : Ends n a b
  pub held : List Link
  pub noted : Noted n held f

-- The same of a link in a word.
pub record Flaggable (n w : ℕ) (f : List ℕ) : Type 0 where
  pub some : 0 < n
  pub few_fragments : n ≤ fragments_most
  pub long : words * n ≤ length f
  pub sorted : (link_in w).0 < (link_in w).1
  pub small : w < flag
  pub held : List Link
  pub noted : Noted n held f

-- The same where it is not noted, and its way ends in the empty slot i.
pub record Addable (n w i : ℕ) (f : List ℕ) : Type 0 where
  pub flaggable : Flaggable n w f
  pub place : Place (7 * n) (9 * n - 1) f w i
  pub in_range : i < 9 * n - 1
  pub empty : slot_at n f i ≡ 0

-- The word of a link as it stands, 0 where it is not noted: where it has the flag the link is held, whatever links are.
pub record Stands (n w : ℕ) (f : List ℕ) (r : ℕ) : Type 0 where
  pub tells : (held : List Link) → Noted n held f → r ≢ 0 → leb flag r ≡ linked held (link_in w).0 (link_in w).1
  pub none : r ≡ 0 → In (7 * n) (9 * n - 1) f w → ⊥

-- Links may be noted, none of them held.
pub record Fresh (n : ℕ) (f : List ℕ) : Type 0 where
  pub some : 0 < n
  pub few_fragments : n ≤ fragments_most
  pub long : words * n ≤ length f
  pub noted : Noted n [] f

-- Links may be noted anew.
pub record Anew (n count : ℕ) (f h : List ℕ) : Type 0 where
  pub some : 0 < n
  pub few_fragments : n ≤ fragments_most
  pub long : words * n ≤ length f
  pub there : count ≤ length h
  pub inside : Sorted n count h

-- The held links may be told to the links noted.
pub record Matching (n count : ℕ) (f h : List ℕ) : Type 0 where
  pub fresh : Fresh n f
  pub there : count ≤ length h
  pub inside : Sorted n count h

-- Nothing is noted yet.
pub record Unnoted (n count : ℕ) (f h : List ℕ) : Type 0 where
  pub few_fragments : n ≤ fragments_most
  pub long : words * n ≤ length f
  pub empty : (i : ℕ) → 7 * n ≤ i → i < words * n → get_or f i 0 ≡ 0
  pub there : count ≤ length h
  pub inside : Sorted n count h
