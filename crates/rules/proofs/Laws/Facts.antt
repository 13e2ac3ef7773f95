-- What a told list leaves in the tables, as the laws pass it on. The words of the theorems stand in Facts.antt and are passed on here.
-- Assumes nothing.
use Rattle.std.specs.Prelude.{ℕ, suc, ◌*◌, ◌<◌, ◌≤◌, ◌≡◌, Bool, ◌&&◌, ◌⊎◌, length, get_or, T}
use Rattle.rules.specs.Links.{Links, linked, tally, JoinedBy}
use Rattle.rules.specs.Search.{count}
use Rattle.rules.specs.Tables.{Tables, rank, note_of, mark_of, placed}
use Rattle.rules.specs.Building.{pieces, lost}
pub use Rattle.rules.specs.Forest.{Levels}
pub use Rattle.rules.specs.Facts.{Standing, Rested, Loose, Holding, Underway, Ready, Walked}

-- A marked piece is crowded: some of its members, two or more, have k for each less one held links among themselves.
pub record Crowded (n k : ℕ) (t : Tables) (m : ℕ) : Type 0 where
  pub crowd : ℕ → Bool
  pub inside : (v : ℕ) → T (crowd v) → (v < n) × JoinedBy (linked t.held) m v
  pub two : 2 ≤ count crowd n
  pub full : k * count crowd n ≤ suc (tally (λ e. crowd e.0 && crowd e.1) t.held)

-- What tables hold of a set of links: the notes and the held links that tell it, whatever is marked.
pub record Learnt (n k : ℕ) (E : Links) (t : Tables) : Type 0 where
  -- a note is of a placed fragment linked to an unplaced one
  pub note_of_lem : (u p : ℕ) → note_of t u ≡ suc p → (u < n) × (p < n) × Loose t u × T (placed t p) × T (E u p)
  -- and no other such fragment is deeper
  pub note_best : (u p : ℕ) → T (E u p) → Loose t u → T (placed t p) → (q : ℕ) × (note_of t u ≡ suc q) × (rank t p ≤ rank t q)
  pub holding : Holding n k t
  pub held_told : (u v : ℕ) → T (linked t.held u v) → T (E u v)
  -- a told link between unplaced fragments lies in one piece, and is held unless the piece is marked
  pub told_joined : (u v : ℕ) → T (E u v) → Loose t u → Loose t v → JoinedBy (linked t.held) u v
  pub told_held : (u v : ℕ) → T (E u v) → Loose t u → Loose t v → T (linked t.held u v) ⊎ T (lost n t (pieces n t.held) (get_or (pieces n t.held) u 0))

-- What the links of a set leave, told from a rested state t₀ in any order and with any repeats.
pub record Told (n k : ℕ) (E : Links) (t₀ t : Tables) : Type 0 where
  pub same_parent : t.parent ≡ t₀.parent
  pub same_level : t.level ≡ t₀.level
  pub same_crossed : t.crossed ≡ t₀.crossed
  pub long_note : length t.note ≡ n
  pub long_mark : length t.mark ≡ n
  pub learnt : Learnt n k E t
  pub crowded : (m : ℕ) → m < n → 0 < mark_of t m → Crowded n k t m
