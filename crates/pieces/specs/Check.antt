-- The quota of the pieces, as it is tested. Definitions only.
-- Assumes nothing.
use Rattle.std.specs.Prelude.{ℕ, ◌-◌, ◌*◌, ◌≤◌, ◌<◌, ◌≡◌, Bool, List, leb}
use Rattle.base.specs.Link.{Link}
use Rattle.rules.specs.Building.{pieces, member, size_of, held_in}
use Rattle.state.specs.Call.{room_most}
use Rattle.state.specs.Test.{asked}
use Rattle.pieces.specs.Pieces.{Pointing, Gathered}

-- The piece with smallest member p has no more links than its quota.
unfoldable pub piece_fits : ℕ → ℕ → List Link → ℕ → Bool
piece_fits n k held p = asked (member (pieces n held) p p) (leb (held_in (pieces n held) held p) (k * size_of n (pieces n held) p - 1))

-- The answer r is what a definition gives of the links, whatever links stand gathered.
abbrev pub Tells : (n : ℕ) (f : List ℕ) (r : Bool) → (List Link → Bool) → Type 0
Tells n f r test = (held : List Link) → Gathered n held f → r ≡ test held

-- The words of the piece with smallest member p can be read.
pub record Readable (n k p : ℕ) (f : List ℕ) : Type 0 where
  pub pointing : Pointing n f
  pub some_room : 0 < k
  pub room : k ≤ room_most
  pub in_range : p < n
