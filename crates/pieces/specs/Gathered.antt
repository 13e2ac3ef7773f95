-- What the first step of take and of close in Building leaves: the pieces of the held links, in scratch. Definitions only.
-- Assumes nothing.
use Rattle.std.specs.Prelude.{ℕ, suc, ◌-◌, false, List, get_or, eqb}
use Rattle.base.specs.Pick.{pick}
use Rattle.base.specs.Link.{Link}
use Rattle.rules.specs.Tables.{Tables}
use Rattle.rules.specs.Building.{pieces, member, size_of, held_in}
use Rattle.state.specs.Layout.{stored, begun, moved_on, held_links, tables_in}
use Rattle.state.specs.Test.{is_building}
use Rattle.state.specs.Call.{head_refusal}
use Rattle.state.specs.declared.State.{State}
use Rattle.state.specs.declared.Stage.TheVariants.{Building}
use Rattle.testing.specs.Laid.{laid_at}

-- The tables of n fragments of which so many links are held, in Building.
abbrev pub holds : ℕ → ℕ → State
holds n count = moved_on (begun n 0 Building) Building 0 0 count false

abbrev pub held_tables : ℕ → ℕ → List ℕ → List ℕ → Tables
held_tables n count f h = tables_in (holds n count) f h

-- Section 4: 0 at the smallest member of a piece, elsewhere one more than the smallest member.
unfoldable pub pointer_of : List ℕ → ℕ → ℕ
pointer_of l v = pick (member l v v) 0 (suc (get_or l v 0))

-- Section 5: one less than the size at the smallest member, elsewhere 0.
unfoldable pub size_at : ℕ → List ℕ → ℕ → ℕ
size_at n l v = pick (member l v v) (size_of n l v - 1) 0

-- Section 6: how many links are held at the smallest member, elsewhere 0.
unfoldable pub held_at : List ℕ → List Link → ℕ → ℕ
held_at l held v = pick (member l v v) (held_in l held v) 0

-- The three sections, between the words that stood before and behind them.
unfoldable pub laid : ℕ → List ℕ → List Link → List ℕ → List ℕ
laid n l held f = laid_at n stored (pointer_of l) (size_at n l) (held_at l held) f

-- The fragment table with the pieces that the held links make.
unfoldable pub with_pieces : ℕ → List Link → List ℕ → List ℕ
with_pieces n held f = laid n (pieces n held) held f

-- Where a refusal is due at the head the table is as it was.
unfoldable pub gathered_in : State → List ℕ → List ℕ → List ℕ
gathered_in s f h = pick (eqb (head_refusal is_building s f h) 0) (with_pieces s.n (held_links s.held h) f) f
