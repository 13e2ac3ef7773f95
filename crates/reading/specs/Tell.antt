-- What the private functions of a take ask for and leave in the fragment table. Definitions only.
-- Assumes nothing.
use Rattle.std.specs.Prelude.{ℕ, ◌*◌, ◌≡◌, Bool, List, [], length, take, drop}
use Rattle.base.specs.Answer.{Answer, gives, refuses}
use Rattle.base.specs.Link.{Link}
use Rattle.rules.specs.Tables.{Tables}
use Rattle.rules.specs.Reading.{read_links}
use Rattle.lists.specs.List.{block_links}
use Rattle.state.specs.Layout.{moved_on, bare, stored, tables_in}
use Rattle.state.specs.declared.State.{State}
use Rattle.state.specs.declared.Stage.TheVariants.{Built}

-- What the fragment table holds in a pass that is false or not.
abbrev pub passing : ℕ → Bool → State
passing n crossed = moved_on (bare n) Built 0 0 0 crossed

abbrev pub crossed_in : ℕ → Bool → List ℕ → Tables
crossed_in n crossed f = tables_in (passing n crossed) f []

-- Everything but notes and marks is kept.
pub record Kept (n : ℕ) (f₀ f : List ℕ) : Type 0 where
  pub front : take (2 * n) f ≡ take (2 * n) f₀
  pub rest : drop (stored * n) f ≡ drop (stored * n) f₀
  pub long : length f ≡ length f₀

-- A change of the tables, whether the pass is false or not.
pub record Leaves (n : ℕ) (f₀ f : List ℕ) (change : Tables → Tables) : Type 0 where
  pub kept : Kept n f₀ f
  pub tables : (crossed : Bool) → crossed_in n crossed f ≡ change (crossed_in n crossed f₀)

-- Some links are read.
pub record Reads (n : ℕ) (crossed₀ : Bool) (f₀ : List ℕ) (crossed : Bool) (f : List ℕ) (links : List Link) : Type 0 where
  pub kept : Kept n f₀ f
  pub tables : crossed_in n crossed f ≡ read_links (crossed_in n crossed₀ f₀) links

-- A block that was scanned.
pub record Given (n entries : ℕ) (block : List ℕ) : Type 0 where
  pub links : List Link
  pub are : block_links n entries block ≡ gives links

-- The links that an answer gives.
unfoldable pub links_of : Answer (List Link) → List Link
links_of (gives links) = links
links_of (refuses number place) = []
