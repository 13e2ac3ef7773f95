-- The whole course of a building: passes told in blocks, then the reading pass. Definitions only.
-- Assumes nothing.
use Rattle.std.specs.Prelude.{ℕ, ◌+◌, ◌≡◌, List, [], ◌∷◌, ◌++◌, map, length}
use Rattle.base.specs.Answer.{gives}
use Rattle.base.specs.Link.{Link}
use Rattle.lists.specs.List.{block_links}
use Rattle.rules.specs.Links.{Links, Tells}
use Rattle.demands.specs.Run.{Call, take, close, open_reading}

-- Blocks that, taken one after another where e entries came before, are accepted and add up to a list of links of n fragments.
pub data Adds (n : ℕ) : ℕ → List (List ℕ) → List Link → Type 0 where
  none : {e : ℕ} → Adds n e [] []
  more : {e : ℕ} {block : List ℕ} {blocks : List (List ℕ)} {g h : List Link} → block_links n e block ≡ gives g → Adds n (e + length g) blocks h → Adds n e (block ∷ blocks) (g ++ h)

-- The blocks of one pass tell the set E, in any order and with any repeats, cut anywhere between links.
abbrev pub PassTells : ℕ → Links → List (List ℕ) → Type 0
PassTells n E blocks = (g : List Link) × Adds n 0 blocks g × Tells E g

abbrev pub AllTell : ℕ → Links → List (List (List ℕ)) → Type 0
AllTell n E [] = Unit
AllTell n E (blocks ∷ passes) = PassTells n E blocks × AllTell n E passes

-- The calls: a pass takes its blocks and is closed; building is passes one after another; then the reading pass.
unfoldable pub pass_calls : List (List ℕ) → List Call
pass_calls blocks = map take blocks ++ (close ∷ [])

unfoldable pub build_calls : List (List (List ℕ)) → List Call
build_calls [] = []
build_calls (blocks ∷ passes) = pass_calls blocks ++ build_calls passes

unfoldable pub read_calls : List (List ℕ) → List Call
read_calls blocks = open_reading ∷ pass_calls blocks
