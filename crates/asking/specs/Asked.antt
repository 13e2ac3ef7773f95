-- The refusals that a question about a fragment tests first. Definitions only.
-- Assumes nothing.
use Rattle.std.specs.Prelude.{ℕ, Bool, not, List, leb, eqb}
use Rattle.base.specs.Pick.{pick}
use Rattle.state.specs.declared.State.{State}
use Rattle.testing.specs.Test.{head_but_links}

-- 'Order: 1, 2, 3, 6, 11, then .. a question's 4': the refusal due at the head of a question about v; 0 where none is.
unfoldable pub ask_refusal : (allowed : Bool) → State → List ℕ → List ℕ → (v : ℕ) → ℕ
ask_refusal allowed s f h v =
    pick (not (eqb (head_but_links allowed s f h) 0)) (head_but_links allowed s f h)
    (pick (leb s.n v) 4
    0)
