-- Start: 'Start (n, k) gives Building with nothing placed.' Definitions only.
-- Assumes nothing.
use Rattle.std.specs.Prelude.{ℕ, List, length, eqb}
use Rattle.base.specs.Pick.{pick}
use Rattle.base.specs.Answer.{gives, refuses}
use Rattle.rules.specs.Tables.{fresh}
use Rattle.state.specs.Layout.{begun, frag_of, held_of}
use Rattle.state.specs.Call.{Begun, bounds_refusal}
use Rattle.state.specs.declared.State.{State}
use Rattle.state.specs.declared.Stage.TheVariants.{Building}

-- 'The entry count becomes 0 at start'; 'The count of passes in the state equals the number of closes accepted since the start'
abbrev pub started : ℕ → ℕ → State
started n k = begun n k Building

unfoldable pub start_call : (n k : ℕ) → List ℕ → List ℕ → Begun
start_call n k f h =
    pick (eqb (bounds_refusal n k (length f) (length h)) 0)
    (record { answer = gives (started n k); frag = frag_of Building n (fresh n) f; held = held_of n k (fresh n) h })
    (record { answer = refuses (bounds_refusal n k (length f) (length h)) 0; frag = f; held = h })
