-- Adopt: 'Adopt (n, k, a parent table of at least n words, of which the first n are read) gives Built.' Definitions only.
-- Assumes nothing.
use Rattle.std.specs.Prelude.{ℕ, not, List, length, ltb, eqb}
use Rattle.base.specs.Pick.{pick}
use Rattle.base.specs.Answer.{gives, refuses}
use Rattle.rules.specs.Adopting.{adoptable, adopted}
use Rattle.state.specs.Layout.{begun, frag_of, held_of}
use Rattle.state.specs.Call.{Begun, bounds_refusal}
use Rattle.state.specs.declared.State.{State}
use Rattle.state.specs.declared.Stage.TheVariants.{Built}

-- 'after adopt it is 0': the count of passes; 'The entry count becomes 0 at .. adopt'
abbrev pub adopted_state : ℕ → ℕ → State
adopted_state n k = begun n k Built

-- Which of the refusals 1, 2, 3 and 10 is due; 0 where none is.
unfoldable pub adopt_refusal : (n k : ℕ) → (ps : List ℕ) → (frags helds : ℕ) → ℕ
adopt_refusal n k ps frags helds =
    pick (not (eqb (bounds_refusal n k frags helds) 0)) (bounds_refusal n k frags helds)
    (pick (ltb (length ps) n) 3
    (pick (not (adoptable n ps)) 10
    0))

unfoldable pub adopt_call : (n k : ℕ) → List ℕ → List ℕ → List ℕ → Begun
adopt_call n k ps f h =
    pick (eqb (adopt_refusal n k ps (length f) (length h)) 0)
    (record { answer = gives (adopted_state n k); frag = frag_of Built n (adopted n ps) f; held = held_of n k (adopted n ps) h })
    (record { answer = refuses (adopt_refusal n k ps (length f) (length h)) 0; frag = f; held = h })
