-- Scratch that is 0.
-- Assumes nothing.
use Rattle.std.specs.Prelude.{ℕ, ◌-◌, ◌*◌, ◌≤◌, ◌<◌, ◌≡◌, List, T, length, get_or, take, drop}
use Rattle.std.proofs.Common.{arith, length-take, length-drop}
use Rattle.state.specs.Layout.{words, stored}
use Rattle.state.specs.Test.{all_zero}
use Rattle.state.proofs.Laws.Lists.{all_zeros, zero_at}

-- All scratch is 0.
abbrev pub Blank : ℕ → List ℕ → Type 0
Blank n f = T (all_zero (take ((words - stored) * n) (drop (stored * n) f)))

pub blank_at : (n : ℕ) (f : List ℕ) → words * n ≤ length f → Blank n f → (i : ℕ) → stored * n ≤ i → i < words * n → get_or f i 0 ≡ 0
blank_at n f l z =
    let m = (words - stored) * n in
    let e = all_zeros (take m (drop (stored * n) f)) m (simp (length-take, length-drop) (omega arith)) z in
    λ i h g. zero_at (stored * n) m f e i h (omega arith)
