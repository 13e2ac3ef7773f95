-- `adopting::parents::inside` meets its contract: it tries every parent.
-- Assumes nothing.
use Prim.Native.Nat.{ℕ, ◌<◌, ◌≤◌}
use mathlib.Core.Bool.{Bool, true, false}
use mathlib.Core.List.{List}
use mathlib.Core.Path.{◌≡◌, sym}
use native.Mathlib.Omega.{arith}
use lib.ListN.{length, get_or, take}
use borrow.Author.Tests.{lt-ltb, le-ltb}
use Rattle.std.specs.Bool.{MatchBool}
use Rattle.std.specs.List.{AllWithin, HoldsAt}
use Rattle.std.proofs.Common.{rules, tests, length-take-le, get_or-take}
use Rattle.std.proofs.lemmas.Iterator.{cases_from_all, YieldsList-from_slice}
use Rattle.base.specs.Truth.{T_true, true_T}
use Rattle.rules.specs.Search.{every}
use Rattle.rules.proofs.Laws.Search.{every_intro}
use Rattle.state.proofs.Laws.Tests.{every_fails}
use Rattle.adopting.specs.Adopt.{below}
use Rattle.adopting.proofs.parents.inside.Goals as goal

told : (n : ℕ) (ps : List ℕ) → n ≤ length ps → (b : Bool)
    → MatchBool b (AllWithin (λ p. p < n) (take n ps) 0 (length (take n ps))) ((v : ℕ) × (v < length (take n ps)) × HoldsAt (λ p. n ≤ p) (take n ps) v) → b ≡ every (below n ps) n
told n ps l true h = sym (T_true (every (below n ps) n) (every_intro (below n ps) n (λ v k. true_T _ (lt-ltb (get_or ps v 0) n (omega (arith, h v 0 (omega arith) (omega (arith, length-take-le n ps l)), get_or-take n ps v 0 k))))))
told n ps l false h =
    let k : h.0 < n = omega (arith, length-take-le n ps l, h.1) in
    every_fails (below n ps) h.0 n k (le-ltb (get_or ps h.0 0) n (omega (arith, h.2 0, get_or-take n ps h.0 0 k)))

pub returns : goal.returns
returns c =
    let a = c.args in
    told a.n a.parents.now c.requires _ (cases_from_all _ _ _ (λ p. p < a.n) (λ p. a.n ≤ p) c.all.ensures.ran (YieldsList-from_slice (take a.n a.parents.now) c.iter.ensures.rest) (λ x q k. search (rules, tests)) (λ x q k. search (rules, tests)))
