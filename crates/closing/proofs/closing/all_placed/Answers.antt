-- `closing::closing::all_placed` meets its contract: every fragment is placed where no word of the levels is 0.
-- Assumes nothing.
use Prim.Native.Nat.{ℕ, ◌+◌, ◌-◌, ◌*◌, ◌≤◌, ◌<◌}
use mathlib.Core.Bool.{Bool, true, false}
use mathlib.Core.List.{List}
use mathlib.Core.Path.{◌≡◌, refl, sym, ◌∙◌}
use native.Mathlib.Omega.{arith}
use Rattle.std.specs.Prelude.{◌↔◌, ◌≢◌, IsTrue, EachIndex, slice_index, slice_range, length, get_or, drop}
use Rattle.std.proofs.Common.{rules}
use Rattle.std.proofs.iter.runs.Made.{chains}
use Rattle.std.proofs.lemmas.Bool.{false_from_ne_true}
use Rattle.std.proofs.lemmas.List.{get_or-take, get_or-drop, length-take, length-drop}
use Rattle.rules.specs.Building.{done}
use Rattle.state.specs.Layout.{forest_in}
use Rattle.closing.specs.Laws.Ending.{not_done, all_done}
use Rattle.closing.proofs.closing.all_placed.Goals as goal

-- No word of the levels is 0.
abbrev Levels : ℕ → List ℕ → Type 0
Levels n f = EachIndex (slice_range f n (2 * n)) (λ k. slice_index (slice_range f n (2 * n)) k ≢ 0)

level : (n : ℕ) (f : List ℕ) (k : ℕ) → k < n → slice_index (slice_range f n (2 * n)) k ≡ get_or f (n + k) 0
level n f k l = get_or-take (2 * n - n) (drop n f) k 0 (omega arith) ∙ get_or-drop n f k 0

long : (n : ℕ) (f : List ℕ) → 2 * n ≤ length f → length (slice_range f n (2 * n)) ≡ n
long n f l = simp (length-take, length-drop) (omega arith)

is_done : (n : ℕ) (f : List ℕ) → 2 * n ≤ length f → (r : Bool) → IsTrue r ↔ Levels n f → r ≡ done n (forest_in n f)
is_done n f l true e = all_done n f (λ v g z. e.0 refl v (omega (arith, long n f l)) (level n f v g ∙ z))
is_done n f l false e =
    sym (false_from_ne_true _ (λ q.
    let none : Levels n f = λ k g z. let s : k < n = omega (arith, long n f l) in let d = not_done n f k s (sym (level n f k s) ∙ z) in cc in
    cc (e.1 none)))

pub returns : goal.returns
returns c =
    let a = c.args in
    let h : IsTrue c.all.result ↔ Levels a.n a.frag.now = search (rules, chains) in
    is_done a.n a.frag.now (omega arith) c.all.result h
