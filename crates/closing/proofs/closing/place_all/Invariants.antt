-- `closing::closing::place_all` meets its contract: after p turns the pieces with smallest member below p are placed.
use Prim.Native.Nat.{ℕ}
use mathlib.Core.List.{List}
use Rattle.closing.specs.Closing.{Closable}
use Rattle.closing.specs.Laws.Placing.{Placing}
use Rattle.closing.proofs.closing.place_all.Given as goal

abbrev pub invariant-loop-p : goal.invariant-loop-p
invariant-loop-p l = (h₀ : List ℕ) → Closable l.n l.count l.initial.frag h₀ l.held → Placing l.n l.count l.initial.frag h₀ l.p l.frag
