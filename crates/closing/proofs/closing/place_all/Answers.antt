-- `closing::closing::place_all` meets its contract: after p turns the pieces with smallest member below p are placed.
-- Assumes nothing.
use Prim.Native.Nat.{◌<◌}
use mathlib.Core.Path.{◌≡◌, sym, ◌∙◌}
use native.Mathlib.Omega.{arith}
use Rattle.closing.specs.Laws.Placing.{placing_none, placing_wide, placing_due, placing_on, placing_past, placing_all}
use Rattle.closing.proofs.closing.place_all.Goals as goal
use Rattle.closing.proofs.closing.place_all.Goals.{then-is_due, else-is_due}

pub loop-p-init : goal.loop-p-init
loop-p-init c = λ h₀ W. placing_none _ _ _ _

pub is_due-requires : goal.is_due-requires
is_due-requires c =
    let q = c.requires in
    let l = c.loop-p in
    (placing_wide _ _ _ _ _ _ _ q.closable (l.invariant q.told q.closable), omega arith)

pub place_piece-requires : goal.place_piece-requires
place_piece-requires c =
    let q = c.requires in
    let l = c.loop-p in
    record { told = q.told; due = placing_due _ _ _ _ _ _ _ q.closable (l.invariant q.told q.closable) (omega arith) (sym c.if-is_due.true ∙ c.is_due.ensures) }

pub loop-p-preserved : goal.loop-p-preserved
loop-p-preserved c =
    let l = c.loop-p in
    let d = c.is_due.ensures in
    let k : l.p < c.args.n = omega arith in
    elim c.if-is_due.branch [
      | then-is_due w ↦ λ h₀ W.
          let P = l.invariant h₀ W in
          let e = sym w.if-is_due.true ∙ d in
          rw w.frag-is (placing_on _ _ _ _ _ _ _ W P _ e (w.place_piece.ensures h₀ (placing_due _ _ _ _ _ _ _ W P k e)))
      | else-is_due w ↦ λ h₀ W. rw w.frag-is (placing_past _ _ _ _ _ _ _ W (l.invariant h₀ W) (sym w.if-is_due.false ∙ d))
    ]

pub returns : goal.returns
returns c =
    let l = c.loop-p in
    let e : l.p ≡ c.args.n = omega arith in
    λ h₀ W. placing_all _ _ _ _ _ (rw e at (l.invariant h₀ W))
