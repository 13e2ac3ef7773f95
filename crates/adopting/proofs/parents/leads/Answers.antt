-- `adopting::parents::leads` meets its contract: u is where the steps so far from v lead.
-- Assumes nothing.
use mathlib.Core.Logic.{inl, inr}
use mathlib.Core.Path.{sym}
use native.Mathlib.Omega.{arith}
use Rattle.rules.proofs.Laws.Up.{up_zero}
use Rattle.adopting.specs.Laws.Adopt.{way_more, way_root, way_before, way_ends}
use Rattle.adopting.proofs.parents.leads.Goals as goal

pub loop-init : goal.loop-init
loop-init c = (omega arith, sym (up_zero _ _))

pub returns-then-p-u : goal.returns-then-p-u
returns-then-p-u c =
    let l = c.loop in
    elim c.then-p-u.either [
      | inl e ↦ way_root _ _ _ _ _ l.invariant.1 _ c.wide-p.ensures.says e
      | inr h ↦ way_before _ _ _ _ _ l.invariant.1 _ c.wide-p.ensures.says h.1
    ]

pub loop-preserved : goal.loop-preserved
loop-preserved c =
    let l = c.loop in (omega (arith, c.requires.0.inside l.u l.invariant.0), way_more c.args.n c.args.parents.now c.args.v l.u l.counter l.invariant.1 _ c.wide-p.ensures.says)

pub returns : goal.returns
returns c = let l = c.loop in way_ends _ _ _ _ _ l.invariant.1 _ c.wide.ensures.says (omega arith)
