-- `closing::members::chain_members` meets its contract: the fragments from v on are chained.
-- Assumes nothing.
use mathlib.Core.Path.{◌≡◌}
use native.Mathlib.Omega.{arith}
use lib.ListN.{length-set}
use Rattle.closing.specs.Laws.Members.{chaining_none, chaining_turn, chaining_all, label_small}
use Rattle.closing.proofs.members.chain_members.Goals as goal

pub loop-v-init : goal.loop-v-init
loop-v-init c = chaining_none _ _ c.requires

pub bounds-frag-n-in-loop-v : goal.bounds-frag-n-in-loop-v
bounds-frag-n-in-loop-v c =
    let l = c.loop-v in
    omega (arith, label_small _ _ _ _ c.requires l.invariant (omega arith) (omega arith) _ c.wide-p.ensures.says, l.invariant.same_long)

pub bounds-frag-n-in-loop-v-3 : goal.bounds-frag-n-in-loop-v-3
bounds-frag-n-in-loop-v-3 c =
    let l = c.loop-v in
    simp length-set (omega (arith, label_small _ _ _ _ c.requires l.invariant (omega arith) (omega arith) _ c.wide-p.ensures.says, l.invariant.same_long))

pub loop-v-preserved : goal.loop-v-preserved
loop-v-preserved c =
    let l = c.loop-v in
    chaining_turn _ _ _ _ c.requires l.invariant (omega arith) (omega arith) _ c.wide-p.ensures.says

pub returns : goal.returns
returns c =
    let l = c.loop-v in
    let e : l.v ≡ 0 = omega arith in
    chaining_all _ _ _ (rw e at l.invariant)
