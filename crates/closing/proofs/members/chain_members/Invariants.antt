-- `closing::members::chain_members` meets its contract: the fragments from v on are chained.
use Rattle.closing.specs.Laws.Members.{Chaining}
use Rattle.closing.proofs.members.chain_members.Given as goal

abbrev pub invariant-loop-v : goal.invariant-loop-v
invariant-loop-v l = Chaining l.n l.initial.frag l.v l.frag
