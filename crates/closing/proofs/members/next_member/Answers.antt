-- `closing::members::next_member` meets its contract: by the word of v in section 8.
-- Assumes nothing.
use mathlib.Core.Path.{sym, ◌∙◌}
use native.Mathlib.Omega.{arith}
use Rattle.closing.specs.Laws.Members.{follows_none, follows_next}
use Rattle.closing.proofs.members.next_member.Goals as goal

pub returns-then-next-eq0 : goal.returns-then-next-eq0
returns-then-next-eq0 c = follows_none _ _ _ c.requires.1 (omega arith) (sym c.wide-next.ensures.says ∙ c.if-next-eq0.true)

pub returns-else-next-eq0 : goal.returns-else-next-eq0
returns-else-next-eq0 c = follows_next _ _ _ c.requires.1 (omega arith) _ (sym c.wide-next.ensures.says ∙ omega (arith, c.if-next-eq0.false))
