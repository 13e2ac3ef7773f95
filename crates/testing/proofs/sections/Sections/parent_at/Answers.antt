-- `testing::sections::Sections::parent_at` meets its contract: the section of the parents has the parent.
-- Assumes nothing.
use mathlib.Core.Path.{subst}
use lib.ListN.{get_or}
use Rattle.rules.specs.Tables.{parent_of}
use Rattle.state.specs.Layout.{tables_in, Says}
use Rattle.testing.proofs.sections.Sections.parent_at.Goals as goal

pub returns : goal.returns
unfolding tables_in parent_of
returns c = subst (λ l. Says c.word.result (get_or l c.args.v 0)) c.args.self.parents c.word.ensures
