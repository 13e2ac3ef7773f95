-- `lists::link_at` meets its contract: what the reading and the test of a link promise, put together.
-- Assumes nothing.
use mathlib.Core.Path.{sym, ap, ◌∙◌}
use Rattle.numbers.proofs.Unique.{refused_is}
use Rattle.lists.specs.List.{placed}
use Rattle.lists.specs.Answers.{told_ends}
use Rattle.lists.specs.Laws.Scan.{alone_past, alone_read}
use Rattle.lists.proofs.link_at.Goals as goal

pub returns-then-bad_size : goal.returns-then-bad_size
returns-then-bad_size c = refused_is _ _ _ c.at.ensures ∙ alone_past _ _ _ _ (sym c.bad_size.ensures ∙ c.if-bad_size.true)

pub returns-in-Ok : goal.returns-in-Ok
unfolding placed
returns-in-Ok c =
    sym (ap (λ r. placed c.args.at (told_ends r)) c.in-Ok.is) ∙ c.whole_link.ensures ∙ alone_read _ _ _ _ (sym c.bad_size.ensures ∙ c.if-bad_size.false)

pub returns-in-Err : goal.returns-in-Err
unfolding placed
returns-in-Err c =
    refused_is _ _ _ c.at-in-Err.ensures ∙ sym (ap (λ r. placed c.args.at (told_ends r)) c.in-Err.is) ∙ c.whole_link.ensures ∙ alone_read _ _ _ _ (sym c.bad_size.ensures ∙ c.if-bad_size.false)
