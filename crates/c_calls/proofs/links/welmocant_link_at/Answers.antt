-- `c_calls::links::welmocant_link_at` meets its contract.
-- Assumes nothing.
use Rattle.c_calls.specs.Laws.Lists.{link_ends, link_refused}
use Rattle.c_calls.proofs.links.welmocant_link_at.Goals as goal

pub returns-in-Ok : goal.returns-in-Ok
returns-in-Ok c = link_ends _ _ _ _ _ c.link_at.ensures _ _ _ c.in-Ok.is

pub returns-in-Err : goal.returns-in-Err
returns-in-Err c = link_refused _ _ _ _ _ c.link_at.ensures _ c.in-Err.is
