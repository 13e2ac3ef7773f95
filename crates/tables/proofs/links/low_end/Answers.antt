-- `tables::links::low_end` meets its contract: there, or past the table.
-- Assumes nothing.
use mathlib.Core.Path.{refl, sym, ap}
use native.Mathlib.Omega.{arith}
use Rattle.base.specs.Link.{Link}
use Rattle.state.specs.Layout.{link_in}
use Rattle.tables.specs.Laws.Sections.{ends_past}
use Rattle.tables.proofs.links.low_end.Goals as goal

pub returns-then-held-i : goal.returns-then-held-i
returns-then-held-i c = let a = c.args in sym (ap (λ (l : Link). l.0) (ends_past a.held.now a.i (omega arith)))

pub overflow_cast-result : goal.overflow_cast-result
overflow_cast-result c = omega (arith, c.shared_slice_known-1.given c.args.i)

pub returns : goal.returns
unfolding link_in
returns c = refl
