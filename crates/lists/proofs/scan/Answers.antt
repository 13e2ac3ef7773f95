-- `lists::scan` meets its contract: n refused, or the scan from byte 0.
-- Assumes nothing.
use mathlib.Core.Path.{sym, ◌∙◌}
use native.Mathlib.Omega.{arith}
use Rattle.numbers.proofs.Unique.{refused_is}
use Rattle.lists.specs.Laws.Scan.{end_bad, scan_past, scan_whole}
use Rattle.lists.proofs.scan.Goals as goal

pub returns-then-bad_size : goal.returns-then-bad_size
returns-then-bad_size c = refused_is _ _ _ c.from.ensures ∙ end_bad _ _ 0 (λ e. omega arith) ∙ scan_past _ _ _ (sym c.bad_size.ensures ∙ c.if-bad_size.true)

pub returns : goal.returns
returns c = c.scan_from.ensures ∙ scan_whole _ _ _ (sym c.bad_size.ensures ∙ c.if-bad_size.false)
