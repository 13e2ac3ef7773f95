-- `tables::links::put_link` meets its contract: past the table, or stored.
-- Assumes nothing.
use mathlib.Core.Path.{sym, ap}
use native.Mathlib.Omega.{arith}
use lib.ListN.{set}
use lib.Seq.{set_out}
use borrow.Author.Rules.{rules}
use Rattle.tables.proofs.links.put_link.Goals as goal

pub returns-then-held-i : goal.returns-then-held-i
returns-then-held-i c = let a = c.args in sym (set_out a.held.now a.i _ (omega arith))

pub word_of-requires : goal.word_of-requires
word_of-requires c = search rules

pub offset_bounds-held-i : goal.offset_bounds-held-i
offset_bounds-held-i c = search rules

pub bounds-held-i : goal.bounds-held-i
bounds-held-i c = search rules

pub returns : goal.returns
returns c = let a = c.args in ap (λ x. set a.held.now a.i x) c.word_of.ensures
