-- `lists::bad_size` meets its contract: both tests as the definition has them.
-- Assumes nothing.
use mathlib.Core.Bool.{true, false}
use mathlib.Core.Path.{◌≡◌, refl}
use lib.Dec.{eqb}
use borrow.Author.Tests.{eq-eqb, ne_eqb}
use Rattle.lists.specs.List.{no_size}
use Rattle.lists.proofs.bad_size.Goals as goal

pub returns-then-n-eq0 : goal.returns-then-n-eq0
unfolding no_size
returns-then-n-eq0 c = let h : eqb c.args.n 0 ≡ true = eq-eqb _ _ c.if-n-eq0.true in rw h refl

pub returns-else-n-eq0 : goal.returns-else-n-eq0
unfolding no_size
returns-else-n-eq0 c = let h : eqb c.args.n 0 ≡ false = ne_eqb _ _ c.if-n-eq0.false in rw h refl
