-- `closing::closing::close` meets its contract: refused by its first step, or the pass ended and counted.
-- Assumes nothing.
use mathlib.Core.Path.{sym, ap, ◌∙◌}
use native.Mathlib.Omega.{arith}
use Rattle.std.proofs.lemmas.Result.{err_from_is_err_and}
use Rattle.numbers.specs.Answers.{due}
use Rattle.numbers.proofs.Unique.{number_some}
use Rattle.pieces.specs.Laws.Gathered.{gathered_is}
use Rattle.closing.specs.Laws.Close.{close_head, close_ends, close_counts, close_done, close_more}
use Rattle.closing.proofs.closing.close.Goals as goal

pub returns-in_err-gathered : goal.returns-in_err-gathered
returns-in_err-gathered c =
    let d = c.gathered.ensures in
    let p = err_from_is_err_and c.from_residual.result c.from_residual.ensures.1 in
    rw (p.1, p.2.0, p.2.1) (close_head _ _ _ _ (sym (ap due c.in_err-gathered.was) ∙ d.0) (number_some _) _ d.1)

pub end_pass-requires : goal.end_pass-requires
end_pass-requires c =
    let d = c.gathered.ensures in
    let z = sym d.0 ∙ ap due c.in_ok-gathered.was in
    record { found = _; endable = close_ends _ _ _ z; laid = d.1 ∙ sym (gathered_is _ _ _ z) }

pub overflow_add-counted : goal.overflow_add-counted
overflow_add-counted c =
    let d = c.gathered.ensures in
    let z = sym d.0 ∙ ap due c.in_ok-gathered.was in
    omega (arith, close_counts _ _ _ z)

pub all_placed-requires : goal.all_placed-requires
all_placed-requires c =
    let d = c.gathered.ensures in
    let z = sym d.0 ∙ ap due c.in_ok-gathered.was in
    let e = close_ends _ _ _ z in
    record { few = e.wide.few; long = omega (arith, e.wide.long, (c.end_pass.ensures _ e (d.1 ∙ sym (gathered_is _ _ _ z))).same_long) }

pub returns-then-all_placed : goal.returns-then-all_placed
returns-then-all_placed c =
    let d = c.gathered.ensures in
    let z = sym d.0 ∙ ap due c.in_ok-gathered.was in
    rw c.moved.ensures (close_done _ _ _ z _ _ (c.end_pass.ensures _ (close_ends _ _ _ z) (d.1 ∙ sym (gathered_is _ _ _ z))) (sym c.if-all_placed.true ∙ c.all_placed.ensures))

pub returns : goal.returns
returns c =
    let d = c.gathered.ensures in
    let z = sym d.0 ∙ ap due c.in_ok-gathered.was in
    rw c.moved-2.ensures (close_more _ _ _ z _ _ (c.end_pass.ensures _ (close_ends _ _ _ z) (d.1 ∙ sym (gathered_is _ _ _ z))) (sym c.if-all_placed.false ∙ c.all_placed.ensures))
