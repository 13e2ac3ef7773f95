-- `building::taking::take` meets its contract: refused by its first step or by its block, or the links are told.
-- Assumes nothing.
use native.Mathlib.Omega.{arith}
use mathlib.Core.Path.{sym, ap, ◌∙◌}
use Rattle.std.proofs.lemmas.Result.{err_from_is_err_and}
use Rattle.numbers.specs.Answers.{due}
use Rattle.numbers.proofs.Unique.{number_some}
use Rattle.lists.specs.Answers.{told_count}
use Rattle.pieces.specs.Laws.Passed.{passed}
use Rattle.building.specs.Laws.Take.{block_rest, take_head, take_refused, take_tells, take_accepted}
use Rattle.building.proofs.taking.take.Goals as goal

pub returns-in_err-gathered : goal.returns-in_err-gathered
returns-in_err-gathered c =
    let p = err_from_is_err_and c.from_residual.result c.from_residual.ensures.1 in
    let e = c.gathered.ensures in
    rw (p.1, p.2.0, p.2.1) (take_head _ _ _ _ _ e.1 _ (sym (ap due c.in_err-gathered.was) ∙ e.0) (number_some _))

pub overflow_cast-entries : goal.overflow_cast-entries
overflow_cast-entries c =
    let p = passed _ _ _ (sym c.gathered.ensures.0 ∙ ap due c.in_ok-gathered.was) in
    omega (arith, p.found.agrees.entries_few)

pub overflow_cast-n : goal.overflow_cast-n
overflow_cast-n c =
    let p = passed _ _ _ (sym c.gathered.ensures.0 ∙ ap due c.in_ok-gathered.was) in
    omega (arith, p.bounds.fragments)

pub tell_block-count-requires : goal.tell_block-count-requires
tell_block-count-requires c =
    let e = c.gathered.ensures in
    let a = c.args in
    (take_tells _ _ _ a.block.now _ e.1 _ e.0 (ap due c.in_ok-gathered.was), block_rest _ _ _ _ (sym (ap told_count c.in-Ok.is) ∙ c.scan.ensures))

pub overflow_add-told : goal.overflow_add-told
overflow_add-told c =
    let p = passed _ _ _ (sym c.gathered.ensures.0 ∙ ap due c.in_ok-gathered.was) in
    omega (arith, p.found.agrees.entries_few, c.wide.ensures)

pub overflow_mul-n : goal.overflow_mul-n
overflow_mul-n c =
    let p = passed _ _ _ (sym c.gathered.ensures.0 ∙ ap due c.in_ok-gathered.was) in
    omega (arith, p.bounds.fragments)

pub overflow_mul-n-in-Err : goal.overflow_mul-n-in-Err
overflow_mul-n-in-Err c =
    let p = passed _ _ _ (sym c.gathered.ensures.0 ∙ ap due c.in_ok-gathered.was) in
    omega (arith, p.bounds.fragments)

pub returns-in-Ok : goal.returns-in-Ok
returns-in-Ok c =
    let e = c.gathered.ensures in
    let scan = sym (ap told_count c.in-Ok.is) ∙ c.scan.ensures in
    rw c.moved.ensures (take_accepted _ _ _ _ _ e.1 _ e.0 (ap due c.in_ok-gathered.was) _ scan _ _ _ _ c.wide.ensures.says c.tell_block-count.ensures)

pub returns-in-Err : goal.returns-in-Err
returns-in-Err c =
    let e = c.gathered.ensures in
    let scan = sym (ap told_count c.in-Err.is) ∙ c.scan.ensures in
    take_refused _ _ _ _ _ e.1 _ e.0 (ap due c.in_ok-gathered.was) _ _ scan _ c.clear.ensures
