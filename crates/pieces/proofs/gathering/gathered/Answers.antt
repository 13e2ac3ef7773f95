-- `pieces::gathering::gathered` meets its contract: one law for each answer.
-- Assumes nothing.
use mathlib.Core.Path.{sym, ap, ◌∙◌}
use native.Mathlib.Omega.{arith}
use Rattle.std.proofs.lemmas.Result.{err_from_is_err_and}
use Rattle.numbers.specs.Answers.{due}
use Rattle.numbers.proofs.Unique.{number_some}
use Rattle.differing.specs.Laws.Head.{quota_known, quota_refused, quota_unsound, quota_sound}
use Rattle.pieces.specs.Laws.Check.{quota_gatherable}
use Rattle.pieces.specs.Laws.Gathered.{gathered_not, gathered_unsound, gathered_sound}
use Rattle.pieces.proofs.gathering.gathered.Goals as goal

pub returns-in_err-head_but_quota : goal.returns-in_err-head_but_quota
returns-in_err-head_but_quota c =
    let p = err_from_is_err_and c.from_residual.result c.from_residual.ensures.1 in
    let h = c.head_but_quota.ensures in
    let r = quota_refused _ _ _ _ (sym (ap due c.in_err-head_but_quota.was) ∙ h.0) (number_some _) in
    rw (p.1, p.2) (r, h.1 ∙ gathered_not _ _ _ (λ z. number_some _ (r ∙ z)))

pub pieces_fit-requires : goal.pieces_fit-requires
pieces_fit-requires c =
    let h = c.head_but_quota.ensures in
    quota_gatherable (quota_known _ _ _ (sym h.0 ∙ ap due c.in_ok-head_but_quota.was)) h.1

pub returns-then-not-pieces_fit : goal.returns-then-not-pieces_fit
returns-then-not-pieces_fit c =
    let h = c.head_but_quota.ensures in
    let t = c.pieces_fit.ensures in
    let q = c.if-not-pieces_fit.true in
    let r = quota_unsound _ _ _ _ h.0 (ap due c.in_ok-head_but_quota.was) (sym q ∙ t.0) in
    (r, gathered_unsound _ _ _ _ _ _ h.1 t.1 q (λ z. omega (arith, r ∙ z)))

pub returns : goal.returns
returns c =
    let h = c.head_but_quota.ensures in
    let t = c.pieces_fit.ensures in
    let q = c.if-not-pieces_fit.false in
    let r = quota_sound _ _ _ _ h.0 (ap due c.in_ok-head_but_quota.was) (sym q ∙ t.0) in
    (r, gathered_sound _ _ _ _ _ _ h.1 t.1 q (sym r))
