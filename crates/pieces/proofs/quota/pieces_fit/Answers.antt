-- `pieces::quota::pieces_fit` meets its contract: where the pieces do not pass, they are cleared again.
-- Assumes nothing.
use mathlib.Core.Path.{sym, ◌∙◌}
use Rattle.base.specs.Pick.{pick_true, pick_false}
use Rattle.pieces.specs.Laws.Scratch.{pieces_back}
use Rattle.pieces.specs.Laws.Gathered.{pieces_over}
use Rattle.pieces.proofs.quota.pieces_fit.Goals as goal

pub returns-then-not-quota_fits : goal.returns-then-not-quota_fits
returns-then-not-quota_fits c =
    let g = c.gather.ensures in
    let G = c.requires.0 in
    (sym (c.if-not-quota_fits.true) ∙ c.quota_fits.ensures _ g.gathered, c.clear.ensures ∙ pieces_back _ _ _ G.long G.blank g.kept ∙ sym (pick_false _ _))

pub shorten-requires : goal.shorten-requires
shorten-requires c = record { held = _; gathered = c.gather.ensures.gathered }

pub returns : goal.returns
returns c =
    let g = c.gather.ensures in
    (sym (c.if-not-quota_fits.false) ∙ c.quota_fits.ensures _ g.gathered, c.shorten.ensures _ g.gathered ∙ pieces_over _ _ _ _ g.kept ∙ sym (pick_true _ _))
