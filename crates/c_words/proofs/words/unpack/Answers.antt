-- `c_words::words::unpack` meets its contract.
-- Assumes nothing.
use Rattle.std.proofs.Common.{refl, ◌∙◌}
use Rattle.c_words.specs.Laws.Steps.{stage_told, state_in_lem}
use Rattle.c_words.proofs.words.unpack.Goals as goal

pub returns : goal.returns
returns c =
    let a = c.args in
    let stage = c.unwrap_or.ensures ∙ stage_told a.other _ _ c.try_from.ensures in
    state_in_lem a.other a.words.now _ _ _ _ c.word.ensures c.word_at.ensures c.word_at-mark.ensures c.word_at-2.ensures c.word_at-3.ensures stage c.word_at-4.ensures c.entries_in-entries.ensures c.word_at-5.ensures refl
