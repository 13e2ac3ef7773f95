-- `c_telling::words::telling_in` meets its contract.
-- Assumes nothing.
use Rattle.std.proofs.Common.{◌∙◌}
use Rattle.c_telling.specs.Laws.Steps.{step_told, telling_in_lem}
use Rattle.c_telling.proofs.words.telling_in.Goals as goal

pub returns : goal.returns
returns c =
    telling_in_lem c.args.words.now _ c.word-step.result c.word.result c.word-2.result c.word-3.result c.word-4.result c.word-step.ensures c.word.ensures c.word-2.ensures c.word-3.ensures c.word-4.ensures c.unpack.ensures (c.unwrap_or.ensures ∙ step_told _ _ c.try_from.ensures) c.joined.ensures c.have_in.ensures
