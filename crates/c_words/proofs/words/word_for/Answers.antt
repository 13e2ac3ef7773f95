-- `c_words::words::word_for` meets its contract.
-- Assumes nothing.
use Rattle.std.specs.Prelude.{◌≡◌}
use Rattle.std.proofs.Common.{◌∙◌, arith}
use Rattle.std.proofs.Math.Decide.{dec_lt}
use Rattle.c_words.specs.State.{word_most}
use Rattle.c_words.specs.Laws.Steps.{word_fits_lem, word_over}
use Rattle.c_words.proofs.words.word_for.Goals as goal

pub returns : goal.returns
returns c = elim (dec_lt word_most c.args.x) [
  | yes l ↦ let e : c.min.result ≡ word_most = omega arith in e ∙ word_over _ l
  | no l ↦ let e : c.min.result ≡ c.args.x = omega arith in e ∙ word_fits_lem _ (omega arith)
]
