-- `building::noted::is_held` meets its contract: what is noted tells it, or the held table does.
-- Assumes nothing.
use mathlib.Core.Path.{ap, ◌∙◌}
use native.Mathlib.Omega.{arith}
use Rattle.rules.specs.Links.{linked}
use Rattle.differing.specs.Laws.Links.{left_whole}
use Rattle.building.specs.Laws.Noted.{apart_none, asked_learnable, word_flaggable, stands_held, stands_not}
use Rattle.building.proofs.noted.is_held.Goals as goal

pub standing-x-requires : goal.standing-x-requires
standing-x-requires c = word_flaggable _ c.word_of.ensures (asked_learnable c.requires)

pub returns-then-x-ne0 : goal.returns-then-x-ne0
returns-then-x-ne0 c =
    let p = c.requires in
    record {
      held = stands_held _ c.word_of.ensures p.few_fragments p.ends p.noted c.standing-x.ensures c.if-x-ne0.true;
      noted = p.noted;
      apart = apart_none;
    }

pub returns-then-frag-n-ne0 : goal.returns-then-frag-n-ne0
returns-then-frag-n-ne0 c =
    let p = c.requires in
    record {
      held = stands_not _ c.word_of.ensures p.some p.few_fragments p.ends p.noted c.if-frag-n-ne0.true c.standing-x.ensures (omega (arith, c.if-x-ne0.false));
      noted = p.noted;
      apart = apart_none;
    }

pub returns : goal.returns
returns c =
    let a = c.args in
    let m = c.note_anew.ensures in
    record { held = c.is_among-answer.ensures ∙ ap (λ l. linked l a.a a.b) (left_whole a.held.now a.count); noted = m.0; apart = m.1 }
