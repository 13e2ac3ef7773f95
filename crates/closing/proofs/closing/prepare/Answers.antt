-- `closing::closing::prepare` meets its contract: labelled, chained, arranged.
-- Assumes nothing.
use Rattle.closing.specs.Laws.Ending.{end_wide, end_chainable, end_arrangeable, end_prepares}
use Rattle.closing.proofs.closing.prepare.Goals as goal

pub label_all-requires : goal.label_all-requires
label_all-requires c = let q = c.requires in end_wide _ _ _ _ q.endable _ q.laid

pub chain_members-requires : goal.chain_members-requires
chain_members-requires c =
    let q = c.requires in
    end_chainable _ _ _ _ q.endable _ q.laid _ c.label_all.ensures _ c.clear.ensures

pub arrange-requires : goal.arrange-requires
arrange-requires c =
    let q = c.requires in
    let l = c.label_all.ensures in
    let w = c.clear.ensures in
    let m = c.chain_members.ensures in
    end_arrangeable _ _ _ _ q.endable _ q.laid _ l _ w _ m

pub returns : goal.returns
returns c =
    let l = c.label_all.ensures in
    let w = c.clear.ensures in
    let m = c.chain_members.ensures in
    λ f W e. end_prepares _ _ _ _ W _ e _ l _ w _ m _ _ c.arrange.ensures
