-- `asking::tree::piece` meets its contract: refused, or told of a numbered table that is then as found again.
-- Assumes nothing.
use Prim.Native.Nat.{ℕ}
use mathlib.Core.Bool.{not}
use mathlib.Core.Path.{◌≡◌, refl, sym, ap, ◌∙◌}
use native.Mathlib.Omega.{arith}
use lib.Dec.{leb}
use Rattle.std.proofs.lemmas.Result.{err_from_is_err_and}
use Rattle.base.specs.Pick.{pick}
use Rattle.base.specs.Answer.{gives, refuses}
use Rattle.numbers.specs.Answers.{due}
use Rattle.numbers.proofs.Unique.{number_some}
use Rattle.rules.specs.Reading.{piece}
use Rattle.state.specs.Layout.{forest_in}
use Rattle.state.specs.Ask.{asks, piece_call}
use Rattle.testing.specs.Laws.Head.{head_is}
use Rattle.asking.specs.Laws.Asked.{one_refused}
use Rattle.asking.specs.Laws.Piece.{Lent, head_same, lent, piece_told}
use Rattle.asking.proofs.tree.piece.Goals as goal
use Rattle.asking.proofs.tree.piece.Goals.{In_ok-head}

-- What the head lent on.
known : (c : In_ok-head) → Lent c.args.s c.args.frag.now c.head.new.frag
known c = lent _ _ _ _ _ (ap not c.is_building.ensures) c.head.ensures.0 _ c.head.ensures.1 (ap due c.in_ok-head.was)

answered : (c : In_ok-head) (v : ℕ) → pick (leb c.args.s.n v) (refuses 4 0) (gives (piece c.args.s.n (forest_in c.args.s.n c.head.new.frag) v)) ≡ piece_call c.args.s c.args.frag.now c.args.held.now v
answered c = piece_told _ _ _ _ _ (ap not c.is_building.ensures) c.head.ensures.0 _ c.head.ensures.1 (ap due c.in_ok-head.was)

pub returns-in_err-head : goal.returns-in_err-head
unfolding piece_call
returns-in_err-head c =
    let p = err_from_is_err_and c.from_residual.result c.from_residual.ensures.1 in
    let m = ap not c.is_building.ensures in
    let e = sym (ap due c.in_err-head.was) ∙ c.head.ensures.0 in
    rw (p.1, p.2.0, p.2.1) (one_refused asks _ _ _ _ (head_is asks refl _ _ _ _ _ m e) _ _ (number_some _), head_same _ _ _ _ _ m e _ c.head.ensures.1 (number_some _))

pub told-answer-requires : goal.told-answer-requires
told-answer-requires c = (known (goal.at.told-answer-requires c).In_ok-head).numbers

pub returns-then-not-is_built : goal.returns-then-not-is_built
returns-then-not-is_built c =
    (c.told-answer.ensures ∙ answered (goal.at.returns-then-not-is_built c).In_ok-head _, (known (goal.at.returns-then-not-is_built c).In_ok-head).later (sym c.is_built.ensures ∙ c.if-not-is_built.true))

pub overflow_mul-n : goal.overflow_mul-n
overflow_mul-n c = omega (arith, (known (goal.at.overflow_mul-n c).In_ok-head).numbers.whole.few)

pub overflow_mul-n-2 : goal.overflow_mul-n-2
overflow_mul-n-2 c = omega (arith, (known (goal.at.overflow_mul-n-2 c).In_ok-head).numbers.whole.few)

pub returns : goal.returns
returns c =
    (c.told-answer.ensures ∙ answered (goal.at.returns c).In_ok-head _, c.clear.ensures ∙ (known (goal.at.returns c).In_ok-head).back (sym c.is_built.ensures ∙ c.if-not-is_built.false))
