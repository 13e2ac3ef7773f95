-- The table as it was found, where the pieces are cleared again.
-- Assumes nothing.
use Rattle.std.specs.Prelude.{ℕ, ◌*◌, ◌≤◌, ◌≡◌, List, length}
use Rattle.std.proofs.Common.{sym, ◌∙◌, arith, ext_get_or}
use Rattle.std.proofs.Math.Decide.{dec_lt}
use Rattle.state.specs.Layout.{words, stored, wiped}
use Rattle.state.proofs.Laws.Clear.{wiped_length, wiped_before, wiped_within, wiped_behind}
use Rattle.differing.specs.Laws.Scratch.{Blank, blank_at}
use Rattle.pieces.specs.Pieces.{Kept}
use Rattle.pieces.specs.Laws.Pieces.{front_at, rest_at}

-- The sections of the pieces cleared: the table as it was found, where nothing else was written.
pub pieces_back : (n : ℕ) (f g : List ℕ) → words * n ≤ length f → Blank n f → Kept n f g → wiped (stored * n) (7 * n) g ≡ f
pieces_back n f g l z k =
    let m : 7 * n ≤ length g = omega (arith, k.same_length) in
    ext_get_or 0 (wiped (stored * n) (7 * n) g) f (wiped_length (stored * n) (7 * n) g (omega arith) m ∙ k.same_length) (λ i h. elim (dec_lt i (stored * n)) [
      | yes a ↦ wiped_before (stored * n) (7 * n) g (omega arith) m i a ∙ front_at (stored * n) f g k.before i a
      | no a ↦ elim (dec_lt i (7 * n)) [
        | yes b ↦ wiped_within (stored * n) (7 * n) g (omega arith) m i (omega arith) b ∙ sym (blank_at n f l z i (omega arith) (omega arith))
        | no b ↦ wiped_behind (stored * n) (7 * n) g (omega arith) m i (omega arith) ∙ rest_at (7 * n) f g k.behind i (omega arith)
      ]
    ])
