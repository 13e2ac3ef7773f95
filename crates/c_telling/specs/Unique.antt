-- Two answers that meet the promise of `end_tell` are equal, and so are the words that they leave.
-- Assumes nothing.
use Rattle.std.specs.Prelude.{ℕ, ◌≡◌, List}
use Rattle.std.proofs.Common.{sym, ap, ◌∙◌}
use Rattle.c_telling.specs.Answers.{Ended, ended}

pub ended_decided : (x : Ended) (r s : ℕ) (w u : List ℕ) → ended r w ≡ x → ended s u ≡ x → (r ≡ s) × (w ≡ u)
ended_decided x r s w u p q = let e = p ∙ sym q in (ap (λ (y : Ended). y.number) e, ap (λ (y : Ended). y.words) e)
