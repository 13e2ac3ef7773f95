-- Two answers that meet the promise of a function here are equal, and so are the words that they leave.
-- Assumes nothing.
use Rattle.std.specs.Prelude.{ℕ, ◌≡◌, List}
use Rattle.std.proofs.Common.{sym, ap, ◌∙◌}
use Rattle.c_words.specs.Answers.{Reply, Ended, reply, ended}

pub ended_decided : (x : Ended) (r s a b : ℕ) (w u : List ℕ) → ended r a w ≡ x → ended s b u ≡ x → (r ≡ s) × (a ≡ b) × (w ≡ u)
ended_decided x r s a b w u p q =
    let e = p ∙ sym q in
    (ap (λ (y : Ended). y.reply.number) e, ap (λ (y : Ended). y.reply.word) e, ap (λ (y : Ended). y.state) e)

pub replied_decided : (x : Reply) (r s a b : ℕ) → reply r a ≡ x → reply s b ≡ x → (r ≡ s) × (a ≡ b)
replied_decided x r s a b p q = let e = p ∙ sym q in (ap (λ (y : Reply). y.number) e, ap (λ (y : Reply). y.word) e)
