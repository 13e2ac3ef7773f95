-- Two answers that meet the list writer's promise are equal, and so are the buffers that they leave.
-- Assumes nothing.
use Rattle.std.specs.Prelude.{ℕ, List, Result, ◌≡◌}
use Rattle.std.proofs.Common.{sym, ◌∙◌}
use Rattle.numbers.specs.Answers.{wrote}
use Rattle.numbers.specs.declared.Why.{Why}
use Rattle.numbers.proofs.Unique.{wrote_once}
use Rattle.writing.specs.Write.{write_list}

pub written_decided : (n : ℕ) (words buffer : List ℕ) (a b : Result ℕ Why) (s t : List ℕ)
    → wrote a s ≡ write_list n words buffer → wrote b t ≡ write_list n words buffer → (a ≡ b) × (s ≡ t)
written_decided n words buffer a b s t p q = wrote_once a b s t (p ∙ sym q)
