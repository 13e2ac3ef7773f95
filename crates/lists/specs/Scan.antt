-- What the private functions of the scan answer.
-- Assumes nothing.
use Rattle.std.specs.Prelude.{List, ℕ, leb, eqb, length}
use Rattle.base.specs.Pick.{pick}
use Rattle.base.specs.Answer.{Answer, gives, refuses}
use Rattle.lists.specs.List.{entries_most, and_then, bad_ends, links_at}

-- The refusal that a link whose numbers were read asks for, or 0.
unfoldable pub bad_link : (n entries a b : ℕ) → ℕ
bad_link n entries a b = pick (eqb (bad_ends n a b) 0) (pick (leb entries_most entries) 12 0) (bad_ends n a b)

-- How a scan ends: with the refusal of the link at `at`, or, where that is 0, with the count.
unfoldable pub scan_end : (bad at count : ℕ) → Answer ℕ
scan_end bad at count = pick (eqb bad 0) (gives count) (refuses bad at)

-- How many links stand from byte `at` on.
unfoldable pub scan_from : (n entries : ℕ) → List ℕ → ℕ → Answer ℕ
scan_from n entries s at = and_then (links_at n entries s at) λ ls. gives (length ls)
