-- `testing::sections::Sections::of` keeps what a section is.
-- Assumes nothing.
use Prim.Native.Nat.{ℕ, ◌+◌, ◌-◌, ◌*◌}
use native.Mathlib.Omega.{arith}
use mathlib.Core.List.{List}
use mathlib.Core.Path.{◌≡◌, ap}
use lib.ListN.{take}
use Rattle.state.specs.Layout.{section}
use Rattle.testing.proofs.sections.Sections.of.Goals as goal

-- So many words as lie between two places that are n apart.
apart : (n a b : ℕ) (l : List ℕ) → b ≡ a + n → take (b - a) l ≡ take n l
apart n a b l e = let d : b - a ≡ n = omega (arith, e) in ap (λ m. take m l) d

pub invariant_of-result : goal.invariant_of-result
unfolding section
invariant_of-result c = let n = c.args.n in let f = c.args.frag.now in record {
  parents = apart n (0 * n) (1 * n) _ (omega arith);
  turns = apart n (4 * n) (5 * n) _ (omega arith);
  ends = apart n (5 * n) (6 * n) _ (omega arith);
  whoses = apart n (6 * n) (7 * n) _ (omega arith);
}
