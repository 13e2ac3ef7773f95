-- `adopting::parents::all_lead` meets its contract: it follows every way.
-- Assumes nothing.
use Prim.Native.Nat.{ℕ, zero, suc, ◌<◌, ◌≤◌}
use mathlib.Core.Bool.{Bool, true, false}
use mathlib.Core.List.{List}
use mathlib.Core.Path.{◌≡◌, refl}
use native.Mathlib.Omega.{arith}
use Rattle.std.specs.Bool.{MatchBool}
use Rattle.std.proofs.Common.{rules}
use Rattle.rules.specs.Adopting.{rooted_in, adoptable}
use Rattle.rules.proofs.Laws.Search.{below_suc}
use Rattle.state.proofs.Laws.Ranges.{cases_from_range}
use Rattle.adopting.specs.Adopt.{Inside, Leads}
use Rattle.adopting.specs.Laws.Adopt.{all_lead, one_leads_not}
use Rattle.adopting.proofs.parents.all_lead.Goals as goal

module _ (n : ℕ) (ps : List ℕ) where
  -- v's way leads to a root if all before it do.
  abbrev Follows : ℕ → Type 0
  Follows v = ((u : ℕ) → u < v → Leads ps u) → Leads ps v

  lead : ((v : ℕ) → v < n → Follows v) → (k : ℕ) → k ≤ n → (u : ℕ) → u < k → Leads ps u
  lead f zero h = λ u l. absurd (omega arith)
  lead f (suc k) h = let b = lead f k (omega arith) in below_suc (Leads ps) (f k (omega arith) b) b

  told : Inside n ps → (b : Bool) → MatchBool b ((v : ℕ) → v < n → Follows v) ((v : ℕ) × (v < n) × (rooted_in n ps v ≡ false)) → b ≡ adoptable n ps
  told s true h = all_lead n ps s (lead h n (omega arith))
  told s false h = one_leads_not n ps h.0 h.1 h.2

pub returns : goal.returns
returns c =
    let a = c.args in let ps = a.parents.now in
    told a.n ps c.requires _ (cases_from_range _ _ _ (Follows a.n ps) (λ v. rooted_in a.n ps v ≡ false) a.n c.all.ensures.ran refl (λ v q k. search rules) (λ v q k. search rules))
