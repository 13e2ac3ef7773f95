-- When three words of each fragment fit those of its parent, its first child and the next one beside it, and when they are the numbers of the forest.
-- Assumes nothing.
use Rattle.std.specs.Prelude.{ℕ, suc, ◌<◌, ◌≡◌, ◌⊎◌, ◌≢◌}
use Rattle.rules.specs.Tables.{Tables, par}
use Rattle.rules.specs.Numbers.{turn, end, at_turn}

module _ (n : ℕ) (t : Tables) (P E O : ℕ → ℕ) where
  -- The fragment whose turn is i is one of n, and its parent is p.
  pub record Under (p i : ℕ) : Type 0 where
    pub early : i < n
    pub one : O i < n
    pub under : par t (O i) ≡ p

  -- At i a root comes that is greater than v.
  pub record NextRoot (v i : ℕ) : Type 0 where
    pub early : i < n
    pub one : O i < n
    pub root : par t (O i) ≡ O i
    pub rises : v < O i

  -- v's words fit: it comes at its own turn; what stands below it ends there, or begins with a child; behind it comes a greater one beside it, or all ends there.
  pub record FitsAt (v : ℕ) : Type 0 where
    pub inside : P v < n
    pub back : O (P v) ≡ v
    pub wide : P v < E v
    pub first_child : (E v ≡ suc (P v)) ⊎ Under v (suc (P v))
    pub next_root : par t v ≡ v → (E v ≡ n) ⊎ NextRoot v (E v)
    pub later : par t v ≢ v → P (par t v) < P v
    pub next_child : par t v ≢ v → (E v ≡ E (par t v)) ⊎ (Under (par t v) (E v) × (v < O (E v)))

  -- v's words are its numbers.
  pub record NumberedAt (v : ℕ) : Type 0 where
    pub turns : P v ≡ turn n t v
    pub ends : E v ≡ end n t v
    pub whose : O v ≡ at_turn n t v
