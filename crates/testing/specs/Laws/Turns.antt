-- The answers of the test of the numbers, one by one.
-- Assumes nothing.
use Prim.Native.Nat.{ℕ, suc, ◌+◌, ◌-◌, ◌*◌, ◌≤◌, ◌<◌}
use Rattle.std.specs.Prelude.{◌≡◌, Bool, true, false, List, eqb, take, drop}
use Rattle.std.proofs.Math.Path.{ap}
use Rattle.std.proofs.Common.{◌∙◌, add-one}
use native.Mathlib.Omega.{arith}
use Rattle.base.specs.Pick.{tests}
use Rattle.rules.specs.Search.{every}
use Rattle.rules.specs.Tables.{Tables, parent_of}
use Rattle.state.specs.Layout.{words, stored, numbers, forest_in, turn_in, end_in, whose_in}
use Rattle.state.specs.Test.{is_numbered, all_zero}
use Rattle.state.specs.declared.Stage.{Stage}
use Rattle.testing.specs.Test.{under_at, comes_at, rises_to, root_fits, child_fits, words_fit, rest_fits}

module _ (n : ℕ) (t : Tables) (f : List ℕ) where
  module _ (p i : ℕ) where
    pub under_late : n ≤ i → false ≡ under_at n t f p i
    unfolding under_at
    under_late h = simp tests

    module _ (h : i < n) (w : ℕ) (ew : w ≡ whose_in n f i) where
      pub under_none : n ≤ w → false ≡ under_at n t f p i
      unfolding under_at
      under_none g = rw (← ew) (simp tests)

      pub under_so : w < n → (q : ℕ) → q ≡ parent_of t w → eqb q p ≡ under_at n t f p i
      unfolding under_at
      under_so g q e = rw (← ew, ← e) (simp tests)

  module _ (v y : ℕ) (ey : y ≡ turn_in n f v) where
    pub comes_late : n ≤ y → false ≡ comes_at n t f v
    unfolding comes_at
    comes_late h = rw (← ey) (simp tests)

    module _ (h : y < n) (w : ℕ) (ew : w ≡ whose_in n f y) where
      pub comes_other : (w ≡ v → ⊥) → false ≡ comes_at n t f v
      unfolding comes_at
      comes_other d = rw (← ey, ← ew) (simp tests)

      module _ (g : w ≡ v) (e : ℕ) (ee : e ≡ end_in n f v) where
        pub comes_narrow : e ≤ y → false ≡ comes_at n t f v
        unfolding comes_at
        comes_narrow l = rw (← ey, ← ew, ← ee) (simp tests)

        module _ (l : y < e) where
          pub comes_alone : e ≡ y + 1 → true ≡ comes_at n t f v
          unfolding comes_at
          comes_alone q = let z : e ≡ suc y = omega arith in rw (← ey, ← ew, ← ee) (simp tests)

          pub comes_first : (e ≡ y + 1 → ⊥) → (b : Bool) → b ≡ under_at n t f v (y + 1) → b ≡ comes_at n t f v
          unfolding comes_at
          comes_first d b q =
              let z : e ≡ suc y → ⊥ = λ c. d (omega arith) in
              let u : b ≡ under_at n t f v (suc y) = q ∙ ap (under_at n t f v) (add-one y) in
              rw (← ey, ← ew, ← ee, ← u) (simp tests)

  module _ (v p i w : ℕ) (ew : w ≡ whose_in n f i) where
    pub rises_not : w ≤ v → false ≡ rises_to n t f v p i
    unfolding rises_to
    rises_not h = rw (← ew) (simp tests)

    pub rises_so : v < w → (b : Bool) → b ≡ under_at n t f p i → b ≡ rises_to n t f v p i
    unfolding rises_to
    rises_so h b e = rw (← ew, ← e) (simp tests)

  module _ (v e : ℕ) (ee : e ≡ end_in n f v) where
    pub root_last : e ≡ n → true ≡ root_fits n t f v
    unfolding root_fits
    root_last h = rw (← ee) (simp tests)

    pub root_next : (e ≡ n → ⊥) → (w : ℕ) → w ≡ whose_in n f e → (b : Bool) → b ≡ rises_to n t f v w e → b ≡ root_fits n t f v
    unfolding root_fits
    root_next h w ew b q = rw (← ee, ← ew, ← q) (simp tests)

  module _ (p v y x : ℕ) (ey : y ≡ turn_in n f v) (ex : x ≡ turn_in n f p) where
    pub child_early : y ≤ x → false ≡ child_fits n t f p v
    unfolding child_fits
    child_early h = rw (← ey, ← ex) (simp tests)

    module _ (h : x < y) (e : ℕ) (ee : e ≡ end_in n f v) (d : ℕ) (ed : d ≡ end_in n f p) where
      pub child_last : e ≡ d → true ≡ child_fits n t f p v
      unfolding child_fits
      child_last q = rw (← ey, ← ex, ← ee, ← ed) (simp tests)

      pub child_next : (e ≡ d → ⊥) → (b : Bool) → b ≡ rises_to n t f v p e → b ≡ child_fits n t f p v
      unfolding child_fits
      child_next q b r = rw (← ey, ← ex, ← ee, ← ed, ← r) (simp tests)

  module _ (v : ℕ) where
    pub words_late : false ≡ comes_at n t f v → false ≡ words_fit n t f v
    unfolding words_fit
    words_late c = rw (← c)

    module _ (c : true ≡ comes_at n t f v) (p : ℕ) (ep : p ≡ parent_of t v) (b : Bool) where
      pub words_root : p ≡ v → b ≡ root_fits n t f v → b ≡ words_fit n t f v
      unfolding words_fit
      words_root e q = rw (← c, ← ep, ← q) (simp tests)

      pub words_child : (p ≡ v → ⊥) → b ≡ child_fits n t f p v → b ≡ words_fit n t f v
      unfolding words_fit
      words_child e q = rw (← c, ← ep, ← q) (simp tests)

-- What lies behind the sections of every stage.
module _ (n : ℕ) (g : Stage) (f : List ℕ) where
  pub rest_plain : is_numbered g ≡ false → (b : Bool) → b ≡ all_zero (take (words * n - stored * n) (drop (stored * n) f)) → b ≡ rest_fits n g f
  unfolding rest_fits
  rest_plain r b e = rw (r, ← e) (simp tests)

  module _ (r : is_numbered g ≡ true) where
    abbrev scratch : Bool
    scratch = all_zero (take (words * n - (stored + numbers) * n) (drop ((stored + numbers) * n) f))

    pub rest_worked : false ≡ scratch → false ≡ rest_fits n g f
    unfolding rest_fits
    rest_worked e = rw (r, ← e) (simp tests)

    pub rest_numbered : true ≡ scratch → (b : Bool) → b ≡ every (words_fit n (forest_in n f) f) n → b ≡ rest_fits n g f
    unfolding rest_fits
    rest_numbered e b q = rw (r, ← e, ← q) (simp tests)
