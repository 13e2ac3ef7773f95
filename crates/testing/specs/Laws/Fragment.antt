-- The answers of the test at one fragment, by its words, and of the counts.
-- Assumes nothing.
use Prim.Native.Nat.{ℕ, suc, pred, ◌+◌, ◌*◌, ◌≤◌, ◌<◌}
use Rattle.std.specs.Prelude.{◌≡◌, Bool, true, false, ◌||◌, not, eqb, ltb, leb}
use Rattle.std.proofs.Common.{sym, add-one}
use native.Mathlib.Omega.{arith}
use Rattle.std.proofs.Math.Decide.{ℕ_discrete}
use borrow.Author.Tests.{lt-ltb, le-leb, lt-leb, eq-eqb, ne_eqb}
use Rattle.base.specs.Pick.{tests}
use Rattle.rules.specs.Search.{count}
use Rattle.rules.specs.Tables.{Tables, parent_of, rank, note_of, mark_of, placed, lev}
use Rattle.rules.proofs.Laws.Search.{count_zero, count_le}
use Rattle.rules.proofs.Laws.Split.{bit, count_suc}
use Rattle.state.specs.Test.{entries_most, is_building, is_built, is_reading, is_read, asked, stands_at, clear_at, low_fits}
use Rattle.state.specs.declared.State.{State}
use Rattle.state.specs.declared.Stage.{Stage}
use Rattle.testing.specs.Test.{mark_at, waits_at, noted_at, fragment_fits, counts_hold, stage_holds}

-- Whether a fragment is placed, by its word r.
module _ (t : Tables) (v r : ℕ) (er : r ≡ rank t v) where
  pub placed_so : (r ≡ 0 → ⊥) → placed t v ≡ true
  unfolding placed
  placed_so d = let o : 0 < r = omega arith in rw (← er, lt-ltb 0 r o)

  pub placed_not : r ≡ 0 → placed t v ≡ false
  unfolding placed
  placed_not e = rw (← er, e)

  pub placed_is : not (eqb r 0) ≡ placed t v
  placed_is = elim (ℕ_discrete r 0) [
    | yes e ↦ rw (eq-eqb r 0 e, placed_not e)
    | no d ↦ rw (ne_eqb r 0 d, placed_so d)
  ]

-- The mark in a reading pass.
module _ (read : Bool) (t : Tables) (v p m : ℕ) (ep : p ≡ parent_of t v) (em : m ≡ mark_of t v) where
  pub mark_root : p ≡ v → eqb m 0 ≡ mark_at read t v
  unfolding mark_at
  mark_root e = rw (← ep, ← em) (simp tests)

  module _ (d : p ≡ v → ⊥) where
    pub mark_none : m ≡ 0 → not read ≡ mark_at read t v
    unfolding mark_at
    mark_none e = rw (← ep, ← em) (simp tests)

    pub mark_some : (m ≡ 0 → ⊥) → eqb m 1 ≡ mark_at read t v
    unfolding mark_at
    mark_some e = rw (← ep, ← em) (simp tests)

-- An unplaced fragment.
module _ (n : ℕ) (t : Tables) (v p : ℕ) (ep : p ≡ parent_of t v) where
  pub waits_child : (p ≡ 0 → ⊥) → false ≡ waits_at n t v
  unfolding waits_at
  waits_child d = rw (← ep) (simp tests)

  module _ (h1 : p ≡ 0) (m : ℕ) (em : m ≡ mark_of t v) where
    pub waits_marked : 1 < m → false ≡ waits_at n t v
    unfolding waits_at
    waits_marked d = rw (← ep, ← em) (simp tests)

    module _ (h2 : m ≤ 1) (o : ℕ) (eo : o ≡ note_of t v) where
      pub waits_silent : o ≡ 0 → true ≡ waits_at n t v
      unfolding waits_at
      waits_silent e = rw (← ep, ← em, ← eo) (simp tests)

      module _ (h3 : o ≡ 0 → ⊥) where
        pub waits_far : n < o → false ≡ waits_at n t v
        unfolding waits_at
        waits_far d = let g : n ≤ pred o = omega arith in rw (← ep, ← em, ← eo) (simp tests)

        pub waits_noted : o ≤ n → (q r : ℕ) → q ≡ pred o → r ≡ rank t q → not (eqb r 0) ≡ waits_at n t v
        unfolding waits_at
        waits_noted d q r eq er =
            let g : pred o < n = omega arith in
            rw (placed_is t q r er, eq, ← ep, ← em, ← eo) (simp tests)

-- The note and the mark of a placed one; b says whether a pass reads.
module _ (g : Stage) (t : Tables) (v : ℕ) (b : Bool) (eb : b ≡ (is_reading g || is_read g)) where
  pub noted_clear : b ≡ false → (c : Bool) → c ≡ clear_at t v → c ≡ noted_at g t v
  unfolding noted_at
  noted_clear e c w = rw (← eb, e, w) (simp tests)

  module _ (h1 : b ≡ true) (l o : ℕ) (el : l ≡ lev t v) (eo : o ≡ note_of t v) where
    pub noted_high : l < o → false ≡ noted_at g t v
    unfolding noted_at low_fits
    noted_high d = rw (← eb, h1, ← el, ← eo, lt-leb o l d) (simp tests)

    pub noted_low : o ≤ l → (read : Bool) → read ≡ is_read g → (c : Bool) → c ≡ mark_at read t v → c ≡ noted_at g t v
    unfolding noted_at low_fits
    noted_low d read er c w = rw (← eb, h1, ← el, ← eo, le-leb o l d, w, er) (simp tests)

-- One fragment.
module _ (g : Stage) (n : ℕ) (t : Tables) (v r : ℕ) (er : r ≡ rank t v) where
  module _ (e : r ≡ 0) (b : Bool) (eb : b ≡ is_building g) where
    pub fits_never : b ≡ false → false ≡ fragment_fits g n t v
    unfolding fragment_fits
    fits_never q = rw (placed_not t v r er e, ← eb, q) (simp tests)

    pub fits_loose : b ≡ true → (c : Bool) → c ≡ waits_at n t v → c ≡ fragment_fits g n t v
    unfolding fragment_fits
    fits_loose q c w = rw (placed_not t v r er e, ← eb, q, w) (simp tests)

  module _ (d : r ≡ 0 → ⊥) where
    pub fits_fallen : false ≡ stands_at n t v → false ≡ fragment_fits g n t v
    unfolding fragment_fits
    fits_fallen w = rw (placed_so t v r er d, ← w) (simp tests)

    pub fits_placed : true ≡ stands_at n t v → (c : Bool) → c ≡ noted_at g t v → c ≡ fragment_fits g n t v
    unfolding fragment_fits
    fits_placed w c q = rw (placed_so t v r er d, ← w, q) (simp tests)

-- Counting those placed.
pub placed_none : (t : Tables) → 0 ≡ count (placed t) 0
placed_none t = sym (count_zero (placed t))

module _ (t : Tables) (v r m : ℕ) (er : r ≡ rank t v) (em : m ≡ count (placed t) v) where
  pub placed_more : (r ≡ 0 → ⊥) → m + 1 ≡ count (placed t) (v + 1)
  unfolding bit
  placed_more d = rw (add-one v) (omega (arith, rw (placed_so t v r er d) at (count_suc (placed t) v)))

  pub placed_same : r ≡ 0 → m ≡ count (placed t) (v + 1)
  unfolding bit
  placed_same e = rw (add-one v) (omega (arith, rw (placed_not t v r er e) at (count_suc (placed t) v)))

pub placed_few : (t : Tables) (n m : ℕ) → m ≡ count (placed t) n → m ≤ n
placed_few t n m e = omega (arith, e, count_le (placed t) n)

-- The counts, where m fragments are placed,
module _ (s : State) (m : ℕ) where
  pub counts_closed : m + 1 < s.passes → false ≡ counts_hold s m
  unfolding counts_hold
  counts_closed p = let q : suc m < s.passes = omega arith in rw (lt-leb s.passes (suc m) q)

  module _ (h1 : s.passes ≤ m + 1) where
    pub counts_many : entries_most < s.entries → false ≡ counts_hold s m
    unfolding counts_hold
    counts_many p = let q : s.passes ≤ suc m = omega arith in rw (le-leb s.passes (suc m) q) (simp tests)

    pub counts_room : s.entries ≤ entries_most → (x : ℕ) → x ≡ s.k * s.n → leb s.held x ≡ counts_hold s m
    unfolding counts_hold
    counts_room p x e = let q : s.passes ≤ suc m = omega arith in rw (le-leb s.passes (suc m) q, e) (simp tests)

-- and by the stage: a to d are the clauses, p to r the tests that they are asked after.
module _ (s : State) (m : ℕ) (p : Bool) (ep : p ≡ is_building s.stage) (a : Bool) (ea : a ≡ asked p (ltb m s.n)) where
  pub stage_done : a ≡ false → false ≡ stage_holds s m
  unfolding stage_holds
  stage_done e = rw (← ep, ← ea, e)

  module _ (h1 : a ≡ true) (b : Bool) (eb : b ≡ asked (not p) (eqb s.held 0)) where
    pub stage_held : b ≡ false → false ≡ stage_holds s m
    unfolding stage_holds
    stage_held e = rw (← ep, ← ea, h1, ← eb, e)

    module _ (h2 : b ≡ true) (q : Bool) (eq : q ≡ is_built s.stage) (c : Bool) (ec : c ≡ asked q (eqb s.entries 0)) where
      pub stage_entries : c ≡ false → false ≡ stage_holds s m
      unfolding stage_holds
      stage_entries e = rw (← ep, ← ea, h1, ← eb, h2, ← eq, ← ec, e)

      pub stage_crossed : c ≡ true → (r : Bool) → r ≡ is_reading s.stage → (d : Bool) → d ≡ asked (not r) (not s.crossed) → d ≡ stage_holds s m
      unfolding stage_holds
      stage_crossed e r er d w = rw (← ep, ← ea, h1, ← eb, h2, ← eq, ← ec, e, ← er) w

-- A clause by its test.
module _ (a b : Bool) where
  pub asked_off : not a ≡ true → not a ≡ asked a b
  unfolding asked
  asked_off e = rw e

  pub asked_on : not a ≡ false → b ≡ asked a b
  unfolding asked
  asked_on e = rw e
