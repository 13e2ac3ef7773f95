-- The ceiling: an unfinished pass places more than k fragments, whatever it was told; so the passes of a building are few.
-- Assumes nothing.
use Rattle.std.specs.Prelude.{ℕ, zero, suc, ◌+◌, ◌*◌, ◌≤◌, ◌<◌, ◌≡◌, Bool, T, length}
use Rattle.std.proofs.Common.{sym, ◌∙◌, add-one, mul-suc, le-div_iff_mul-le, length-append}
use mathlib.Core.List.{List, [], ◌∷◌, ◌++◌}
use native.Mathlib.Omega.{arith}
use Rattle.std.proofs.Math.Nat.{suc-mul}
use Rattle.base.specs.Truth.{and_intro, T_dec}
use Rattle.base.specs.Link.{Link}
use Rattle.rules.specs.Links.{linked, Among, Each}
use Rattle.rules.specs.Search.{count, every}
use Rattle.rules.specs.Tables.{Tables, placed, fresh}
use Rattle.rules.specs.Building.{done, pass, passes, ceiling, lower_ceiling}
use Rattle.rules.specs.Facts.{Standing, Rested}
use Rattle.rules.proofs.Laws.Search.{count_le, count_yes, count_no, every_at, every_intro}
use Rattle.rules.proofs.Laws.Tables.{same_placed, same_rank, fresh_standing, fresh_rested}
use Rattle.rules.proofs.Laws.Kept.{kept_placed}
use Rattle.rules.proofs.Laws.Close.{not_placed}
use Rattle.rules.proofs.Laws.Passes.{was_told, told_forest, told_stands, pass_forest, pass_stands, pass_rests, pass_kept}
use Rattle.rules.proofs.Laws.Unfinished.{close_places}

-- What is not done has fewer than n placed.
pub count_short : (p : ℕ → Bool) (n : ℕ) → (T (every p n) → ⊥) → count p n < n
unfolding every
count_short p zero d = absurd (d tt)
count_short p (suc n) d = elim (T_dec (p n)) [
  | yes t ↦ omega (arith, count_yes p n t, count_short p n (λ e. d (and_intro (p n) (every p n) t e)))
  | no t ↦ omega (arith, count_no p n t, count_le p n)
]

-- What is left after p rounds of more than k bounds the rounds with one more.
rounds_most : (p n k : ℕ) → 1 ≤ k → p * suc k < n → suc p ≤ ceiling n k
rounds_most p n k pos h = (le-div_iff_mul-le pos).1 (omega (arith, suc-mul p k, mul-suc p k))

rounds_more : (p n k : ℕ) → p * suc k < n → suc p ≤ lower_ceiling n k
rounds_more p n k h = rw add-one ((le-div_iff_mul-le {k = suc k} (omega arith)).1 (omega (arith, suc-mul p (suc k))))

one_more : {A : Type 0} (l : List A) (x : A) → length (l ++ (x ∷ [])) ≡ suc (length l)
one_more l x = length-append l (x ∷ []) ∙ add-one (length l)

-- One fragment fails a test that not every one passes.
pub every_fails : (p : ℕ → Bool) (n : ℕ) → (T (every p n) → ⊥) → (v : ℕ) × (v < n) × (T (p v) → ⊥)
unfolding every
every_fails p zero d = absurd (d tt)
every_fails p (suc n) d = elim (T_dec (p n)) [
  | yes t ↦ let (v, h, f) = every_fails p n (λ e. d (and_intro (p n) (every p n) t e)) in (v, omega arith, f)
  | no t ↦ (n, omega arith, t)
]

module _ {n k : ℕ} (pos : 1 ≤ k) where
  -- One pass, whatever list it is told.
  module _ {t : Tables} (S : Standing n t) (R : Rested n t) (g : List Link) (among : Among n (linked g)) where
    left_places : (v : ℕ) → v < n → (T (placed (pass n k t g) v) → ⊥) → count (placed t) n + suc k ≤ count (placed (pass n k t g)) n
    left_places v h out =
        let forest = pass_forest pos S R g among in
        rw (same_placed forest, ← same_placed (told_forest pos S R g among))
        (close_places (told_stands pos S R g among) (was_told pos S R g among) v h (sym (same_rank forest v) ∙ not_placed (pass n k t g) v out))

    -- An unfinished pass places more than k fragments.
    pub unfinished_places : (T (done n (pass n k t g)) → ⊥) → count (placed t) n + suc k ≤ count (placed (pass n k t g)) n
    unfolding done
    unfinished_places d = let (v, h, out) = every_fails (placed (pass n k t g)) n d in left_places v h out

    -- What is done stays done.
    pass_done : T (done n t) → T (done n (pass n k t g))
    unfolding done
    pass_done d = every_intro (placed (pass n k t g)) n (λ v h. kept_placed (pass_kept pos S R g among) v (every_at (placed t) n d v h))

  passes_done : {t : Tables} (gs : List (List Link)) → Standing n t → Rested n t → Each (λ g. Among n (linked g)) gs → T (done n t) → T (done n (passes n k t gs))
  unfolding passes
  passes_done [] S R A d = d
  passes_done {t = t} (g ∷ gs) S R (a, A) d = passes_done {t = pass n k t g} gs (pass_stands pos S R g a) (pass_rests pos S R g a) A (pass_done S R g a d)

  -- Passes that leave something unplaced have placed more than k fragments each.
  passes_place : {t : Tables} (gs : List (List Link)) → Standing n t → Rested n t → Each (λ g. Among n (linked g)) gs → (T (done n (passes n k t gs)) → ⊥) → count (placed t) n + length gs * suc k ≤ count (placed (passes n k t gs)) n
  unfolding passes
  passes_place [] S R A d = omega arith
  passes_place {t = t} (g ∷ gs) S R (a, A) d =
      let S' = pass_stands pos S R g a in
      let R' = pass_rests pos S R g a in
      omega (arith, suc-mul (length gs) (suc k), unfinished_places S R g a (λ e. d (passes_done {t = pass n k t g} gs S' R' A e)), passes_place {t = pass n k t g} gs S' R' A d)

-- Passes from the start, told any lists, that left something unplaced; and the pass after them, whatever it is told.
module _ (n k : ℕ) (pos : 1 ≤ k) (gs : List (List Link)) (among : Each (λ g. Among n (linked g)) gs) (unfinished : T (done n (passes n k (fresh n) gs)) → ⊥) where
  pub passes_most : length gs * suc k < n
  unfolding done
  passes_most = omega (arith, passes_place pos gs (fresh_standing n) (fresh_rested n) among unfinished, count_short (placed (passes n k (fresh n) gs)) n unfinished)

  pub within_ceiling : (g : List Link) → length (gs ++ (g ∷ [])) ≤ ceiling n k
  within_ceiling g = rw (one_more gs g) (rounds_most (length gs) n k pos passes_most)

  pub within_lower : (g : List Link) → length (gs ++ (g ∷ [])) ≤ lower_ceiling n k
  within_lower g = rw (one_more gs g) (rounds_more (length gs) n k passes_most)
