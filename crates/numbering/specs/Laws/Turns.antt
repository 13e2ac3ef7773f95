-- Why a pass from the first spot to the last gives each fragment its turn.
-- Assumes nothing.
use Rattle.std.specs.Prelude.{ℕ, ◌+◌, ◌*◌, ◌<◌, ◌≡◌, List, ◌≢◌, get_or, set}
use Rattle.std.proofs.Math.Path.{refl, sym}
use Rattle.std.proofs.Common.{ap, ◌∙◌, arith, get_or-set_same, get_or-set_other}
use Rattle.std.proofs.Math.Decide.{ℕ_discrete, dec_lt}
use Rattle.base.specs.Pick.{tests}
use Rattle.rules.specs.Tables.{par}
use Rattle.rules.specs.Numbers.{passed, turn}
use Rattle.rules.proofs.Laws.Up.{par_in}
use Rattle.rules.proofs.Laws.Numbers.{turn_root, turn_child, turn_in_lem}
use Rattle.state.specs.Layout.{forest_in}
use Rattle.testing.specs.Whole.{Whole}
use Rattle.testing.specs.Only.{Only}
use Rattle.testing.specs.Laws.Whole.{levels}
use Rattle.testing.specs.Laws.Only.{only_refl, only_more, only_forest, only_whole}
use Rattle.numbering.specs.Order.{spot_of}
use Rattle.numbering.specs.Passes.{Small, turned_at, Turnable, Turning, Turns}
use Rattle.numbering.specs.Laws.Order.{spot_in, spot_apart, spot_parent, ordered_some, ordered_back}

pub turning_none : (n : ℕ) (f : List ℕ) → Turnable n f → Turning n 0 f f
turning_none n f r = record { only = only_refl (4 * n) (5 * n) f; done = λ v h l. absurd (omega arith); left = λ v h l. r.each v h }

module _ {n i : ℕ} {f g : List ℕ} (r : Turnable n f) (k : Turning n i f g) where
  turning_order : (j : ℕ) → j < n → get_or g (7 * n + j) 0 ≡ get_or f (7 * n + j) 0
  turning_order j h = k.only.behind (7 * n + j) (omega arith)

  pub turning_next : (j : ℕ) → j < n → get_or g (7 * n + j) 0 < n
  turning_next j h = rw (turning_order j h) (ordered_some r.ready.ordered j h)

  pub turning_whole : Whole n g
  turning_whole = only_whole n (omega arith) k.only r.ready.whole

  -- What was passed is part of the turn.
  passed_small : (v : ℕ) → v < n → passed n (forest_in n f) v < n
  passed_small v h =
      let t = forest_in n f in
      let L = levels r.ready.whole in
      elim (ℕ_discrete (par t v) v) [
        | yes z ↦ omega (arith, turn_root n t L v h z, turn_in_lem n t L v h)
        | no d ↦ omega (arith, turn_child n t L v h d, turn_in_lem n t L v h)
      ]

  pub turning_small : Small 4 n g
  turning_small v h = elim (dec_lt (spot_of n (forest_in n f) v) i) [
    | yes l ↦ rw (k.done v h l) (turn_in_lem n (forest_in n f) (levels r.ready.whole) v h)
    | no l ↦ rw (k.left v h (omega arith)) (passed_small v h)
  ]

  module _ (h : i < n) (v : ℕ) (e : v ≡ get_or g (7 * n + i) 0) where
    here : spot_of n (forest_in n f) v ≡ i
    here = ap (spot_of n (forest_in n f)) (e ∙ turning_order i h) ∙ ordered_back r.ready.ordered i h

    small : v < n
    small = rw e (turning_next i h)

    turning_by : (g' : List ℕ) → Only (4 * n) (5 * n) f g' → ((u : ℕ) → u ≢ v → get_or g' (4 * n + u) 0 ≡ get_or g (4 * n + u) 0) → get_or g' (4 * n + v) 0 ≡ turn n (forest_in n f) v
        → Turning n (i + 1) f g'
    turning_by g' o other own = let t = forest_in n f in record {
      only = o;
      done = λ u l q. elim (ℕ_discrete u v) [
        | yes z ↦ rw z own
        | no d ↦ other u d ∙ k.done u l (omega (arith, here, spot_apart t n u v l small d))
      ];
      left = λ u l q. other u (λ z. omega (arith, here, ap (spot_of n t) z)) ∙ k.left u l (omega arith);
    }

    -- A root's turn is what was passed.
    turning_root : par (forest_in n f) v ≡ v → Turning n (i + 1) f g
    turning_root z = turning_by g k.only (λ u d. refl) (k.left v small (omega (arith, here)) ∙ sym (turn_root n (forest_in n f) (levels r.ready.whole) v small z))

    turning_child : (p : ℕ) → p ≡ par (forest_in n f) v → p < n → par (forest_in n f) v ≢ v → Turning n (i + 1) f (set g (4 * n + v) (get_or g (4 * n + p) 0 + get_or g (4 * n + v) 0 + 1))
    turning_child p ep hp d =
        let t = forest_in n f in
        let L = levels r.ready.whole in
        let x = get_or g (4 * n + p) 0 + get_or g (4 * n + v) 0 + 1 in
        let high : spot_of n t p < spot_of n t v = rw ep (spot_parent n t L v small d) in
        let own : x ≡ turn n t v = omega (arith, k.done p hp (omega (arith, here)), k.left v small (omega (arith, here)), turn_child n t L v small d, ap (turn n t) ep) in
        let sm = small in
        turning_by (set g (4 * n + v) x) (only_more k.only (4 * n + v) x (omega arith) (omega arith))
        (λ u q. get_or-set_other g (4 * n + v) (4 * n + u) x 0 (omega arith))
        (get_or-set_same g (4 * n + v) x 0 (omega (arith, r.ready.whole.long, k.only.long)) ∙ own)

    pub turning_turn : (g' : List ℕ) → g' ≡ turned_at n v g → Turning n (i + 1) f g'
    unfolding turned_at
    turning_turn g' eg =
        let t = forest_in n f in
        let et : forest_in n g ≡ t = only_forest n (omega arith) k.only in
        elim (ℕ_discrete (par t v) v) [
          | yes z ↦ rw (eg, et) (simp tests (turning_root z))
          | no d ↦ rw (eg, et) (simp tests (turning_child (par t v) refl (par_in (levels r.ready.whole) v small) d))
        ]

pub turning_all : {n i : ℕ} {f g : List ℕ} → i ≡ n → Turning n i f g → Turns n f g
turning_all {n} {i} {f} e k = record { only = k.only; each = λ v h. k.done v h (omega (arith, spot_in (forest_in n f) n v h)) }

-- What is written.
module _ (n v : ℕ) (f : List ℕ) (p : ℕ) (e : p ≡ par (forest_in n f) v) where
  pub turned_root : p ≡ v → f ≡ turned_at n v f
  unfolding turned_at
  turned_root z = let q : par (forest_in n f) v ≡ v = sym e ∙ z in simp tests

  pub turned_child : (p ≡ v → ⊥) → set f (4 * n + v) (get_or f (4 * n + p) 0 + get_or f (4 * n + v) 0 + 1) ≡ turned_at n v f
  unfolding turned_at
  turned_child d = let q : par (forest_in n f) v ≢ v = λ z. d (e ∙ z) in rw e (simp tests)
