-- Why a pass from the last spot to the first finds how many stand below each fragment.
-- Assumes nothing.
use Rattle.std.specs.Prelude.{ℕ, suc, ◌+◌, ◌*◌, ◌≤◌, ◌<◌, ◌≡◌, List, ◌≢◌, get_or, set, T, leb}
use Rattle.std.proofs.Math.Path.{refl, sym}
use Rattle.std.proofs.Common.{ap, ◌∙◌, arith, get_or-set_same, get_or-set_other, le→leb}
use Rattle.std.proofs.Math.Decide.{ℕ_discrete}
use Rattle.std.proofs.Math.Dec.{leb→le}
use Rattle.base.specs.Pick.{tests}
use Rattle.base.specs.Truth.{and_intro, and_l, and_r}
use Rattle.rules.specs.Search.{sum}
use Rattle.rules.specs.Tables.{Tables, par, lev}
use Rattle.rules.specs.Forest.{Levels}
use Rattle.rules.specs.Reading.{above, child_of}
use Rattle.rules.specs.Numbers.{below, below_if}
use Rattle.rules.proofs.Laws.Search.{count_le}
use Rattle.rules.proofs.Laws.Tally.{sum_most}
use Rattle.rules.proofs.Laws.Sums.{sum_same, sum_more}
use Rattle.rules.proofs.Laws.Below.{below_children, below_if_yes, below_if_no}
use Rattle.rules.proofs.Laws.Reading.{child_facts}
use Rattle.rules.proofs.Laws.Up.{par_in}
use Rattle.state.specs.Layout.{forest_in}
use Rattle.testing.specs.Whole.{Whole}
use Rattle.testing.specs.Only.{Only}
use Rattle.testing.specs.Laws.Whole.{levels}
use Rattle.testing.specs.Laws.Only.{only_refl, only_more, only_forest, only_whole}
use Rattle.numbering.specs.Order.{spot_of}
use Rattle.numbering.specs.Passes.{Ready, Small, grown_at, late, Growable, Growing, Sizes}
use Rattle.numbering.specs.Laws.Order.{spot_in, spot_apart, spot_parent, ordered_some, ordered_back}
use Rattle.numbering.specs.Laws.Sum.{sum_le, if_same, if_le}

pub below_most : (n : ℕ) (t : Tables) (v : ℕ) → below n t v ≤ n
unfolding below
below_most n t v = count_le (above t v) n

module _ (n : ℕ) (t : Tables) (v : ℕ) where
  late_from : (i c : ℕ) → T (late n t i v c) → i ≤ spot_of n t c
  unfolding late
  late_from i c h = leb→le i (spot_of n t c) (and_l (leb i (spot_of n t c)) _ h)

  late_child : (i c : ℕ) → T (late n t i v c) → T (child_of t v c)
  unfolding late
  late_child i c h = and_r (leb i (spot_of n t c)) _ h

  late_is : (i c : ℕ) → i ≤ spot_of n t c → T (child_of t v c) → T (late n t i v c)
  unfolding late
  late_is i c h k = and_intro (leb i (spot_of n t c)) _ (le→leb i (spot_of n t c) h) k

  -- None is late behind the last spot.
  late_none : sum (below_if n t (late n t n v)) n ≡ 0
  late_none = omega (arith, sum_most (below_if n t (late n t n v)) 0 n (λ c h. omega (arith, below_if_no n t (late n t n v) c (λ k. omega (arith, late_from n c k, spot_in t n c h)))))

  late_le : (i : ℕ) → sum (below_if n t (late n t i v)) n ≤ sum (below_if n t (child_of t v)) n
  late_le i = sum_le (below_if n t (late n t i v)) (below_if n t (child_of t v)) n (λ c h. if_le n t (late n t i v) (child_of t v) c (late_child i c))

  -- All children are late behind v's own spot.
  late_all : Levels n (par t) (lev t) → (i : ℕ) → i ≤ suc (spot_of n t v) → sum (below_if n t (late n t i v)) n ≡ sum (below_if n t (child_of t v)) n
  late_all L i l = sum_same (below_if n t (late n t i v)) (below_if n t (child_of t v)) n (λ c h. if_same n t (late n t i v) (child_of t v) c (late_child i c) (λ k.
      let (e, d) = (child_facts t v c).0 k in
      late_is i c (omega (arith, spot_parent n t L c h (λ z. d (sym z ∙ e)), ap (spot_of n t) e)) k))

  -- One spot more, which is c's.
  late_more : (j c : ℕ) → c < n → spot_of n t c ≡ j → sum (below_if n t (late n t j v)) n ≡ sum (below_if n t (late n t (j + 1) v)) n + below_if n t (child_of t v) c
  late_more j c h e = sum_more (below_if n t (late n t (j + 1) v)) (below_if n t (late n t j v)) n c (below_if n t (child_of t v) c) h
      (omega (arith, below_if_no n t (late n t (j + 1) v) c (λ k. omega (arith, late_from (j + 1) c k)), if_same n t (late n t j v) (child_of t v) c (late_child j c) (late_is j c (omega arith))))
      (λ i l d. if_same n t (late n t j v) (late n t (j + 1) v) i
      (λ k. late_is (j + 1) i (omega (arith, late_from j i k, spot_apart t n i c l h d)) (late_child j i k))
      (λ k. late_is j i (omega (arith, late_from (j + 1) i k)) (late_child (j + 1) i k)))

-- An order stays one where its words and the forest do.
pub ready_by : (n : ℕ) {a b : ℕ} {f g : List ℕ} → 4 * n ≤ a → Only a b f g → ((j : ℕ) → j < n → get_or g (7 * n + j) 0 ≡ get_or f (7 * n + j) 0) → Ready n f → Ready n g
ready_by n {f = f} h k e r =
    let same = only_forest n h k in
    record {
      whole = only_whole n h k r.whole;
      ordered = record { at = λ v l. rw same (e (spot_of n (forest_in n f) v) (spot_in (forest_in n f) n v l) ∙ r.ordered.at v l) };
    }

pub growing_none : (n : ℕ) (f : List ℕ) → Growable n f → Growing n n f f
growing_none n f r = record {
  only = only_refl (9 * n) (10 * n) f;
  each = λ v h. r.blank (9 * n + v) (omega arith) (omega arith) ∙ sym (late_none n (forest_in n f) v);
}

module _ {n i : ℕ} {f g : List ℕ} (r : Growable n f) (k : Growing n i f g) where
  growing_order : (j : ℕ) → j < n → get_or g (7 * n + j) 0 ≡ get_or f (7 * n + j) 0
  growing_order j h = k.only.before (7 * n + j) (omega arith)

  pub growing_next : (j : ℕ) → j < n → get_or g (7 * n + j) 0 < n
  growing_next j h = rw (growing_order j h) (ordered_some r.ready.ordered j h)

  pub growing_whole : Whole n g
  growing_whole = only_whole n (omega arith) k.only r.ready.whole

  pub growing_small : Small 9 n g
  growing_small v h =
      let t = forest_in n f in
      omega (arith, k.each v h, late_le n t v i, below_children n t (levels r.ready.whole) v h, below_most n t v)

-- One fragment more, at spot j.
module _ {n j : ℕ} {f g : List ℕ} (r : Growable n f) (k : Growing n (j + 1) f g) (h : j < n) where
  module _ (v : ℕ) (e : v ≡ get_or g (7 * n + j) 0) where
    here : spot_of n (forest_in n f) v ≡ j
    here = ap (spot_of n (forest_in n f)) (e ∙ growing_order r k j h) ∙ ordered_back r.ready.ordered j h

    small : v < n
    small = rw e (growing_next r k j h)

    -- A root has none to add to.
    growing_root : par (forest_in n f) v ≡ v → Growing n j f g
    growing_root z = let t = forest_in n f in record {
      only = k.only;
      each = λ u l. omega (arith, k.each u l, late_more n t u j v small here, below_if_no n t (child_of t u) v (λ c. let (e, d) = (child_facts t u v).0 c in d (sym z ∙ e)));
    }

    growing_child : (p : ℕ) → p ≡ par (forest_in n f) v → p < n → par (forest_in n f) v ≢ v → Growing n j f (set g (9 * n + p) (get_or g (9 * n + p) 0 + get_or g (9 * n + v) 0 + 1))
    growing_child p ep hp d =
        let t = forest_in n f in
        let L = levels r.ready.whole in
        let x = get_or g (9 * n + p) 0 + get_or g (9 * n + v) 0 + 1 in
        let own : below n t v ≡ get_or g (9 * n + v) 0 + 1 = omega (arith, k.each v small, late_all n t v L (j + 1) (omega (arith, here)), below_children n t L v small) in
        record {
          only = only_more k.only (9 * n + p) x (omega arith) (omega arith);
          each = λ u l. elim (ℕ_discrete u p) [
            | yes z ↦ rw z (get_or-set_same g (9 * n + p) x 0 (omega (arith, r.ready.whole.long, k.only.long))
                ∙ omega (arith, own, k.each p hp, late_more n t p j v small here, below_if_yes n t (child_of t p) v ((child_facts t p v).1 (sym ep, (λ y. d (sym ep ∙ sym y))))))
            | no q ↦ get_or-set_other g (9 * n + p) (9 * n + u) x 0 (omega arith)
                ∙ omega (arith, k.each u l, late_more n t u j v small here, below_if_no n t (child_of t u) v (λ c. q (sym ((child_facts t u v).0 c).0 ∙ sym ep)))
          ];
        }

    pub growing_turn : (g' : List ℕ) → g' ≡ grown_at n v g → Growing n j f g'
    unfolding grown_at
    growing_turn g' eg =
        let t = forest_in n f in
        let et : forest_in n g ≡ t = only_forest n (omega arith) k.only in
        elim (ℕ_discrete (par t v) v) [
          | yes z ↦ rw (eg, et) (simp tests (growing_root z))
          | no d ↦ rw (eg, et) (simp tests (growing_child (par t v) refl (par_in (levels r.ready.whole) v small) d))
        ]

pub growing_again : {n i : ℕ} {f g : List ℕ} → Growable n f → Growing n i f g → (j : ℕ) → i ≡ j + 1 → j < n → (v : ℕ) → v ≡ get_or g (7 * n + j) 0 → (g' : List ℕ) → g' ≡ grown_at n v g → Growing n j f g'
growing_again {n} {i} {f} {g} r k j e h = growing_turn r (rw e at k) h

pub growing_all : {n i : ℕ} {f g : List ℕ} → Growable n f → i ≡ 0 → Growing n i f g → Sizes n f g
growing_all {n} {i} {f} {g} r z k =
    let t = forest_in n f in
    let L = levels r.ready.whole in
    record { only = k.only; each = λ v h. omega (arith, k.each v h, late_all n t v L i (omega arith), below_children n t L v h) }

-- A parent is a fragment.
pub parent_in : {n : ℕ} {f : List ℕ} → Whole n f → (v p : ℕ) → v < n → p ≡ par (forest_in n f) v → p < n
parent_in w v p h e = rw e (par_in (levels w) v h)

-- What is written.
module _ (n v : ℕ) (f : List ℕ) (p : ℕ) (e : p ≡ par (forest_in n f) v) where
  pub grown_root : p ≡ v → f ≡ grown_at n v f
  unfolding grown_at
  grown_root z = let q : par (forest_in n f) v ≡ v = sym e ∙ z in simp tests

  pub grown_child : (p ≡ v → ⊥) → set f (9 * n + p) (get_or f (9 * n + p) 0 + get_or f (9 * n + v) 0 + 1) ≡ grown_at n v f
  unfolding grown_at
  grown_child d = let q : par (forest_in n f) v ≢ v = λ z. d (e ∙ z) in rw e (simp tests)
