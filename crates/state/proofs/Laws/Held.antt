-- The test of the held links says what the theory asks of them, and the other way.
-- Assumes nothing.
use Rattle.std.specs.Prelude.{ℕ, ◌-◌, ◌*◌, ◌≤◌, ◌<◌, refl, Bool, ◌&&◌, not, List, [], ◌∷◌, ◌++◌, ◌≢◌, T, ltb, get_or}
use Rattle.std.proofs.Common.{inl, inr, arith, mul-le-mul, ltb→lt, lt→ltb, leb→le, le→leb, T_not}
use Rattle.std.proofs.Math.Dec.{not_T}
use Rattle.base.specs.Truth.{and_l, and_r, and_intro, or_l, or_r, or_cases, T_dec}
use Rattle.base.specs.Link.{Link}
use Rattle.rules.specs.Links.{between, linked, tally}
use Rattle.rules.specs.Tables.{Tables, placed}
use Rattle.rules.specs.Building.{pieces, member, size_of, held_in}
use Rattle.rules.proofs.Laws.Facts.{Loose}
use Rattle.rules.proofs.Laws.Links.{between_here, linked_nil, linked_cases, linked_turn}
use Rattle.rules.proofs.Laws.Tables.{placed_or_loose, placed_loose}
use Rattle.rules.proofs.Laws.Search.{every_at, every_intro}
use Rattle.rules.proofs.Laws.Split.{bit_yes, bit_no, bit_most, count_some, tally_cons, tally_nil, tally_none, by_between, between_flip}
use Rattle.rules.proofs.Laws.Pieces.{Inside, label_in, label_own, member_intro, member_elim}
use Rattle.rules.proofs.Laws.Quota.{Once, Quota}
use Rattle.state.specs.Test.{asked, ends_fit, none_twice, quota_fits}

-- A clause that is asked.
pub asked_use : (a b : Bool) → T (asked a b) → T a → T b
unfolding asked
asked_use a b t s = elim (or_cases (not a) b t) [ inl n ↦ absurd (T_not a n s) | inr r ↦ r ]

pub asked_make : (a b : Bool) → (T a → T b) → T (asked a b)
unfolding asked
asked_make a b f = elim (T_dec a) [ yes s ↦ or_r (not a) b (f s) | no s ↦ or_l (not a) b (not_T a s) ]

pub not_placed : (t : Tables) (v : ℕ) → T (not (placed t v)) → Loose t v
not_placed t v n = elim (placed_or_loose t v) [ inl p ↦ absurd (T_not (placed t v) n p) | inr l ↦ l ]

pub loose_not : (t : Tables) (v : ℕ) → Loose t v → T (not (placed t v))
loose_not t v l = not_T (placed t v) (λ p. placed_loose t v p l)

-- 'held links join different unplaced fragments'
pub record Ends (n : ℕ) (t : Tables) (a b : ℕ) : Type 0 where
  pub less : a < b
  pub inside : b < n
  pub one : Loose t a
  pub two : Loose t b

abbrev ends_at : ℕ → Tables → ℕ → ℕ → Bool
ends_at n t a b = ltb a b && (ltb b n && (not (placed t a) && not (placed t b)))

ends_head : (n : ℕ) (t : Tables) (a b : ℕ) → T (ends_at n t a b) → Ends n t a b
ends_head n t a b x =
    let y = and_r (ltb a b) _ x in
    let z = and_r (ltb b n) _ y in
    record {
      less = ltb→lt a b (and_l (ltb a b) _ x);
      inside = ltb→lt b n (and_l (ltb b n) _ y);
      one = not_placed t a (and_l (not (placed t a)) _ z);
      two = not_placed t b (and_r (not (placed t a)) _ z);
    }

pub ends_known : (n : ℕ) (t : Tables) (l : List Link) → T (ends_fit n t l) → (u v : ℕ) → T (linked l u v) → (u < n) × (v < n) × (u ≢ v) × Loose t u × Loose t v
unfolding ends_fit
ends_known n t [] x u v s = absurd (linked_nil u v s)
ends_known n t ((a, b) ∷ l) x u v s = elim (linked_cases (a, b) l u v s) [
  | inl e ↦
      let d = ends_head n t a b (and_l (ends_at n t a b) (ends_fit n t l) x) in
      by_between (λ u v. (u < n) × (v < n) × (u ≢ v) × Loose t u × Loose t v) (λ u v (p, q, r, k, m). (q, p, omega arith, m, k)) a b u v e
      (omega arith, d.inside, omega arith, d.one, d.two)
  | inr r ↦ ends_known n t l (and_r (ends_at n t a b) _ x) u v r
]

pub ends_more : (n : ℕ) (t : Tables) (l : List Link) (a b : ℕ) → T (ends_fit n t l) → Ends n t a b → T (ends_fit n t (l ++ ((a, b) ∷ [])))
unfolding ends_fit
ends_more n t [] a b x d =
    and_intro (ends_at n t a b) _
    (and_intro (ltb a b) _ (lt→ltb a b d.less) (and_intro (ltb b n) _ (lt→ltb b n d.inside) (and_intro (not (placed t a)) _ (loose_not t a d.one) (loose_not t b d.two))))
    tt
ends_more n t ((c, e) ∷ l) a b x d =
    and_intro (ends_at n t c e) _ (and_l (ends_at n t c e) _ x) (ends_more n t l a b (and_r (ends_at n t c e) _ x) d)

-- 'none twice'
pub once_known : (l : List Link) → T (none_twice l) → Once l
unfolding none_twice
once_known [] x u v = omega (arith, tally_nil (λ e. between e u v))
once_known ((a, b) ∷ l) x u v = elim (T_dec (between (a, b) u v)) [
  | yes t ↦
      omega (
        arith,
        tally_cons (λ e. between e u v) (a, b) l,
        bit_most (between (a, b) u v),
        tally_none (λ e. between e u v) l (λ (c, d) h s. T_not (linked l a b) (and_l (not (linked l a b)) _ x)
            (by_between (λ p q. T (linked l p q)) (linked_turn l) u v a b (between_flip a b u v t) (by_between (λ p q. T (linked l p q)) (linked_turn l) c d u v s h))),
      )
  | no t ↦ omega (arith, tally_cons (λ e. between e u v) (a, b) l, bit_no (between (a, b) u v) t, once_known l (and_r (not (linked l a b)) _ x) u v)
]

-- A held link is counted.
tally_linked : (l : List Link) (u v : ℕ) → T (linked l u v) → 1 ≤ tally (λ e. between e u v) l
tally_linked [] u v s = absurd (linked_nil u v s)
tally_linked (e ∷ l) u v s = elim (linked_cases e l u v s) [
  | inl b ↦ omega (arith, tally_cons (λ e. between e u v) e l, bit_yes (between e u v) b)
  | inr r ↦ omega (arith, tally_cons (λ e. between e u v) e l, tally_linked l u v r)
]

pub once_made : (l : List Link) → Once l → T (none_twice l)
unfolding none_twice
once_made [] h = tt
once_made ((a, b) ∷ l) h =
    and_intro (not (linked l a b)) (none_twice l)
    (not_T (linked l a b) (λ s. omega (arith, h a b, tally_cons (λ e. between e a b) (a, b) l, bit_yes (between (a, b) a b) (between_here a b), tally_linked l a b s)))
    (once_made l (λ u v. omega (arith, h u v, tally_cons (λ e. between e u v) (a, b) l)))

-- 'at most k·s - 1 in a piece of s'
pub quota_known : (n k : ℕ) (held : List Link) → 1 ≤ k → Inside n held → T (quota_fits n k held) → Quota n k held
unfolding quota_fits size_of
quota_known n k held h i x v l =
    let ps = pieces n held in
    let p = get_or ps v 0 in
    let own : T (member ps p p) = member_intro ps p p (label_own n held i v l) in
    let s : 1 ≤ size_of n ps p = count_some (member ps p) n v l (member_intro ps p v refl) in
    let q = asked_use (member ps p p) _ (every_at _ n x p (label_in n held i v l)) own in
    omega (arith, leb→le (held_in ps held p) (k * size_of n ps p - 1) q, mul-le-mul h s)

pub quota_made : (n k : ℕ) (held : List Link) → Quota n k held → T (quota_fits n k held)
unfolding quota_fits
quota_made n k held q =
    every_intro _ n (λ p l.
    let ps = pieces n held in
    asked_make (member ps p p) _ (λ m. le→leb (held_in ps held p) (k * size_of n ps p - 1) (omega (arith, rw (member_elim ps p p m) at (q p l)))))
