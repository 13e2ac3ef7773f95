-- Facts about reading one link.
-- Assumes nothing.
use Rattle.std.specs.Prelude.{Bool, ◌||◌, List, ◌++◌, ◌⊎◌, ◌≡◌, ℕ, ◌+◌, ◌≤◌, ◌<◌, leb, ltb, eqb, length, take}
use Rattle.std.proofs.Math.Bool.{true, false}
use Rattle.std.proofs.Math.Logic.{inl, inr}
use Rattle.std.proofs.Math.Path.{refl, ap}
use Rattle.std.proofs.Common.{sym, ◌∙◌, arith, leb-false, ltb-false}
use Rattle.std.proofs.lemmas.Bool.{eqb-false}
use Rattle.base.specs.Pick.{pick, pick_true, pick_false, tests}
use Rattle.base.specs.Answer.{Answer, gives, refuses}
use Rattle.numbers.specs.Number.{Numeral, read_number}
use Rattle.lists.specs.List.{fragments_most, no_size, sized, and_then, placed, joins, counts, LinkAt, read_ends, read_link, scan_link, entries_most}
use Rattle.lists.specs.Words.{shifted}
use Rattle.numbers.proofs.Theorems.{number_within, number_refusal}
use Rattle.lists.specs.Laws.Numbers.{given_more, given_less, given_behind, refused_more, refused_behind}

pub never_both : {A : Type 0} {x : Answer A} {a : A} {number place : ℕ} → x ≡ gives a → x ≡ refuses number place → ⊥
never_both p q = let z : ◌≡◌ {A = ℕ} 0 1 = cc in omega arith

-- Two ways to go on that agree on the answer given.
pub and_then_same : {A B : Type 0} (x : Answer A) (f g : A → Answer B) → ((a : A) → x ≡ gives a → f a ≡ g a) → and_then x f ≡ and_then x g
unfolding and_then
and_then_same (gives a) f g h = h a refl
and_then_same (refuses number place) f g h = refl

-- An answer is given or refused.
pub answered : {A : Type 0} (x : Answer A) → ((a : A) × (x ≡ gives a)) ⊎ ((number : ℕ) × (place : ℕ) × (x ≡ refuses number place))
answered (gives a) = inl (a, refl)
answered (refuses number place) = inr (number, place, refl)

-- What was given at the end was given at the first step.
pub and_then_gives : {A B : Type 0} (x : Answer A) (f : A → Answer B) (b : B) → and_then x f ≡ gives b → (a : A) × (x ≡ gives a) × (f a ≡ gives b)
unfolding and_then
and_then_gives (gives a) f b e = (a, refl, e)
and_then_gives (refuses number place) f b e = absurd (never_both refl (sym e))

-- Where the two numbers of a link stand.
pub record Ends (s : List ℕ) (at : ℕ) (l : LinkAt) : Type 0 where
  pub middle : ℕ
  pub first : read_number s at ≡ gives (record { value = l.link.0; next = middle })
  pub second : read_number s middle ≡ gives (record { value = l.link.1; next = l.next })

-- The first number refused, or the second behind the first.
pub data NoEnds (s : List ℕ) (at number place : ℕ) : Type 0 where
  no_first : read_number s at ≡ refuses number place → NoEnds s at number place
  no_second : (a : Numeral) → read_number s at ≡ gives a → read_number s a.next ≡ refuses number place → NoEnds s at number place

pub ends_are : {s : List ℕ} {at : ℕ} {l : LinkAt} → Ends s at l → read_ends s at ≡ gives l
unfolding read_ends and_then
ends_are d = rw (d.first, d.second) refl

pub ends_are_not : {s : List ℕ} {at number place : ℕ} → NoEnds s at number place → read_ends s at ≡ refuses number place
unfolding read_ends and_then
ends_are_not (no_first p) = rw p refl
ends_are_not (no_second a p q) = rw (p, q) refl

pub ends_told : (s : List ℕ) (at : ℕ) (x : Answer LinkAt) → read_ends s at ≡ x
    → ((l : LinkAt) × (x ≡ gives l) × Ends s at l) ⊎ ((number : ℕ) × (place : ℕ) × (x ≡ refuses number place) × NoEnds s at number place)
ends_told s at x e = go (read_number s at) refl
  where
    second : (a : Numeral) → read_number s at ≡ gives a → (y : Answer Numeral) → read_number s a.next ≡ y
        → ((l : LinkAt) × (x ≡ gives l) × Ends s at l) ⊎ ((number : ℕ) × (place : ℕ) × (x ≡ refuses number place) × NoEnds s at number place)
    second a p (gives b) q =
        let d : Ends s at (record { link = (a.value, b.value); next = b.next }) = record { middle = a.next; first = p; second = q } in
        inl (record { link = (a.value, b.value); next = b.next }, sym e ∙ ends_are d, d)
    second a p (refuses number place) q = inr (number, place, sym e ∙ ends_are_not (no_second a p q), no_second a p q)

    go : (y : Answer Numeral) → read_number s at ≡ y
        → ((l : LinkAt) × (x ≡ gives l) × Ends s at l) ⊎ ((number : ℕ) × (place : ℕ) × (x ≡ refuses number place) × NoEnds s at number place)
    go (gives a) p = second a p (read_number s a.next) refl
    go (refuses number place) p = inr (number, place, sym e ∙ ends_are_not (no_first p), no_first p)

pub ends_of : (s : List ℕ) (at : ℕ) (l : LinkAt) → read_ends s at ≡ gives l → Ends s at l
ends_of s at l e = elim (ends_told s at (gives l) e) [
  | inl (m, p, d) ↦ let z : m ≡ l = cc in (rw z at d)
  | inr (number, place, p, d) ↦ absurd (never_both refl p)
]

pub ends_not_of : (s : List ℕ) (at number place : ℕ) → read_ends s at ≡ refuses number place → NoEnds s at number place
ends_not_of s at number place e = elim (ends_told s at (refuses number place) e) [
  | inl (m, p, d) ↦ absurd (never_both p refl)
  | inr (k, q, p, d) ↦ let z : k ≡ number = cc in let z' : q ≡ place = cc in (rw (z, z') at d)
]

pub ends_refusal : {s : List ℕ} {at number place : ℕ} → NoEnds s at number place → (number ≡ 7) ⊎ (number ≡ 8)
ends_refusal (no_first p) = (number_refusal _ _ _ _ p).0
ends_refusal (no_second a p q) = (number_refusal _ _ _ _ q).0

-- A link ends past its beginning, inside the bytes.
pub ends_within : {s : List ℕ} {at : ℕ} {l : LinkAt} → Ends s at l → (at < l.next) × (l.next ≤ length s)
ends_within d =
    let v = number_within _ _ _ d.first in
    let w = number_within _ _ _ d.second in
    (omega arith, omega arith)

-- A refused number's refusal is none of 0.
pub no_ends_some : {s : List ℕ} {at number place : ℕ} → NoEnds s at number place → number ≡ 0 → ⊥
no_ends_some d z = elim (ends_refusal d) [ inl p ↦ omega arith | inr p ↦ omega arith ]

-- What stands whole stands whatever follows.
pub ends_more : {s : List ℕ} {at : ℕ} {l : LinkAt} (t : List ℕ) → Ends s at l → Ends (s ++ t) at l
ends_more t d = record { middle = d.middle; first = given_more _ _ _ d.first t; second = given_more _ _ _ d.second t }

pub no_ends_more : {s : List ℕ} {at number place : ℕ} (t : List ℕ) → (number ≡ 8 → ⊥) → NoEnds s at number place → NoEnds (s ++ t) at number place
no_ends_more t h (no_first p) = no_first (refused_more _ _ _ _ p h t)
no_ends_more t h (no_second a p q) = no_second a (given_more _ _ _ p t) (refused_more _ _ _ _ q h t)

-- No byte past the link's end is needed.
pub ends_less : {s : List ℕ} {at : ℕ} {l : LinkAt} (c : ℕ) → l.next ≤ c → Ends s at l → Ends (take c s) at l
ends_less c h d =
    let w = number_within _ _ _ d.second in
    record { middle = d.middle; first = given_less _ _ _ d.first c (omega arith); second = given_less _ _ _ d.second c h }

-- The link with its end counted from `by` bytes earlier.
abbrev pub ahead : ℕ → LinkAt → LinkAt
ahead by l = record { link = l.link; next = by + l.next }

-- The bytes before a link do not matter.
pub ends_behind : {t : List ℕ} {at : ℕ} {l : LinkAt} (s : List ℕ) → Ends t at l → Ends (s ++ t) (length s + at) (ahead (length s) l)
ends_behind s d = record {
  middle = length s + d.middle;
  first = given_behind _ _ _ d.first s;
  second = given_behind _ _ _ d.second s;
}

pub no_ends_behind : {t : List ℕ} {at number place : ℕ} (s : List ℕ) → NoEnds t at number place → NoEnds (s ++ t) (length s + at) number place
no_ends_behind s (no_first p) = no_first (refused_behind _ _ _ _ p s)
no_ends_behind s (no_second a p q) = no_second _ (given_behind _ _ _ p s) (refused_behind _ _ _ _ q s)

module _ (n e : ℕ) where
  -- A link by its two numbers.
  pub link_is : {s : List ℕ} {at : ℕ} {l : LinkAt} → Ends s at l
      → read_link n e s at ≡ joins n l.link.0 l.link.1 at (counts e at (gives l))
  unfolding read_link placed and_then
  link_is d = rw (ends_are d) refl

  pub link_is_not : {s : List ℕ} {at number place : ℕ} → NoEnds s at number place → read_link n e s at ≡ refuses number at
  unfolding read_link placed and_then
  link_is_not d = rw (ends_are_not d) refl

  pub link_more : (s t : List ℕ) (at : ℕ) → (read_link n e s at ≡ refuses 8 at → ⊥) → read_link n e (s ++ t) at ≡ read_link n e s at
  link_more s t at h = elim (ends_told s at (read_ends s at) refl) [
    | inl (l, p, d) ↦ link_is (ends_more t d) ∙ sym (link_is d)
    | inr (number, place, p, d) ↦
        link_is_not (no_ends_more t (λ z. h (rw z at (link_is_not d))) d) ∙ sym (link_is_not d)
  ]

  -- The same tests at another place.
  tested : (by at : ℕ) (l : LinkAt) (f g h i : Bool)
      → pick f (refuses 4 (by + at)) (pick g (refuses 4 (by + at)) (pick h (refuses 5 (by + at)) (pick i (refuses 12 (by + at)) (gives (ahead by l)))))
      ≡ and_then (shifted by (pick f (refuses 4 at) (pick g (refuses 4 at) (pick h (refuses 5 at) (pick i (refuses 12 at) (gives l)))))) (λ m. gives (ahead by m))
  unfolding pick and_then shifted
  tested by at l true g h i = refl
  tested by at l false true h i = refl
  tested by at l false false true i = refl
  tested by at l false false false true = refl
  tested by at l false false false false = refl

  pub link_behind : (s t : List ℕ) (at : ℕ)
      → read_link n e (s ++ t) (length s + at) ≡ and_then (shifted (length s) (read_link n e t at)) (λ m. gives (ahead (length s) m))
  unfolding and_then shifted joins counts
  link_behind s t at = elim (ends_told t at (read_ends t at) refl) [
    | inl (l, p, d) ↦
        link_is (ends_behind s d)
        ∙ tested (length s) at l _ _ _ _
        ∙ ap (λ (x : Answer LinkAt). and_then (shifted (length s) x) (λ m. gives (ahead (length s) m))) (sym (link_is d))
    | inr (number, place, p, d) ↦ rw (link_is_not (no_ends_behind s d), link_is_not d) refl
  ]

-- What stands in an accepted link: its ends, where it ends, and that it is counted.
pub record Accepted (n entries : ℕ) (s : List ℕ) (at : ℕ) (l : LinkAt) : Type 0 where
  pub first : l.link.0 < n
  pub second : l.link.1 < n
  pub differ : l.link.0 ≡ l.link.1 → ⊥
  pub counted : entries < entries_most
  pub past : at < l.next
  pub within : l.next ≤ length s
  pub told : Ends s at l

-- A test whose refusal was not given did not hold.
pub pick_gives : {A : Type 0} (t : Bool) (number place : ℕ) (rest : Answer A) (a : A) → pick t (refuses number place) rest ≡ gives a → (t ≡ false) × (rest ≡ gives a)
unfolding pick
pick_gives true number place rest a e = let z : ◌≡◌ {A = ℕ} 0 1 = cc in absurd (omega arith)
pick_gives false number place rest a e = (refl, e)

-- A number of fragments that was not refused.
neither : (f g : Bool) → (f || g) ≡ false → (f ≡ false) × (g ≡ false)
neither true g e = (e, let z : ◌≡◌ {A = ℕ} 0 1 = cc in absurd (omega arith))
neither false g e = (refl, e)

pub size_good : (n : ℕ) → no_size n ≡ false → (n ≡ 0 → ⊥) × (n ≤ fragments_most)
unfolding no_size
size_good n e = let (f, g) = neither (eqb n 0) (ltb fragments_most n) e in (eqb-false n 0 f, ltb-false fragments_most n g)

pub sized_gives : {A : Type 0} (n : ℕ) (rest : Answer A) (x : A) → sized n rest ≡ gives x → (n ≡ 0 → ⊥) × (n ≤ fragments_most) × (rest ≡ gives x)
unfolding sized
sized_gives n rest x e =
    let (f, q) = pick_gives (no_size n) 1 0 rest x e in
    let (z, h) = size_good n f in
    (z, h, q)

-- Past the bounds of n 1 is refused, whatever else there is; within them nothing is.
module _ {A : Type 0} (n : ℕ) (rest : Answer A) where
  pub sized_past : no_size n ≡ true → refuses 1 0 ≡ sized n rest
  unfolding sized
  sized_past h = simp (h, pick_true)

  pub sized_on : no_size n ≡ false → sized n rest ≡ rest
  unfolding sized
  sized_on h = simp (h, pick_false)

  pub sized_within : (n ≡ 0 → ⊥) → n ≤ fragments_most → sized n rest ≡ rest
  unfolding no_size
  sized_within z h = sized_on (simp tests)

-- A link that was given alone was read.
pub link_read : (n entries : ℕ) (s : List ℕ) (at : ℕ) (l : LinkAt) → scan_link n entries s at ≡ gives l → read_link n entries s at ≡ gives l
unfolding scan_link
link_read n entries s at l e = (sized_gives n (read_link n entries s at) l e).2

-- The ends of a link that was not refused for them.
pub joins_gives : {A : Type 0} (n a b at : ℕ) (rest : Answer A) (x : A) → joins n a b at rest ≡ gives x
    → (a < n) × (b < n) × (a ≡ b → ⊥) × (rest ≡ gives x)
unfolding joins
joins_gives n a b at rest x p =
    let (f, q) = pick_gives (leb n a) 4 at _ x p in
    let (g, r) = pick_gives (leb n b) 4 at _ x q in
    let (h, s) = pick_gives (eqb a b) 5 at _ x r in
    (leb-false n a f, leb-false n b g, eqb-false a b h, s)

-- What an accepted link is.
pub link_accepted : (n entries : ℕ) (s : List ℕ) (at : ℕ) (l : LinkAt) → read_link n entries s at ≡ gives l → Accepted n entries s at l
unfolding read_link placed and_then counts
link_accepted n entries s at l e = go (read_ends s at) refl e
  where
    go : (x : Answer LinkAt) → read_ends s at ≡ x
        → and_then (placed at x) (λ m. joins n m.link.0 m.link.1 at (counts entries at (gives m))) ≡ gives l
        → Accepted n entries s at l
    go (refuses number place) p q = let z : ◌≡◌ {A = ℕ} 0 1 = cc in absurd (omega arith)
    go (gives m) p q =
        let (f, g, h, r) = joins_gives n m.link.0 m.link.1 at _ l q in
        let (k, u) = pick_gives (leb entries_most entries) 12 at (gives m) l r in
        let z : m ≡ l = cc in
        let d = ends_of s at m p in
        let w = ends_within d in
        let it : Accepted n entries s at m = record {
          first = f;
          second = g;
          differ = h;
          counted = leb-false entries_most _ k;
          past = w.0;
          within = w.1;
          told = d;
        } in
        rw z at it

pub link_told_lem : (n entries : ℕ) (s : List ℕ) (at : ℕ) (l : LinkAt) → scan_link n entries s at ≡ gives l → Accepted n entries s at l
link_told_lem n entries s at l e = link_accepted n entries s at l (link_read n entries s at l e)

-- The tests of a link whose numbers were read refuse it where it begins, and not for its end.
tests_refuse : (at : ℕ) (l : LinkAt) (number place : ℕ) (f g h i : Bool)
    → pick f (refuses 4 at) (pick g (refuses 4 at) (pick h (refuses 5 at) (pick i (refuses 12 at) (gives l)))) ≡ refuses number place
    → (place ≡ at) × (number ≡ 8 → ⊥)
unfolding pick
tests_refuse at l number place true g h i e = let z : 4 ≡ number = cc in (cc, λ y. omega arith)
tests_refuse at l number place false true h i e = let z : 4 ≡ number = cc in (cc, λ y. omega arith)
tests_refuse at l number place false false true i e = let z : 5 ≡ number = cc in (cc, λ y. omega arith)
tests_refuse at l number place false false false true e = let z : 12 ≡ number = cc in (cc, λ y. omega arith)
tests_refuse at l number place false false false false e = absurd (never_both refl e)

-- What a refused link is: both numbers are there, or one is refused.
pub link_refused : (n e : ℕ) (s : List ℕ) (at number place : ℕ) → read_link n e s at ≡ refuses number place
    → (place ≡ at) × (((l : LinkAt) × Ends s at l × (number ≡ 8 → ⊥)) ⊎ ((p : ℕ) × NoEnds s at number p))
unfolding joins counts
link_refused n e s at number place r = elim (ends_told s at (read_ends s at) refl) [
  | inl (l, p, d) ↦
      let (z, k) = tests_refuse at l number place (leb n l.link.0) (leb n l.link.1) (eqb l.link.0 l.link.1) (leb entries_most e) (sym (link_is n e d) ∙ r) in
      (z, inl (l, d, k))
  | inr (k, q, p, d) ↦
      let y = sym (link_is_not n e d) ∙ r in
      let z : k ≡ number = cc in
      (cc, inr (q, rw z at d))
]
