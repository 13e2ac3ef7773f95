-- What of a block decides its answer: the bytes up to the first bad link, and the parts that a cut makes.
-- Assumes nothing.
use Rattle.std.specs.Prelude.{List, ◌≡◌, refl, ℕ, zero, suc, ◌+◌, ◌-◌, ◌≤◌, ◌<◌, length, take, drop}
use Rattle.std.proofs.Common.{inl, inr, sym, ap, ◌∙◌, arith, length-take, length-drop, take-append-drop, length-take-le}
use Rattle.std.proofs.Math.Decide.{ℕ_discrete, dec_le}
use Rattle.std.proofs.Math.Seq.{take-length}
use Rattle.base.specs.Answer.{Answer, gives, refuses}
use Rattle.numbers.specs.Number.{groups_most, Numeral, read_number}
use Rattle.numbers.specs.Words.{seen}
use Rattle.numbers.proofs.Theorems.{number_seen, number_within, number_short, number_few, number_none}
use Rattle.lists.specs.List.{and_then, before, LinkAt, read_ends, read_link, links_at, cut_at}
use Rattle.lists.specs.Words.{seen_second, seen_link}
use Rattle.lists.specs.Laws.Numbers.{given_less, refused_less}
use Rattle.lists.specs.Laws.Link.{Ends, NoEnds, no_first, no_second, ends_are, ends_are_not, ends_told, ends_within, ends_less, ends_behind, no_ends_behind, link_is, link_is_not, link_accepted, link_refused, never_both}
use Rattle.lists.specs.Laws.Block.{links_go, links_stop, stopped}
use Rattle.lists.specs.Laws.File.{cut_on, cut_here, cut_all}

-- What is looked at of a link: up to its end, or up to the end of the number that is refused.
seen_ends : {s : List ℕ} {at : ℕ} {l : LinkAt} → Ends s at l → seen_link s at ≡ l.next
unfolding seen_link seen_second
seen_ends d = rw d.first (number_seen _ _ _ d.second)

seen_past : (s : List ℕ) (at : ℕ) → at ≤ seen s at
unfolding seen
seen_past s at = omega arith

link_past : (s : List ℕ) (at : ℕ) → at ≤ seen_link s at
unfolding seen_link seen_second
link_past s at = go (read_number s at) refl
  where
    go : (x : Answer Numeral) → read_number s at ≡ x → at ≤ seen_second s at x
    go (gives a) e = omega (arith, seen_past s a.next, (number_within s at a e).0)
    go (refuses number place) e = seen_past s at

-- At most the bytes of two numbers.
pub second_short : (s : List ℕ) (at : ℕ) (x : Answer Numeral) → read_number s at ≡ x → seen_second s at x ≤ at + groups_most + groups_most
unfolding seen_second
second_short s at (gives a) e = omega (arith, number_few s a.next, number_short s at a e)
second_short s at (refuses number place) e = omega (arith, number_few s at)

no_ends_less : (s : List ℕ) (at c number place : ℕ) → (number ≡ 8 → ⊥) → seen_link s at ≤ c → NoEnds s at number place → NoEnds (take c s) at number place
unfolding seen_link seen_second
no_ends_less s at c number place k h (no_first p) = no_first (refused_less _ _ _ _ p k c (rw p at h))
no_ends_less s at c number place k h (no_second a p q) =
    let g : seen s a.next ≤ c = (rw p at h) in
    no_second a (given_less _ _ _ p c (omega (arith, seen_past s a.next))) (refused_less _ _ _ _ q k c g)

-- The bytes of a bad link that are looked at are there, and its refusal stands in any bytes that begin so.
link_less : (n e : ℕ) (s : List ℕ) (at c number place : ℕ) → (number ≡ 8 → ⊥) → seen_link s at ≤ c → read_link n e s at ≡ refuses number place
    → (read_link n e (take c s) at ≡ refuses number place) × (at < length (take c s))
link_less n e s at c number place k h r = elim (link_refused n e s at number place r).1 [
  | inl (l, d, m) ↦
      let g = ends_less c (omega (arith, seen_ends d)) d in
      let w = ends_within g in
      (link_is n e g ∙ sym (link_is n e d) ∙ r, omega arith)
  | inr (p, d) ↦
      let g = no_ends_less s at c number p k h d in (
        link_is_not n e g ∙ sym (link_is_not n e d) ∙ r,
        elim (dec_le (length (take c s)) at) [
          | yes l ↦ absurd (k (let z = ends_are_not g in let y = ends_are_not (no_first (number_none (take c s) at l)) in cc))
          | no l ↦ omega arith
        ],
      )
]

-- A refusal stands at a link, at or past the beginning.
place_past : (n : ℕ) (s : List ℕ) (k e at number place : ℕ) → length s - at ≤ k → links_at n e s at ≡ refuses number place → at ≤ place
place_past n s zero e at number place h r = omega (arith, (stopped n s e at number place r).0)
place_past n s (suc k) e at number place h r = elim (stopped n s e at number place r).1 [
  | inl p ↦ omega (arith, (link_refused n e s at number place p).0)
  | inr (l, p, q) ↦
      let a = link_accepted n e s at l p in
      let i = place_past n s k (e + 1) l.next number place (omega arith) q in
      omega arith
]

-- The bytes up to the last that is looked at of the first bad link decide a refusal.
pub links_less : (n : ℕ) (s : List ℕ) (c k e at number place : ℕ) → length s - at ≤ k → (number ≡ 8 → ⊥) → seen_link s place ≤ c
    → links_at n e s at ≡ refuses number place → links_at n e (take c s) at ≡ refuses number place
unfolding and_then before
links_less n s c zero e at number place h m g r = absurd (omega (arith, (stopped n s e at number place r).0))
links_less n s c (suc k) e at number place h m g r = elim (stopped n s e at number place r).1 [
  | inl p ↦
      let z = (link_refused n e s at number place p).0 in
      let (q, l) = link_less n e s at c number place m (rw z at g) p in
      links_stop n (take c s) e at number place l q
  | inr (l, p, q) ↦
      let a = link_accepted n e s at l p in
      let i = place_past n s (length s) (e + 1) l.next number place (omega arith) q in
      let d = ends_less c (omega (arith, link_past s place)) a.told in
      let f : read_link n e (take c s) at ≡ gives l = link_is n e d ∙ sym (link_is n e a.told) ∙ p in
      links_go n (take c s) e at l f ∙ rw (links_less n s c k (e + 1) l.next number place (omega arith) m g q) refl
]

-- The cut is the first link from `from` on that the end cuts, or the end: what holds at both holds at the cut.
module _ (s : List ℕ) (from : ℕ) (P : ℕ → Type 0)
    (here : (at place : ℕ) → from ≤ at → at ≤ length s → NoEnds s at 8 place → P at) (all : P (length s)) where
  cut_at_lem : (k at : ℕ) → from ≤ at → at ≤ length s → length s - at < k → P (cut_at s at)
  cut_at_lem zero at f h g = absurd (omega arith)
  cut_at_lem (suc k) at f h g = elim (ends_told s at (read_ends s at) refl) [
    | inl (l, p, d) ↦ let w = ends_within d in (rw (cut_on d) at (cut_at_lem k l.next (omega arith) (omega arith) (omega arith)))
    | inr (number, place, p, d) ↦ elim (ℕ_discrete number 8) [
      | yes z ↦ (rw (cut_here d z) at (here at place f h (rw z at d)))
      | no z ↦ (rw (cut_all d z) at all)
    ]
  ]

module _ (s : List ℕ) (at : ℕ) (h : at ≤ length s) where
  pub cut_within : cut_at s at ≤ length s
  cut_within = cut_at_lem s at (λ c. c ≤ length s) (λ c place f l d. l) (omega arith) (suc (length s)) at (omega arith) h (omega arith)

  cut_past : at ≤ cut_at s at
  cut_past = cut_at_lem s at (λ c. at ≤ c) (λ c place f l d. f) h (suc (length s)) at (omega arith) h (omega arith)

  -- Bytes are left behind the cut only where they are the beginning of a link.
  cut_stops : cut_at s at < length s → (place : ℕ) × NoEnds s (cut_at s at) 8 place
  cut_stops =
      cut_at_lem s at (λ c. c < length s → (place : ℕ) × NoEnds s c 8 place) (λ c place f l d g. (place, d)) (λ g. absurd (omega arith))
      (suc (length s)) at (omega arith) h (omega arith)

  -- They are refused by themselves, at their first byte.
  pub cut_left : (n e : ℕ) → cut_at s at < length s → links_at n e (drop (cut_at s at) s) 0 ≡ refuses 8 0
  cut_left n e g =
      let c = cut_at s at in
      let (place, d) = cut_stops g in
      let u = take-append-drop c s in
      let v : length (take c s) + 0 ≡ c = rw (length-take-le c s (omega arith)) (omega arith) in
      let l : 0 < length (drop c s) = rw length-drop (omega arith) in
      elim (ends_told (drop c s) 0 (read_ends (drop c s) 0) refl) [
        | inl (m, p, f) ↦ absurd (never_both (rw (u, v) at (ends_are (ends_behind (take c s) f))) (ends_are_not d))
        | inr (number, q, p, f) ↦
            let x = (rw (u, v) at (ends_are_not (no_ends_behind (take c s) f))) in
            let y = ends_are_not d in
            let z : number ≡ 8 = cc in
            links_stop n (drop c s) e 0 8 0 l (link_is_not n e (rw z at f))
      ]

-- No link of the bytes before the cut is cut.
module _ (n : ℕ) (s : List ℕ) (c : ℕ) where
  cut_sound : (k e at place : ℕ) → cut_at s at ≡ c → at ≤ length s → length s - at < k → links_at n e (take c s) at ≡ refuses 8 place → ⊥
  cut_sound zero e at place y h g r = omega arith
  cut_sound (suc k) e at place y h g r = elim (ends_told s at (read_ends s at) refl) [
    | inl (l, p, d) ↦
        let w = ends_within d in
        let z : cut_at s l.next ≡ c = cut_on d ∙ y in
        let b = ends_less c (omega (arith, cut_past s l.next w.1)) d in
        elim (stopped n (take c s) e at 8 place r).1 [
          | inl q ↦ elim (link_refused n e (take c s) at 8 place q).1 [
            | inl (m, u, v) ↦ v refl
            | inr (m, u) ↦ never_both (ends_are b) (ends_are_not u)
          ]
          | inr (m, q, v) ↦
              let u = ends_are (link_accepted n e (take c s) at m q).told in
              let x = ends_are b in
              let m-l : m ≡ l = cc in
              cut_sound k (e + 1) l.next place z w.1 (omega arith) (rw m-l at v)
        ]
    | inr (number, q, p, d) ↦ elim (ℕ_discrete number 8) [
      | yes z ↦ omega (arith, cut_here d z, (stopped n (take c s) e at 8 place r).0, length-take c s)
      | no z ↦
          let u : take c s ≡ s = ap (λ (k : ℕ). take k s) (sym (cut_all d z ∙ y)) ∙ take-length s in
          let v = (rw u at r) in
          let x = links_stop n s e at number at (stopped n s e at 8 place v).0 (link_is_not n e d) in
          z (cc)
    ]
  ]

  pub cut_whole : (e at place : ℕ) → cut_at s at ≡ c → at ≤ length s → links_at n e (take c s) at ≡ refuses 8 place → ⊥
  cut_whole e at place y h r = cut_sound (suc (length s)) e at place y h (omega arith) r
