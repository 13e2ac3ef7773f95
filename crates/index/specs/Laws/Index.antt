-- The index of words: the way to a word, that a word found nowhere on its way is not noted, and that a word stored keeps the index.
-- Assumes nothing.
use Rattle.std.specs.Prelude.{ℕ, suc, ◌+◌, ◌-◌, ◌*◌, ◌/◌, ◌%◌, ◌≤◌, ◌<◌, min, ◌≡◌, refl, List, ◌≢◌, length, get_or, set}
use Rattle.std.proofs.Common.{sym, ap, ◌∙◌, arith, mul-le-mul_right, lt_of_lt_of_le, length-set, get_or-set_same, get_or-set_other, drop-set-lt}
use Rattle.std.proofs.Math.Decide.{ℕ_discrete, dec_lt}
use Rattle.std.proofs.Math.ListN.{get_or-eq_default}
use Rattle.std.proofs.lemmas.List.{take-set-le}
use Rattle.index.specs.Index.{flag, home_of, Way, Place, Indexed, In, Outside}

-- The high part of a product is less than its second factor.
pub high_part : (x m : ℕ) → x < 4294967296 → 0 < m → x * m / 4294967296 < m
high_part x m l s = omega (arith, mul-le-mul_right {m = suc x} {n = 4294967296} m l)

-- A home is one of the slots.
pub home_in : (size w : ℕ) → 0 < size → home_of size w < size
unfolding home_of
home_in size w s =
    let h = high_part (w * 2654435769 % 4294967296) (size - size / 8) (omega arith) (omega arith) in
    let l : size - size / 8 ≤ size = omega arith in
    lt_of_lt_of_le h l

pub home_most : (size w : ℕ) → home_of size w ≤ size
unfolding home_of
home_most size w = elim (dec_lt 0 size) [
  | yes s ↦ let h = home_in size w s in omega arith
  | no s ↦ let e : size ≡ 0 = omega arith in rw e (omega arith)
]

-- The way so far.
module _ {at size : ℕ} {f : List ℕ} {w : ℕ} where
  pub way_none : Way at size f w (home_of size w)
  way_none = record { home = omega arith; filled = λ j h l. absurd (omega arith); other = λ j h l. absurd (omega arith) }

  pub way_more : {i : ℕ} → Way at size f w i → get_or f (at + i) 0 ≢ 0 → get_or f (at + i) 0 % flag ≢ w → Way at size f w (i + 1)
  way_more {i} W d e = record {
    home = omega (arith, W.home);
    filled = λ j h l. elim (ℕ_discrete j i) [
      | yes q ↦ rw q d
      | no q ↦ W.filled j h (omega arith)
    ];
    other = λ j h l. elim (ℕ_discrete j i) [
      | yes q ↦ rw q e
      | no q ↦ W.other j h (omega arith)
    ];
  }

-- The slots end, or the table: past it a slot is empty.
pub place_end : {at size : ℕ} {f : List ℕ} {w i : ℕ} → i ≤ size → Way at size f w i → min size (length f - at) ≤ i → Place at size f w i
place_end {at} {f = f} {i = i} l W p = record {
  in_range = l;
  way = W;
  ends = λ h d. absurd (d (get_or-eq_default f 0 {n = at + i} (omega arith)));
}

module _ {at size : ℕ} {f : List ℕ} {w i : ℕ} (I : Indexed at size f) (P : Place at size f w i) where
  -- A word whose way ends before it is met is not noted.
  pub not_noted : (i < size → get_or f (at + i) 0 ≡ 0) → In at size f w → ⊥
  not_noted z x =
      let p = x.slot in
      let W = I.way p x.in_range x.some in
      let same : home_of size (get_or f (at + p) 0 % flag) ≡ home_of size w = ap (home_of size) x.is in
      elim (dec_lt p i) [
        | yes l ↦ P.way.other p (omega (arith, W.home, same)) l x.is
        | no l ↦ elim (ℕ_discrete i p) [
          | yes e ↦ x.some (ap (λ j. get_or f (at + j) 0) (sym e) ∙ z (omega (arith, x.in_range)))
          | no e ↦ W.filled i (omega (arith, P.way.home, same)) (omega arith) (z (omega (arith, x.in_range)))
        ]
      ]

  pub is_noted : i < size → get_or f (at + i) 0 ≢ 0 → In at size f w
  is_noted l d = record { slot = i; in_range = l; some = d; is = P.ends l d }

-- No way leads on from where another ends.
beyond : {at size : ℕ} {f : List ℕ} {w i j : ℕ} → Place at size f w i → Place at size f w j → i < j → ⊥
beyond {i = i} P Q l =
    Q.way.other i P.way.home l (P.ends (omega (arith, Q.in_range)) (Q.way.filled i P.way.home l))

-- A word has one place.
pub place_decided : {at size : ℕ} {f : List ℕ} {w i j : ℕ} → Place at size f w i → Place at size f w j → i ≡ j
place_decided {at} {size} {f} {w} {i} {j} P Q = elim (ℕ_discrete i j) [
  | yes e ↦ e
  | no d ↦ elim (dec_lt i j) [
    | yes l ↦ absurd (beyond P Q l)
    | no l ↦ absurd (beyond Q P (omega arith))
  ]
]

-- A word is noted once.
pub one_slot : {at size : ℕ} {f : List ℕ} → Indexed at size f → (i j : ℕ) → i < size → j < size → get_or f (at + i) 0 ≢ 0 → get_or f (at + j) 0 ≢ 0
    → get_or f (at + i) 0 % flag ≡ get_or f (at + j) 0 % flag → i ≡ j
one_slot {at} {size} {f} I i j hi hj di dj e =
    let U = I.way i hi di in
    let W' = I.way j hj dj in
    let same = ap (home_of size) e in
    elim (ℕ_discrete i j) [
      | yes q ↦ q
      | no q ↦ elim (dec_lt i j) [
        | yes l ↦ absurd (W'.other i (omega (arith, U.home, same)) l e)
        | no l ↦ absurd (U.other j (omega (arith, W'.home, same)) (omega arith) (sym e))
      ]
    ]

-- No word is noted where every slot is empty.
pub indexed_none : {at size : ℕ} {f : List ℕ} → at + size ≤ length f → ((i : ℕ) → i < size → get_or f (at + i) 0 ≡ 0) → Indexed at size f
indexed_none l z = record { long = l; way = λ i h d. absurd (d (z i h)) }

-- The index stays where its slots stay.
pub indexed_same : {at size : ℕ} {f f' : List ℕ} → length f' ≡ length f → ((i : ℕ) → i < size → get_or f' (at + i) 0 ≡ get_or f (at + i) 0) → Indexed at size f → Indexed at size f'
indexed_same {at} {size} {f} {f'} n e I = record {
  long = omega (arith, n, I.long);
  way = λ i h d.
      let W = I.way i h (rw (← e i h) d) in
      rw (e i h) (record {
        home = W.home;
        filled = λ j a l. rw (e j (omega arith)) (W.filled j a l);
        other = λ j a l. rw (e j (omega arith)) (W.other j a l);
      });
}

-- One word stored: in an empty slot at the end of its way, or over itself.
module _ {at size : ℕ} {f : List ℕ} (I : Indexed at size f) (i x : ℕ) (h : i < size) where
  set_slot : get_or (set f (at + i) x) (at + i) 0 ≡ x
  set_slot = get_or-set_same f (at + i) x 0 (omega (arith, I.long))

  set_other : (j : ℕ) → j ≢ i → get_or (set f (at + i) x) (at + j) 0 ≡ get_or f (at + j) 0
  set_other j d = get_or-set_other f (at + i) (at + j) x 0 (λ e. d (omega arith))

  module _ (some : x ≢ 0) (over : get_or f (at + i) 0 ≢ 0 → x % flag ≡ get_or f (at + i) 0 % flag) where
    -- No way leads over the slot but where it held the same word.
    way_set : (w k : ℕ) → Way at size f w k → Way at size (set f (at + i) x) w k
    way_set w k W = record {
      home = W.home;
      filled = λ j a l. elim (ℕ_discrete j i) [
        | yes e ↦ rw (e, set_slot) some
        | no d ↦ rw (set_other j d) (W.filled j a l)
      ];
      other = λ j a l. elim (ℕ_discrete j i) [
        | yes e ↦ rw (e, set_slot, over (rw (← e) (W.filled j a l)), ← e) (W.other j a l)
        | no d ↦ rw (set_other j d) (W.other j a l)
      ];
    }

    pub set_indexed : Way at size f (x % flag) i → Indexed at size (set f (at + i) x)
    set_indexed W' = record {
      long = simp length-set I.long;
      way = λ j l d. elim (ℕ_discrete j i) [
        | yes e ↦ rw (e, set_slot) (way_set (x % flag) i W')
        | no q ↦ rw (set_other j q) (way_set (get_or f (at + j) 0 % flag) j (I.way j l (rw (← set_other j q) d)))
      ];
    }

-- What is written.
pub outside_none : {at size : ℕ} {f : List ℕ} → Outside at size f f
outside_none = record { same_long = refl; before = refl; past = refl }

pub outside_set : {at size : ℕ} {f g : List ℕ} (i x : ℕ) → i < size → Outside at size f g → Outside at size f (set g (at + i) x)
outside_set {at} {size} {f} {g} i x h o = record {
  same_long = length-set g (at + i) x ∙ o.same_long;
  before = take-set-le at g (at + i) x (omega arith) ∙ o.before;
  past = drop-set-lt (at + size) g (at + i) x (omega arith) ∙ o.past;
}
