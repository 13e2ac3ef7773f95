-- Clearing a part of a table.
-- Assumes nothing.
use Rattle.std.specs.Prelude.{ℕ, suc, ◌+◌, ◌-◌, ◌≤◌, ◌<◌, min, max, ◌≡◌, List, ◌++◌, T, length, get_or, set, take, drop, replicate}
use Rattle.std.proofs.Common.{sym, ap, ◌∙◌, append_assoc, arith, add-one, take-append-drop, length-append, length-take, length-drop, drop_of_length-le, drop-cons, drop-drop, take_at, drop_at, get_or-take, get_or-drop}
use Rattle.std.proofs.Math.Decide.{dec_le}
use Rattle.std.proofs.lemmas.List.{length-replicate, get_or-replicate, set_at}
use Rattle.std.proofs.Math.ListN.{get_or-append}
use Rattle.state.specs.Layout.{wiped}
use Rattle.state.specs.Test.{all_zero}
use Rattle.state.proofs.Laws.Lists.{zeros, zeros_between}

-- A part that lies within the table,
pub wiped_is : (from to : ℕ) (l : List ℕ) → from ≤ to → to ≤ length l → wiped from to l ≡ take from l ++ (replicate (to - from) 0 ++ drop to l)
unfolding wiped
wiped_is from to l b h =
    let m : min to (length l) ≡ to = omega arith in
    let x : max from to ≡ to = omega arith in
    rw (m, x)

-- one that ends before it begins,
pub wiped_off : (from to : ℕ) (l : List ℕ) → min to (length l) ≤ from → l ≡ wiped from to l
unfolding wiped
wiped_off from to l h =
    let z : min to (length l) - from ≡ 0 = omega arith in
    rw z (sym (take-append-drop from l) ∙ ap (λ r. take from l ++ r) (same (dec_le to from)))
  where
    same : Dec (to ≤ from) → drop from l ≡ drop (max from to) l
    same (yes g) = let x : max from to ≡ from = omega arith in rw x
    same (no g) = drop_of_length-le l {i = from} (omega arith) ∙ sym (drop_of_length-le l {i = max from to} (omega arith))

-- and one that goes on behind it.
pub wiped_end : (from to : ℕ) (l : List ℕ) → from ≤ min to (length l) → wiped from (min to (length l)) l ≡ wiped from to l
unfolding wiped
wiped_end from to l h =
    let m : min (min to (length l)) (length l) ≡ min to (length l) = omega arith in
    rw m (ap (λ r. take from l ++ (replicate (min to (length l) - from) 0 ++ r)) (same (dec_le to (length l))))
  where
    same : Dec (to ≤ length l) → drop (max from (min to (length l))) l ≡ drop (max from to) l
    same (yes g) = let x : min to (length l) ≡ to = omega arith in rw x
    same (no g) = drop_of_length-le l {i = max from (min to (length l))} (omega arith) ∙ sym (drop_of_length-le l {i = max from to} (omega arith))

pub wiped_none : (from : ℕ) (l : List ℕ) → l ≡ wiped from from l
wiped_none from l = wiped_off from from l (omega arith)

-- A loop that cleared the words up to i ends.
pub clear_ends : (from to i e : ℕ) (l : List ℕ) → e ≡ min to (length l) → from ≤ i → i ≤ max from e → e ≤ i → wiped from i l ≡ wiped from to l
clear_ends from to i e l q b h g = elim (dec_le from e) [
  | yes a ↦ let z : i ≡ min to (length l) = omega arith in rw z (wiped_end from to l (omega arith))
  | no a ↦ let z : i ≡ from = omega arith in rw z (sym (wiped_none from l) ∙ wiped_off from to l (omega arith))
]

pub wiped_more : (from m : ℕ) (l : List ℕ) → from ≤ m → m < length l → set (wiped from m l) m 0 ≡ wiped from (m + 1) l
wiped_more from m l b h =
    let P : List ℕ = take from l ++ replicate (m - from) 0 in
    let z : m + 1 - from ≡ m - from + 1 = omega arith in
    ap (λ r. set r m 0) (wiped_is from m l b (omega arith))
    ∙ ap (λ r. set (take from l ++ (replicate (m - from) 0 ++ r)) m 0) (drop-cons l m 0 h)
    ∙ ap (λ r. set r m 0) (sym (append_assoc (take from l) (replicate (m - from) 0) _))
    ∙ set_at P (get_or l m 0) (drop (suc m) l) 0 m (simp (length-append, length-take, length-replicate) (omega arith))
    ∙ append_assoc (take from l) (replicate (m - from) 0) _
    ∙ ap (λ r. take from l ++ r) (sym (zeros (m - from) 1 (m + 1 - from) (drop (suc m) l) z) ∙ ap (λ i. replicate (m + 1 - from) 0 ++ drop i l) (sym (add-one m)))
    ∙ sym (wiped_is from (m + 1) l (omega arith) (omega arith))

-- A part filled with 0 up to its end or the table's.
pub wiped_filled : (from to end : ℕ) (l m : List ℕ) → end ≡ min to (length l) → from < end → m ≡ replicate (length (take (end - from) (drop from l))) 0
    → take from l ++ (m ++ drop (end - from) (drop from l)) ≡ wiped from to l
wiped_filled from to end l m e h z =
    let n : length (take (end - from) (drop from l)) ≡ end - from = simp (length-take, length-drop) (omega arith) in
    let i : from + (end - from) ≡ end = omega arith in
    rw (z, n, drop-drop (end - from) from l, i, ← wiped_is from end l (omega arith) (omega arith), e) (wiped_end from to l (omega arith))

-- The words before and past the part stay.
module _ (from to : ℕ) (l : List ℕ) (b : from ≤ to) (g : to ≤ length l) where
  pub wiped_length : length (wiped from to l) ≡ length l
  wiped_length = rw (wiped_is from to l b g) (simp (length-append, length-take, length-replicate, length-drop) (omega arith))

  pub wiped_front : take from (wiped from to l) ≡ take from l
  wiped_front = rw (wiped_is from to l b g) (take_at (take from l) _ from (simp length-take (omega arith)))

  pub wiped_rest : drop from (wiped from to l) ≡ replicate (to - from) 0 ++ drop to l
  wiped_rest = rw (wiped_is from to l b g) (drop_at (take from l) _ from (simp length-take (omega arith)))

  pub wiped_past : drop to (wiped from to l) ≡ drop to l
  wiped_past =
      let z : to ≡ from + (to - from) = omega arith in
      ap (λ i. drop i (wiped from to l)) z ∙ sym (drop-drop (to - from) from (wiped from to l)) ∙ ap (λ x. drop (to - from) x) wiped_rest
      ∙ drop_at (replicate (to - from) 0) (drop to l) (to - from) (length-replicate (to - from) 0)

  pub wiped_within : (i : ℕ) → from ≤ i → i < to → get_or (wiped from to l) i 0 ≡ 0
  wiped_within i p q =
      let e : i ≡ from + (i - from) = omega arith in
      ap (λ j. get_or (wiped from to l) j 0) e ∙ sym (get_or-drop from (wiped from to l) (i - from) 0) ∙ ap (λ x. get_or x (i - from) 0) wiped_rest
      ∙ get_or-append (replicate (to - from) 0) (drop to l) 0 (i - from) (simp length-replicate (omega arith)) ∙ get_or-replicate (to - from) (i - from) 0 0 (omega arith)

  pub wiped_before : (i : ℕ) → i < from → get_or (wiped from to l) i 0 ≡ get_or l i 0
  wiped_before i h = sym (get_or-take from (wiped from to l) i 0 h) ∙ ap (λ (x : List ℕ). get_or x i 0) wiped_front ∙ get_or-take from l i 0 h

  pub wiped_behind : (i : ℕ) → to ≤ i → get_or (wiped from to l) i 0 ≡ get_or l i 0
  wiped_behind i h =
      let e : i ≡ to + (i - to) = omega arith in
      rw (e, ← get_or-drop to (wiped from to l) (i - to) 0, ← get_or-drop to l (i - to) 0, wiped_past)

-- Words that were 0 are 0 again.
pub wiped_back : (from to : ℕ) (f g : List ℕ) → from ≤ to → to ≤ length f → length g ≡ length f → T (all_zero (drop from (take to f))) → take from g ≡ take from f → drop to g ≡ drop to f → wiped from to g ≡ f
wiped_back from to f g b h l z e d = rw (wiped_is from to g b (omega arith), e, d) (sym (zeros_between from to f b h z))
