-- The steps of telling a part: bytes moved to the front, how far a part is told, what the calls answer.
-- Assumes nothing.
use Rattle.std.specs.Prelude.{◌≡◌, ℕ, suc, ◌+◌, ◌-◌, ◌<◌, ◌≤◌, Bool, true, false, List, [], ◌∷◌, ◌++◌, length, take, drop, set, ◌==◌, ◌≢◌, slice_index, slice_index_or, slice_range, slice_set, refl}
use mathlib.Core.List.{append_assoc}
use Rattle.std.proofs.Math.Path.{sym}
use Rattle.std.proofs.Common.{ap, ◌∙◌, arith, add-zero, add-suc, suc-add, add-one, length-drop, take-suc, get_or-set_other, get_or-drop}
use Rattle.std.proofs.lemmas.List.Edits.{sets, sets-eq}
use Rattle.std.proofs.Math.Seq.{length-sets, length-take-le}
use Rattle.base.specs.Pick.{pick_true, pick_false, tests}
use Rattle.base.specs.Answer.{gives, refuses}
use Rattle.numbers.specs.Number.{Numeral, read_number, put}
use Rattle.numbers.proofs.Theorems.{number_within}
use Rattle.lists.specs.List.{cut_block}
use Rattle.lists.specs.Theorems.{cut_inside}
use Rattle.state.specs.Call.{Left}
use Rattle.state.specs.Take.{take_call}
use Rattle.state.specs.declared.State.{State}
use Rattle.parts.specs.Parts.{wrapped, in_block, place_in, carried, headed_by, open_part, tellable, fed_by, fed, feed_part}

-- A run of stores, and one more; what stands behind it stays.
sets_more : (xs l : List ℕ) (i x : ℕ) → slice_set (sets l i xs) (i + length xs) x ≡ sets l i (xs ++ (x ∷ []))
sets_more [] l i x = rw add-zero refl
sets_more (y ∷ xs) l i x = ap (λ (k : ℕ). set (sets (slice_set l i y) (suc i) xs) k x) (add-suc i (length xs) ∙ sym (suc-add i (length xs))) ∙ sets_more xs (slice_set l i y) (suc i) x

sets_behind : (xs l : List ℕ) (i j : ℕ) → i + length xs ≤ j → slice_index (sets l i xs) j ≡ slice_index l j
sets_behind [] l i j h = refl
sets_behind (y ∷ xs) l i j h = sets_behind xs (slice_set l i y) (suc i) j (omega arith) ∙ get_or-set_other l i j y 0 (omega arith)

-- `i` bytes from `from` on are copied to the front.
pub record Carrying (from len : ℕ) (b : List ℕ) (i : ℕ) (buffer : List ℕ) : Type 0 where
  pub copied : buffer ≡ sets b 0 (take i (drop from b))
  pub upto : i ≤ len - from

module _ (from len : ℕ) (b : List ℕ) (g : from ≤ len) (h : len ≤ length b) where
  pub carry_none : Carrying from len b 0 b
  carry_none = record { copied = refl; upto = omega arith }

  taken : (i : ℕ) → i ≤ len - from → length (take i (drop from b)) ≡ i
  taken i l = length-take-le i (drop from b) (rw length-drop (omega arith))

  module _ {i : ℕ} {buffer : List ℕ} (k : Carrying from len b i buffer) where
    pub carry_length : length buffer ≡ length b
    carry_length = ap length k.copied ∙ length-sets b 0 (take i (drop from b))

    pub carry_more : i < len - from → Carrying from len b (i + 1) (slice_set buffer i (slice_index buffer (from + i)))
    carry_more l =
        let n = taken i k.upto in
        let e : slice_index_or buffer (from + i) 0 ≡ slice_index (drop from b) i
        = ap (λ (c : List ℕ). slice_index c (from + i)) k.copied ∙ sets_behind (take i (drop from b)) b 0 (from + i) (omega arith) ∙ sym (get_or-drop from b i 0) in
        let j : 0 + length (take i (drop from b)) ≡ i = omega arith in
        record {
          copied =
              rw (e, k.copied)
              (ap (λ (m : ℕ). set (sets b 0 (take i (drop from b))) m (slice_index (drop from b) i)) (sym j)
              ∙ sets_more (take i (drop from b)) b 0 (slice_index (drop from b) i)
              ∙ rw (add-one i) (ap (sets b 0) (sym (take-suc (drop from b) i 0 (rw length-drop (omega arith))))));
          upto = omega arith;
        }

    pub carry_all : len - from ≤ i → buffer ≡ carried from len b
    unfolding carried put
    carry_all l =
        let e : i ≡ len - from = omega (arith, k.upto) in
        let n = taken (len - from) (omega arith) in
        k.copied ∙ rw e (sets-eq (slice_range b from len) b 0 (omega arith) ∙ append_assoc [] (slice_range b from len) _)

-- How far a part is told.
module _ (len : ℕ) (last : Bool) (b : List ℕ) where
  pub tell_all : last ≡ true → (len ≡ tellable len last b) × (len ≤ len)
  unfolding tellable
  tell_all e = (rw e (sym (pick_true _ _)), omega arith)

  pub tell_cut : (r : ℕ) → len ≤ length b → last ≡ false → r ≡ cut_block (take len b) → (r ≡ tellable len last b) × (r ≤ len)
  unfolding tellable
  tell_cut r h e f = (rw e (f ∙ sym (pick_false _ _)), omega (arith, cut_inside (take len b), length-take-le len b h))

-- The place in the file.
module _ (offset number place : ℕ) where
  pub place_block : (r : ℕ) → in_block number ≡ true → r ≡ wrapped (offset + place) → r ≡ place_in offset number place
  unfolding place_in
  place_block r e f = rw e (f ∙ sym (pick_true _ _))

  pub place_none : in_block number ≡ false → 0 ≡ place_in offset number place
  unfolding place_in
  place_none e = rw e (sym (pick_false _ _))

-- The header.
module _ (len : ℕ) (b : List ℕ) where
  pub open_short : length b < len → record { answer = refuses 3 0; buffer = b } ≡ open_part len b
  unfolding open_part
  open_short h = simp tests

  module _ (h : len ≤ length b) where
    pub header_within : (a : Numeral) → read_number (take len b) 0 ≡ gives a → a.next ≤ len
    header_within a e = omega (arith, (number_within (take len b) 0 a e).1, length-take-le len b h)

    pub open_read : (a : Numeral) (b' : List ℕ) → read_number (take len b) 0 ≡ gives a → b' ≡ carried a.next len b
        → record { answer = gives (record { fragments = a.value; begins = a.next; have = len - a.next }); buffer = b' } ≡ open_part len b
    unfolding open_part headed_by
    open_read a b' e f = rw (e, f) (simp tests)

    pub open_bad : (number place : ℕ) → read_number (take len b) 0 ≡ refuses number place → record { answer = refuses number place; buffer = b } ≡ open_part len b
    unfolding open_part headed_by
    open_bad number place e = rw e (simp tests)

-- A part.
module _ (s : State) (f h b : List ℕ) (len offset : ℕ) (last : Bool) where
  pub feed_short : length b < len → record { left = record { answer = refuses 3 0; state = s; frag = f; held = h }; buffer = b } ≡ feed_part s f h b len offset last
  unfolding feed_part
  feed_short g = simp tests

  module _ (g : len ≤ length b) (end : ℕ) (t : end ≡ tellable len last b) (l : Left (Unit {0})) (k : l ≡ take_call s f h (take end b)) where
    pub feed_on : l.answer ≡ gives tt → (offset' : ℕ) (b' : List ℕ) → offset' ≡ wrapped (offset + end) → b' ≡ carried end len b
        → record { left = record { answer = gives (record { offset = offset'; have = len - end }); state = l.state; frag = l.frag; held = l.held }; buffer = b' } ≡ feed_part s f h b len offset last
    unfolding feed_part fed fed_by
    feed_on e offset' b' p q = rw (p, q) (simp tests (rw (← t, ← k, e) refl))

    pub feed_bad : (number place place' : ℕ) → l.answer ≡ refuses number place → place' ≡ place_in offset number place
        → record { left = record { answer = refuses number place'; state = l.state; frag = l.frag; held = l.held }; buffer = b } ≡ feed_part s f h b len offset last
    unfolding feed_part fed fed_by
    feed_bad number place place' e p = rw p (simp tests (rw (← t, ← k, e) refl))

-- The refusals of a block.
pub block_is : (m number : ℕ) → number ≡ m → true ≡ in_block m → true ≡ in_block number
block_is m number e b = rw e b

pub block_last : (number : ℕ) → (number ≢ 4) → (number ≢ 5) → (number ≢ 7) → (number ≢ 8) → (number == 12) ≡ in_block number
unfolding in_block
block_last number a b c d = simp tests
