-- The laws of numbers, over the definitions alone: what is written is read back, each value has one form, and the reader looks no further
-- than it says.
-- Assumes nothing.
use Rattle.std.specs.Prelude.{ℕ, ◌+◌, ◌-◌, ◌<◌, ◌≤◌, ◌≡◌, refl, List, ◌++◌, ◌⊎◌, eqb, ltb, length, drop}
use Rattle.std.proofs.Common.{arith, ap, ◌∙◌, subst, take-append-drop, take-take}
use Rattle.std.proofs.Math.Decide.{dec_lt}
use Rattle.std.proofs.Math.Path.{sym}
use Rattle.std.proofs.Math.ListN.{take, length-drop}
use Rattle.std.proofs.Math.Seq.{take-length, take-append_seam, drop-append-add, drop-drop, get_or-drop}
use Rattle.base.specs.Pick.{pick, tests}
use Rattle.base.specs.Answer.{gives, refuses}
use Rattle.numbers.specs.Number.{Numeral, groups_most, value_most, at_most, read_up_to, read_number, groups_of, written_number, width_of, write_up_to, write_number}
use Rattle.numbers.specs.Words.{Bytes, seen_groups, seen, Whole, moved}
use Rattle.numbers.proofs.Laws.Reading.{read_end}
use Rattle.numbers.proofs.Laws.Groups.{drop_take, groups_only, seen_few, seen_within, whole_most, moved_most, moved_groups}
use Rattle.numbers.proofs.Laws.Writing.{groups_some}
use Rattle.numbers.proofs.Laws.Most.{number_stands, number_stops, up_to_written, up_to_back}

-- A number that is read.
module _ (s : List ℕ) (at : ℕ) (r : Numeral) (e : read_number s at ≡ gives r) where
  pub number_seen : seen s at ≡ r.next
  unfolding seen
  number_seen = sym (number_stands s at r e).ends

  -- It ends past its beginning, inside the bytes, and has at most the greatest number of groups.
  pub number_within : (at < r.next) × (r.next ≤ length s)
  number_within =
      let a = number_stands s at r e in
      let k = seen_within groups_most (drop at s) in
      let l = length-drop at s in
      (omega (arith, a.ends, a.some), omega (arith, a.ends, a.some))

  pub number_short : r.next ≤ at + groups_most
  number_short = omega (arith, (number_stands s at r e).ends, seen_few groups_most (drop at s))

  -- Its bytes are what the writer would write.
  pub number_form : Bytes s → drop at s ≡ written_number r.value ++ drop r.next s
  unfolding written_number
  number_form y =
      let a = number_stands s at r e in
      let k = seen_groups groups_most (drop at s) in
      let f : take k (drop at s) ≡ groups_of groups_most r.value = a.form (λ i. rw get_or-drop (y (at + i))) in
      sym (take-append-drop k (drop at s)) ∙ rw (f, drop-drop, a.ends)

-- A refusal to read is 7 or 8, at place 0. Of 8, all bytes were looked at.
module _ (s : List ℕ) (at number place : ℕ) (e : read_number s at ≡ refuses number place) where
  pub number_refusal : ((number ≡ 7) ⊎ (number ≡ 8)) × (place ≡ 0)
  number_refusal = let a = number_stops s at number place e in (a.kind, a.nowhere)

  pub number_ended : number ≡ 8 → length s ≤ seen s at
  unfolding seen
  number_ended h = omega (arith, (number_stops s at number place e).all h, length-drop at s)

-- What the reader looks at.

-- It looks at no more bytes than a number has.
pub number_few : (s : List ℕ) (at : ℕ) → seen s at ≤ at + groups_most
unfolding seen
number_few s at = omega (arith, seen_few groups_most (drop at s))

-- A position at or past the end gives 8.
pub number_none : (s : List ℕ) (at : ℕ) → length s ≤ at → read_number s at ≡ refuses 8 0
number_none s at h = sym (read_end s at h)

-- An answer that the end did not decide comes from bytes that are there.
pub number_there : (s : List ℕ) (at : ℕ) → Whole (read_number s at) → seen s at ≤ length s
unfolding seen
number_there s at w =
    elim (dec_lt at (length s)) [
      | yes h ↦ omega (arith, seen_within groups_most (drop at s), length-drop at s)
      | no h ↦ absurd ((subst Whole (number_none s at (omega arith)) w) refl)
    ]

-- Two lists that agree as far as the reader looks in one of them have one answer.
pub number_only : (s t : List ℕ) (at c : ℕ) → seen s at ≤ c → take c s ≡ take c t → Whole (read_number s at) → read_number t at ≡ read_number s at
unfolding read_number read_up_to seen
number_only s t at c h e w =
    ap (at_most value_most)
    (groups_only groups_most 0 (drop at s) (drop at t) at (c - at) (omega arith) (drop_take at c s ∙ ap (drop at) e ∙ sym (drop_take at c t)) (whole_most _ _ w))

-- What follows does not matter, nor whether anything follows.
pub number_more : (s t : List ℕ) (at : ℕ) → Whole (read_number s at) → read_number (s ++ t) at ≡ read_number s at
number_more s t at w = number_only s (s ++ t) at (length s) (number_there s at w) (take-length s ∙ sym (take-append_seam s t)) w

pub number_less : (s : List ℕ) (at c : ℕ) → seen s at ≤ c → Whole (read_number s at) → read_number (take c s) at ≡ read_number s at
number_less s at c h w = number_only s (take c s) at c h (sym (take-take c c s (omega arith))) w

-- The bytes before a number do not matter: positions count from them.
pub number_moved : (k : ℕ) (s t : List ℕ) (at : ℕ) → drop (k + at) s ≡ drop at t → read_number s (k + at) ≡ moved k (read_number t at)
unfolding read_number read_up_to
number_moved k s t at e = rw (e, moved_groups, moved_most)

pub number_behind : (s t : List ℕ) (at : ℕ) → read_number (s ++ t) (length s + at) ≡ moved (length s) (read_number t at)
number_behind s t at = number_moved (length s) (s ++ t) t at (drop-append-add s t at)

-- What is written is read back, value and next position, whatever follows it.

pub number_written : (s : List ℕ) (at v : ℕ) (rest : List ℕ) → v ≤ value_most → drop at s ≡ written_number v ++ rest
    → read_number s at ≡ gives (record { value = v; next = at + length (written_number v) })
unfolding read_number written_number
number_written s at v rest h e = up_to_written (groups_most - 1) value_most (omega arith) s at v rest h e

-- What the writer leaves in the buffer is read back.
pub written_read : (v : ℕ) (buffer : List ℕ) (at end : ℕ) → (write_number v buffer at).answer ≡ gives end
    → read_number (write_number v buffer at).buffer at ≡ gives (record { value = v; next = end })
unfolding read_number write_number
written_read v buffer at end e = up_to_back (groups_most - 1) value_most (omega arith) v buffer at end e

-- What the writer answers, by the number's width.
pub written_wide : (v : ℕ) (buffer : List ℕ) (at : ℕ) → (write_number v buffer at).answer ≡
    pick (eqb (width_of v) 0) (refuses 7 0)
    (pick (ltb (length buffer) (at + width_of v)) (refuses 3 0)
    (gives (at + width_of v)))
unfolding write_number write_up_to width_of written_number
written_wide v buffer at = elim (dec_lt value_most v) [
  | yes h ↦ simp tests
  | no h ↦
      let k : v ≤ value_most = omega arith in
      let s = groups_some (groups_most - 1) v in
      let z : length (groups_of groups_most v) ≡ 0 → ⊥ = λ e. omega arith in
      elim (dec_lt (length buffer) (at + length (groups_of groups_most v))) [
        | yes l ↦ simp tests
        | no l ↦ let m : at + length (groups_of groups_most v) ≤ length buffer = omega arith in simp tests
      ]
]
