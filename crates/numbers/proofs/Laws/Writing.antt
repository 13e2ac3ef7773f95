-- Bytes put into a buffer, all groups of a number, and the writer's answers.
-- Assumes nothing.
use Rattle.std.specs.Prelude.{ℕ, zero, suc, ◌+◌, ◌-◌, ◌^◌, ◌/◌, ◌%◌, ◌<◌, ◌≤◌, ◌≡◌, refl, List, [], ◌∷◌, set}
use native.Mathlib.Omega.{arith}
use Rattle.std.proofs.Math.Decide.{dec_le, dec_lt}
use Rattle.std.proofs.Common.{add-zero, add-suc, suc-add, pow-suc, add-one, sym, ◌∙◌, append_assoc, take-append-drop, length-append, length-take, length-drop, length-set, take-suc-set, drop-set-lt}
use Rattle.std.proofs.Math.Path.{ap}
use Rattle.std.proofs.Math.ListN.{length}
use Rattle.base.specs.Pick.{pick_all, tests}
use Rattle.base.specs.Answer.{Answer, gives, refuses}
use Rattle.numbers.specs.Number.{groups_most, value_most, put, groups_of, written_number, width_of, write_up_to, write_number}
use Rattle.numbers.specs.Writing.{all_groups}

pub put_none : (s : List ℕ) (at : ℕ) → put s at [] ≡ s
unfolding put
put_none s at = simp (add-zero, take-append-drop)

-- The first byte put is a store, and the others are put behind it.
put_more : (s : List ℕ) (at b : ℕ) (bytes : List ℕ) → at < length s → put (set s at b) (at + 1) bytes ≡ put s at (b ∷ bytes)
unfolding put
put_more s at b bytes h =
    let i : at < suc (at + length bytes) = omega arith in
    simp (add-one, add-suc, suc-add, take-suc-set s at b h, drop-set-lt (suc (at + length bytes)) s at b i, append_assoc)

pub length_put : (s : List ℕ) (at : ℕ) (bytes : List ℕ) → at + length bytes ≤ length s → length (put s at bytes) ≡ length s
unfolding put
length_put s at bytes h = simp (length-append, length-take, length-drop) (omega arith)

groups_few : (groups v : ℕ) → length (groups_of groups v) ≤ groups
unfolding groups_of
groups_few zero v = omega arith
groups_few (suc groups) v =
    pick_all (λ (l : List ℕ). length l ≤ suc groups) _ _ _ (omega arith) (omega (arith, groups_few groups (v / 128)))

pub groups_some : (further v : ℕ) → 0 < length (groups_of (suc further) v)
unfolding groups_of
groups_some further v = pick_all (λ (l : List ℕ). 0 < length l) _ _ _ (omega arith) (omega arith)

-- A number that fits two numbers of groups has the same in both.
groups_same : (g h v : ℕ) → v < 128 ^ suc g → v < 128 ^ suc h → groups_of (suc g) v ≡ groups_of (suc h) v
unfolding groups_of
groups_same zero zero v p q = refl
groups_same zero (suc h) v p q = let k : v < 128 = p in simp tests
groups_same (suc g) zero v p q = let k : v < 128 = q in simp tests
groups_same (suc g) (suc h) v p q =
    elim (dec_lt v 128) [
      | yes k ↦ simp tests
      | no k ↦
          let l : 128 ≤ v = omega arith in
          simp tests (ap (◌∷◌ (v % 128 + 128)) (groups_same g h (v / 128) (omega (arith, pow-suc 128 (suc g))) (omega (arith, pow-suc 128 (suc h)))))
    ]

grows : (v : ℕ) → v < 128 ^ suc v
grows zero = omega arith
grows (suc v) = omega (arith, pow-suc 128 (suc v), grows v)

-- All groups of a number, by the rule that they are written by.
all_groups_lem : (further v : ℕ) → v < 128 ^ suc further → groups_of (suc further) v ≡ all_groups v
unfolding all_groups
all_groups_lem further v h = groups_same further v v h (grows v)

pub all_last : (v : ℕ) → v < 128 → all_groups v ≡ v ∷ []
unfolding all_groups groups_of
all_last v h = simp tests

pub all_more : (v : ℕ) → 128 ≤ v → all_groups v ≡ (v % 128 + 128) ∷ all_groups (v / 128)
unfolding all_groups groups_of
all_more v h =
    sym (all_groups_lem (suc (v / 128)) v (omega (arith, pow-suc 128 (suc (v / 128)), grows (v / 128)))) ∙ simp tests

pub all_some : (v : ℕ) → 0 < length (all_groups v)
unfolding all_groups
all_some v = groups_some v v

pub all_few : (v : ℕ) → length (all_groups v) ≤ suc v
unfolding all_groups
all_few v = groups_few (suc v) v

-- All groups put into a buffer that has room for them: the first is a store, and the others are put behind it.
module _ (v : ℕ) (s : List ℕ) (at : ℕ) (room : at + length (all_groups v) ≤ length s) where
  inside : at < length s
  inside = omega (arith, all_some v)

  pub put_last : v < 128 → set s at v ≡ put s at (all_groups v)
  put_last h = rw (all_last v h) (sym (put_none _ _) ∙ put_more s at v [] inside)

  module _ (h : 128 ≤ v) where
    pub put_room : at + 1 + length (all_groups (v / 128)) ≤ length (set s at (v % 128 + 128))
    put_room = simp length-set (omega (arith, ap length (all_more v h)))

    pub put_further : put (set s at (v % 128 + 128)) (at + 1) (all_groups (v / 128)) ≡ put s at (all_groups v)
    put_further = put_more s at _ _ inside ∙ rw (all_more v h)

-- A number's bytes, and its width, where it has a form and where it has none.
module _ (v : ℕ) where
  pub written_few : length (written_number v) ≤ groups_most
  unfolding written_number
  written_few = groups_few groups_most v

  pub written_all : v ≤ value_most → written_number v ≡ all_groups v
  unfolding written_number
  written_all h = all_groups_lem (groups_most - 1) v (omega arith)

  pub width_few : width_of v ≤ groups_most
  unfolding width_of
  width_few = pick_all (λ (k : ℕ). k ≤ groups_most) _ _ _ (omega arith) written_few

  pub width_is : v ≤ value_most → width_of v ≡ length (written_number v)
  unfolding width_of
  width_is h = simp tests

  pub width_none : value_most < v → width_of v ≡ 0
  unfolding width_of
  width_none h = simp tests

module _ (groups most v : ℕ) (buffer : List ℕ) (at : ℕ) where
  pub write_far : (a : Answer ℕ) → a ≡ refuses 7 0 → most < v → record { answer = a; buffer = buffer } ≡ write_up_to groups most v buffer at
  unfolding write_up_to
  write_far a p h = rw p (simp tests)

  module _ (h : v ≤ most) (count : ℕ) (e : count ≡ length (groups_of groups v)) where
    pub write_short : (a : Answer ℕ) → a ≡ refuses 3 0 → length buffer < at + count
        → record { answer = a; buffer = buffer } ≡ write_up_to groups most v buffer at
    unfolding write_up_to
    write_short a p l =
        let k : length buffer < at + length (groups_of groups v) = omega arith in
        rw p (simp tests)

    pub write_done : at + count ≤ length buffer → (after : List ℕ) → after ≡ put buffer at (groups_of groups v)
        → record { answer = gives (at + count); buffer = after } ≡ write_up_to groups most v buffer at
    unfolding write_up_to
    write_done l after p =
        let k : at + length (groups_of groups v) ≤ length buffer = omega arith in
        rw (p, e) (simp tests)

-- The writer's answers, by the number's width.
module _ (v : ℕ) where
  width_far : width_of v ≡ 0 → value_most < v
  width_far e =
      elim (dec_le v value_most) [
        | yes k ↦ absurd (omega (arith, width_is v k, ap length (written_all v k), all_some v))
        | no k ↦ omega arith
      ]

  width_near : 0 < width_of v → v ≤ value_most
  width_near s =
      elim (dec_le v value_most) [
        | yes k ↦ k
        | no k ↦ absurd (omega (arith, width_none v (omega arith)))
      ]

  pub number_room : (at long : ℕ) → 0 < width_of v → at + width_of v ≤ long → at + length (all_groups v) ≤ long
  number_room at long s l = omega (arith, width_is v (width_near s), ap length (written_all v (width_near s)))

  module _ (buffer : List ℕ) (at : ℕ) where
    pub number_far : width_of v ≡ 0 → (a : Answer ℕ) → a ≡ refuses 7 0 → record { answer = a; buffer = buffer } ≡ write_number v buffer at
    unfolding write_number
    number_far z a p = write_far groups_most value_most v buffer at a p (width_far z)

    module _ (s : 0 < width_of v) where
      pub number_short : (a : Answer ℕ) → a ≡ refuses 3 0 → length buffer < at + width_of v
          → record { answer = a; buffer = buffer } ≡ write_number v buffer at
      unfolding write_number written_number
      number_short a p l = write_short groups_most value_most v buffer at (width_near s) _ (width_is v (width_near s)) a p l

      pub number_done : at + width_of v ≤ length buffer → (end : ℕ) → end ≡ at + width_of v → (after : List ℕ) → after ≡ put buffer at (all_groups v)
          → record { answer = gives end; buffer = after } ≡ write_number v buffer at
      unfolding write_number written_number
      number_done l end e after p =
          let h = width_near s in
          rw e (write_done groups_most value_most v buffer at h _ (width_is v h) l after (p ∙ ap (put buffer at) (sym (written_all v h))))
