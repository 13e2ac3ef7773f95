-- The reader's answers: what the bytes say as far as its tests have come, and that no sum on the way outgrows a word.
-- Assumes nothing.
use Rattle.std.specs.Prelude.{ℕ, suc, ◌+◌, ◌*◌, ◌/◌, ◌%◌, ◌<◌, ◌≤◌, ◌≡◌, List, ltb, length, drop, get_or}
use Rattle.std.proofs.Common.{arith, ◌∙◌, drop_of_length-le, drop-cons}
use Rattle.std.proofs.Math.Decide.{dec_lt}
use Rattle.std.proofs.Math.Numerals.{add-one}
use Rattle.std.proofs.Math.Path.{sym, ap}
use Rattle.base.specs.Pick.{pick, tests}
use Rattle.base.specs.Answer.{Answer, gives, refuses}
use Rattle.numbers.specs.Number.{Numeral, value_most, onto, read_groups, at_most, read_up_to, read_number}
use Rattle.numbers.proofs.Laws.Groups.{same_number}

-- One group of `suc further` that are left.
module _ (further least : ℕ) (s : List ℕ) (at : ℕ) where
  group_end : length s ≤ at → read_groups (suc further) least (drop at s) at ≡ refuses 8 0
  unfolding read_groups
  group_end h = rw (drop_of_length-le s h)

  module _ (h : at < length s) (b : ℕ) (e : b ≡ get_or s at 0) where
    group_step : read_groups (suc further) least (drop at s) at ≡
        pick (ltb b 128)
        (pick (ltb b least) (refuses 7 0) (gives (record { value = b; next = at + 1 })))
        (onto (b % 128) 128 (read_groups further 1 (drop (at + 1) s) (at + 1)))
    unfolding read_groups
    group_step = rw e (simp add-one (rw (drop-cons s at 0)))

    group_more : 128 ≤ b → read_groups (suc further) least (drop at s) at ≡ onto (b % 128) 128 (read_groups further 1 (drop (at + 1) s) (at + 1))
    group_more k = group_step ∙ simp tests

    group_low : b < 128 → b < least → read_groups (suc further) least (drop at s) at ≡ refuses 7 0
    group_low k l = group_step ∙ simp tests

    group_last : b < 128 → least ≤ b → read_groups (suc further) least (drop at s) at ≡ gives (record { value = b; next = at + 1 })
    group_last k l = group_step ∙ simp tests

-- Whether a third byte follows a second byte `y`: `more` is 1 where it does, else 0.
pub data Follows (y : ℕ) : (more : ℕ) → Type 0 where
  none : y < 128 → Follows y 0
  third : 128 ≤ y → Follows y 1

pub follows : (y : ℕ) → y < 256 → Follows y (y / 128)
follows y h =
    elim (dec_lt y 128) [
      | yes k ↦ let e : y / 128 ≡ 0 = omega arith in rw e (none k)
      | no k ↦ let e : y / 128 ≡ 1 = omega arith in rw e (third (omega arith))
    ]

pub third_small : {y more : ℕ} → Follows y more → (z : ℕ) → z < 256 → (more ≤ 1) × (more * z < 256)
third_small (none k) z h = (omega arith, omega arith)
third_small (third k) z h = (omega arith, omega arith)

-- What the bytes `x`, `y` and, where it follows, `z` say.
abbrev pub value_of : (x y z more : ℕ) → ℕ
value_of x y z more = x % 128 + y % 128 * 128 + more * z * 16384

-- The least that needs so many groups.
abbrev pub least_of : (more : ℕ) → ℕ
least_of more = 128 + more * 16256

not_past : {v next : ℕ} → v ≤ value_most → gives (record { value = v; next = next }) ≡ at_most value_most (gives (record { value = v; next = next }))
unfolding at_most
not_past h = simp tests

module _ (s : List ℕ) (at : ℕ) where
  pub read_end : length s ≤ at → refuses 8 0 ≡ read_number s at
  unfolding read_number read_up_to at_most
  read_end h = ap (at_most value_most) (sym (group_end 2 0 s at h))

  module _ (h : at < length s) (x : ℕ) (p : x ≡ get_or s at 0) where
    pub read_one : x < 128 → gives (record { value = x; next = at + 1 }) ≡ read_number s at
    unfolding read_number read_up_to
    read_one k = not_past (omega arith) ∙ ap (at_most value_most) (sym (group_last 2 0 s at h x p k (omega arith)))

    module _ (k : 128 ≤ x) where
      -- The whole answer, by what the bytes behind the first say.
      behind_one : (a : Answer Numeral) → read_groups 2 1 (drop (at + 1) s) (at + 1) ≡ a → at_most value_most (onto (x % 128) 128 a) ≡ read_number s at
      unfolding read_number read_up_to
      behind_one a e = sym (ap (at_most value_most) (group_more 2 0 s at h x p k ∙ ap (onto (x % 128) 128) e))

      second_out : length s ≤ at + 1 → refuses 8 0 ≡ read_number s at
      unfolding at_most onto
      second_out l = behind_one _ (group_end 1 1 s (at + 1) l)

      module _ (y : ℕ) (q : y ≡ get_or s (at + 1) 0) where
        -- The same, by what the bytes behind the second say.
        behind_two : at + 1 < length s → 128 ≤ y → (a : Answer Numeral) → read_groups 1 1 (drop (at + 1 + 1) s) (at + 1 + 1) ≡ a
            → at_most value_most (onto (x % 128) 128 (onto (y % 128) 128 a)) ≡ read_number s at
        behind_two l m a e = behind_one _ (group_more 1 1 s (at + 1) l y q m ∙ ap (onto (y % 128) 128) e)

        pub read_out : {more : ℕ} → Follows y more → length s < at + 2 + more → refuses 8 0 ≡ read_number s at
        unfolding at_most onto
        read_out (none m) l = second_out (omega arith)
        read_out (third m) l =
            elim (dec_lt (at + 1) (length s)) [
              | yes i ↦ behind_two i m _ (group_end 0 1 s (at + 1 + 1) (omega arith))
              | no i ↦ second_out (omega arith)
            ]

        module _ (z : ℕ) (r : z ≡ get_or s (at + 2) 0) where
          third_at : z ≡ get_or s (at + 1 + 1) 0
          third_at = let e : at + 1 + 1 ≡ at + 2 = omega arith in rw e r

          pub read_long : {more : ℕ} → Follows y more → at + 2 + more ≤ length s → value_of x y z more < least_of more → refuses 7 0 ≡ read_number s at
          unfolding at_most onto
          read_long (none m) l v = behind_one _ (group_low 1 1 s (at + 1) (omega arith) y q m (omega arith))
          read_long (third m) l v = behind_two (omega arith) m _ (group_low 0 1 s (at + 1 + 1) (omega arith) z third_at (omega arith) (omega arith))

          pub read_far : {more : ℕ} → Follows y more → at + 2 + more ≤ length s → value_most < value_of x y z more → refuses 7 0 ≡ read_number s at
          unfolding at_most onto read_groups
          read_far (none m) l v = absurd (omega arith)
          read_far (third m) l v = behind_two (omega arith) m _ (group_more 0 1 s (at + 1 + 1) (omega arith) z third_at (omega arith))

          pub read_more : {more : ℕ} → Follows y more → at + 2 + more ≤ length s → least_of more ≤ value_of x y z more → value_of x y z more ≤ value_most
              → gives (record { value = value_of x y z more; next = at + 2 + more }) ≡ read_number s at
          unfolding onto
          read_more (none m) l v f =
              not_past f
              ∙ ap (at_most value_most) (same_number (omega arith) (omega arith))
              ∙ behind_one _ (group_last 1 1 s (at + 1) (omega arith) y q m (omega arith))
          read_more (third m) l v f =
              not_past f
              ∙ ap (at_most value_most) (same_number (omega arith) (omega arith))
              ∙ behind_two (omega arith) m _ (group_last 0 1 s (at + 1 + 1) (omega arith) z third_at (omega arith) (omega arith))
