-- What holds of reading and writing behind the test of the greatest value.
-- Assumes nothing.
use Rattle.std.specs.Prelude.{ℕ, suc, ◌+◌, ◌^◌, ◌<◌, ◌≤◌, ◌≡◌, refl, List, ◌++◌, length, take, drop}
use Rattle.std.proofs.Common.{arith, subst, drop_at, length-take-le}
use Rattle.std.proofs.Math.Decide.{dec_lt}
use Rattle.base.specs.Pick.{pick_all, tests}
use Rattle.base.specs.Answer.{Answer, gives, refuses}
use Rattle.numbers.specs.Number.{Numeral, groups_most, value_most, at_most, read_up_to, read_number, groups_of, put, Wrote, write_up_to}
use Rattle.numbers.proofs.Laws.Groups.{Stands, Stopped, Says, stopped, groups_say, groups_written}
use Rattle.numbers.proofs.Laws.Writing.{write_far, write_short, write_done}

-- What an answer says it says behind that test.
says_most : (groups most : ℕ) (s : List ℕ) (at : ℕ) (a : Answer Numeral) → Says groups 0 s at a → Says groups 0 s at (at_most most a)
unfolding at_most
says_most groups most s at (gives n) z = pick_all (Says groups 0 s at) _ _ _ (stopped groups s) z
says_most groups most s at (refuses number place) z = z

module _ (s : List ℕ) (at : ℕ) where
  number_says : Says groups_most 0 (drop at s) at (read_number s at)
  unfolding read_number read_up_to
  number_says = says_most groups_most value_most (drop at s) at _ (groups_say groups_most 0 (drop at s) at (omega arith))

  pub number_stands : (r : Numeral) → read_number s at ≡ gives r → Stands groups_most 0 (drop at s) at r
  number_stands r e = subst (Says groups_most 0 (drop at s) at) e number_says

  pub number_stops : (number place : ℕ) → read_number s at ≡ refuses number place → Stopped groups_most (drop at s) number place
  number_stops number place e = subst (Says groups_most 0 (drop at s) at) e number_says

-- What is written is read back, where so many groups have room for the greatest value.
module _ (further most : ℕ) (fits : most < 128 ^ suc further) where
  pub up_to_written : (s : List ℕ) (at v : ℕ) (rest : List ℕ) → v ≤ most → drop at s ≡ groups_of (suc further) v ++ rest
      → read_up_to (suc further) most s at ≡ gives (record { value = v; next = at + length (groups_of (suc further) v) })
  unfolding read_up_to at_most
  up_to_written s at v rest h e = rw (e, groups_written further 0 v rest at (omega arith) (omega arith) (omega arith)) (simp tests)

  put_read : (v : ℕ) (buffer : List ℕ) (at : ℕ) → v ≤ most → at ≤ length buffer
      → read_up_to (suc further) most (put buffer at (groups_of (suc further) v)) at ≡ gives (record { value = v; next = at + length (groups_of (suc further) v) })
  unfolding put
  put_read v buffer at h l = up_to_written _ at v _ h (drop_at (take at buffer) _ at (length-take-le at buffer l))

  abbrev ReadBack : (v at end : ℕ) → Wrote → Type 0
  ReadBack v at end w = w.answer ≡ gives end → read_up_to (suc further) most w.buffer at ≡ gives (record { value = v; next = end })

  pub up_to_back : (v : ℕ) (buffer : List ℕ) (at end : ℕ) → ReadBack v at end (write_up_to (suc further) most v buffer at)
  up_to_back v buffer at end =
      elim (dec_lt most v) [
        | yes h ↦ subst (ReadBack v at end) (write_far (suc further) most v buffer at _ refl h) (λ e. let z : ◌≡◌ {A = ℕ} 0 1 = cc in absurd (omega arith))
        | no h ↦
            elim (dec_lt (length buffer) (at + length (groups_of (suc further) v))) [
              | yes k ↦ subst (ReadBack v at end) (write_short (suc further) most v buffer at (omega arith) _ refl _ refl k) (λ e. let z : ◌≡◌ {A = ℕ} 0 1 = cc in absurd (omega arith))
              | no k ↦ subst (ReadBack v at end) (write_done (suc further) most v buffer at (omega arith) _ refl (omega arith) _ refl)
                  (λ e. let p : at + length (groups_of (suc further) v) ≡ end = cc in rw (← p) (put_read v buffer at (omega arith) (omega arith)))
            ]
      ]
