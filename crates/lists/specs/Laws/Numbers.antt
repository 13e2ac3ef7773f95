-- The laws of numbers by the answer that is known: given, or refused with 7.
-- Assumes nothing.
use Rattle.std.specs.Prelude.{List, ◌++◌, ◌≡◌, ℕ, ◌+◌, ◌≤◌, length, take}
use Rattle.std.proofs.Common.{sym, subst, ap, ◌∙◌, arith}
use Rattle.base.specs.Answer.{gives, refuses}
use Rattle.numbers.specs.Number.{Numeral, read_number}
use Rattle.numbers.specs.Words.{Whole, seen, moved}
use Rattle.numbers.proofs.Theorems as laws

module _ (s : List ℕ) (at : ℕ) (r : Numeral) (e : read_number s at ≡ gives r) where
  whole : Whole (read_number s at)
  whole = subst Whole (sym e) tt

  pub given_more : (t : List ℕ) → read_number (s ++ t) at ≡ gives r
  given_more t = laws.number_more s t at whole ∙ e

  pub given_less : (c : ℕ) → r.next ≤ c → read_number (take c s) at ≡ gives r
  given_less c h = laws.number_less s at c (omega (arith, laws.number_seen s at r e)) whole ∙ e

  pub given_behind : (t : List ℕ) → read_number (t ++ s) (length t + at) ≡ gives (record { value = r.value; next = length t + r.next })
  given_behind t = laws.number_behind t s at ∙ ap (moved (length t)) e

module _ (s : List ℕ) (at number place : ℕ) (e : read_number s at ≡ refuses number place) where
  pub refused_behind : (t : List ℕ) → read_number (t ++ s) (length t + at) ≡ refuses number place
  refused_behind t = laws.number_behind t s at ∙ ap (moved (length t)) e

  module _ (h : number ≡ 8 → ⊥) where
    whole_no : Whole (read_number s at)
    whole_no = subst Whole (sym e) h

    pub refused_more : (t : List ℕ) → read_number (s ++ t) at ≡ refuses number place
    refused_more t = laws.number_more s t at whole_no ∙ e

    pub refused_less : (c : ℕ) → seen s at ≤ c → read_number (take c s) at ≡ refuses number place
    refused_less c k = laws.number_less s at c k whole_no ∙ e
