-- Two answers that meet a promise of this crate are equal: an answer can be had back from what is told of it.
-- Assumes nothing.
use Rattle.std.specs.Prelude.{ℕ, zero, suc, List, Result, Ok, Err, ◌≡◌, refl}
use Rattle.std.proofs.Common.{sym, ap, ◌∙◌, arith}
use Rattle.base.specs.Answer.{Answer, gives, refuses}
use Rattle.numbers.specs.Number.{Numeral, Wrote}
use Rattle.numbers.specs.Answers.{number_of, due, refused, told, told_end, wrote}
use Rattle.numbers.specs.declared.Refusal.{Refusal}
use Rattle.numbers.specs.declared.Why.{Why}
use Rattle.numbers.specs.declared.Why.TheVariants.{Fragments, Room, Short, NoFragment, Same, Stage, Form, Unfinished, Differs, Parents, Tables, Entries}

-- The refusal of a number, for numbers of the table.
abbrev pub why_of : ℕ → Why
why_of (suc zero) = Fragments
why_of (suc (suc zero)) = Room
why_of (suc (suc (suc zero))) = Short
why_of (suc (suc (suc (suc zero)))) = NoFragment
why_of (suc (suc (suc (suc (suc zero))))) = Same
why_of (suc (suc (suc (suc (suc (suc zero)))))) = Stage
why_of (suc (suc (suc (suc (suc (suc (suc zero))))))) = Form
why_of (suc (suc (suc (suc (suc (suc (suc (suc zero)))))))) = Unfinished
why_of (suc (suc (suc (suc (suc (suc (suc (suc (suc zero))))))))) = Differs
why_of (suc (suc (suc (suc (suc (suc (suc (suc (suc (suc zero)))))))))) = Parents
why_of (suc (suc (suc (suc (suc (suc (suc (suc (suc (suc (suc zero))))))))))) = Tables
why_of _ = Entries

pub why_back : (w : Why) → why_of (number_of w) ≡ w
why_back Fragments = refl
why_back Room = refl
why_back Short = refl
why_back NoFragment = refl
why_back Same = refl
why_back Stage = refl
why_back Form = refl
why_back Unfinished = refl
why_back Differs = refl
why_back Parents = refl
why_back Tables = refl
why_back Entries = refl

-- No two refusals have one number.
pub number_once : (v w : Why) → number_of v ≡ number_of w → v ≡ w
number_once v w e = sym (why_back v) ∙ ap why_of e ∙ why_back w

abbrev back : Answer Numeral → Result (ℕ × ℕ) Why
back (gives n) = Ok (n.value, n.next)
back (refuses number place) = Err (why_of number)

told_back : (a : Result (ℕ × ℕ) Why) → back (told a) ≡ a
told_back (Ok (value, next)) = refl
told_back (Err w) = ap Err (why_back w)

pub told_once : (a b : Result (ℕ × ℕ) Why) → told a ≡ told b → a ≡ b
told_once a b e = sym (told_back a) ∙ ap back e ∙ told_back b

abbrev back_end : Answer ℕ → Result ℕ Why
back_end (gives next) = Ok next
back_end (refuses number place) = Err (why_of number)

end_back : (a : Result ℕ Why) → back_end (told_end a) ≡ a
end_back (Ok next) = refl
end_back (Err w) = ap Err (why_back w)

pub wrote_once : (a b : Result ℕ Why) (s t : List ℕ) → wrote a s ≡ wrote b t → (a ≡ b) × (s ≡ t)
wrote_once a b s t e = (sym (end_back a) ∙ ap (λ (w : Wrote). back_end w.answer) e ∙ end_back b, ap (λ (w : Wrote). w.buffer) e)

-- 0 is the number of no refusal.
pub number_some : (w : Why) → number_of w ≡ 0 → ⊥
number_some Fragments e = omega arith
number_some Room e = omega arith
number_some Short e = omega arith
number_some NoFragment e = omega arith
number_some Same e = omega arith
number_some Stage e = omega arith
number_some Form e = omega arith
number_some Unfinished e = omega arith
number_some Differs e = omega arith
number_some Parents e = omega arith
number_some Tables e = omega arith
number_some Entries e = omega arith

-- A call that answers which refusal is due, if any.
pub due_once : (a b : Result (Unit {0}) Why) → due a ≡ due b → a ≡ b
due_once (Ok x) (Ok y) e = refl
due_once (Ok x) (Err w) e = absurd (number_some w (sym e))
due_once (Err v) (Ok y) e = absurd (number_some v e)
due_once (Err v) (Err w) e = ap Err (number_once v w e)

-- Only one refusal has number 8.
pub unfinished_only : (w : Why) → number_of w ≡ 8 → w ≡ Unfinished
unfinished_only w e = sym (why_back w) ∙ ap why_of e

-- What a refusal tells, by its two parts.
pub refused_is : {A : Type 0} (r : Refusal) (number place : ℕ) → (r.number ≡ number) × (r.place ≡ place) → refused {A = A} r ≡ refuses number place
refused_is r number place e = rw (e.0, e.1) refl
