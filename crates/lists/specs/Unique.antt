-- Two answers that meet a promise of this crate are equal: an answer can be had back from what is told of it.
-- Assumes nothing.
use Rattle.std.specs.Prelude.{ℕ, Result, Ok, Err, ◌≡◌, refl}
use Rattle.std.proofs.Common.{sym, ap, ◌∙◌}
use Rattle.base.specs.Answer.{Answer, gives, refuses}
use Rattle.numbers.specs.declared.Refusal.{Refusal}
use Rattle.lists.specs.List.{LinkAt, ListRead}
use Rattle.lists.specs.Answers.{told_link, told_count, told_list}

abbrev back_link : Answer LinkAt → Result (ℕ × ℕ × ℕ) Refusal
back_link (gives l) = Ok (l.link.0, l.link.1, l.next)
back_link (refuses number place) = Err (record { number = number; place = place })

link_back : (a : Result (ℕ × ℕ × ℕ) Refusal) → back_link (told_link a) ≡ a
link_back (Ok (a, b, next)) = refl
link_back (Err r) = refl

pub link_once : (a b : Result (ℕ × ℕ × ℕ) Refusal) → told_link a ≡ told_link b → a ≡ b
link_once a b e = sym (link_back a) ∙ ap back_link e ∙ link_back b

abbrev back_count : Answer ℕ → Result ℕ Refusal
back_count (gives count) = Ok count
back_count (refuses number place) = Err (record { number = number; place = place })

count_back : (a : Result ℕ Refusal) → back_count (told_count a) ≡ a
count_back (Ok count) = refl
count_back (Err r) = refl

pub count_once : (a b : Result ℕ Refusal) → told_count a ≡ told_count b → a ≡ b
count_once a b e = sym (count_back a) ∙ ap back_count e ∙ count_back b

abbrev back_list : Answer ListRead → Result (ℕ × ℕ × ℕ) Refusal
back_list (gives l) = Ok (l.fragments, l.begins, l.count)
back_list (refuses number place) = Err (record { number = number; place = place })

list_back : (a : Result (ℕ × ℕ × ℕ) Refusal) → back_list (told_list a) ≡ a
list_back (Ok (n, begins, count)) = refl
list_back (Err r) = refl

pub list_once : (a b : Result (ℕ × ℕ × ℕ) Refusal) → told_list a ≡ told_list b → a ≡ b
list_once a b e = sym (list_back a) ∙ ap back_list e ∙ list_back b
