-- What each answer of this crate says: document 01's number and values for every case of the enum.
-- Assumes nothing.
use Rattle.std.specs.Prelude.{ℕ, Result, Ok, Err}
use Rattle.base.specs.Answer.{Answer, gives}
use Rattle.numbers.specs.declared.Why.{Why}
use Rattle.numbers.specs.declared.Refusal.{Refusal}
use Rattle.numbers.specs.Answers.{refused, refused_for}
use Rattle.lists.specs.List.{LinkAt, ListRead}

abbrev pub told_ends : Result (ℕ × ℕ × ℕ) Why → Answer LinkAt
told_ends (Ok (a, b, next)) = gives (record { link = (a, b); next = next })
told_ends (Err w) = refused_for w

abbrev pub told_link : Result (ℕ × ℕ × ℕ) Refusal → Answer LinkAt
told_link (Ok (a, b, next)) = gives (record { link = (a, b); next = next })
told_link (Err r) = refused r

abbrev pub told_count : Result ℕ Refusal → Answer ℕ
told_count (Ok count) = gives count
told_count (Err r) = refused r

abbrev pub told_list : Result (ℕ × ℕ × ℕ) Refusal → Answer ListRead
told_list (Ok (n, begins, count)) = gives (record { fragments = n; begins = begins; count = count })
told_list (Err r) = refused r
