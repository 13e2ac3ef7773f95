-- The list writer and a link in C, at each of their answers.
-- Assumes nothing.
use Rattle.std.specs.Prelude.{ℕ, ◌≡◌, List, Result, Ok, Err}
use Rattle.std.proofs.Math.Path.{refl}
use Rattle.numbers.specs.Answers.{number_of, wrote}
use Rattle.lists.specs.Answers.{told_link}
use Rattle.lists.specs.List.{scan_link}
use Rattle.writing.specs.Write.{write_list}
use Rattle.c_calls.specs.Lists.{write_reply, write_told, wrote_told, c_write_list, link_reply, link_told, c_link_at}
use Rattle.numbers.specs.declared.Refusal.{Refusal}
use Rattle.numbers.specs.declared.Why.{Why}

-- The list was written as a, and left the buffer b'.
module _ (n : ℕ) (words b b' : List ℕ) (a : Result ℕ Why) (p : wrote a b' ≡ write_list n words b) where
  pub write_end : (end : ℕ) → a ≡ Ok end → write_reply 0 end b' ≡ c_write_list n words b
  unfolding c_write_list wrote_told write_told
  write_end end e = rw (← p, e) refl

  pub write_refused : (w : Why) → a ≡ Err w → write_reply (number_of w) 0 b' ≡ c_write_list n words b
  unfolding c_write_list wrote_told write_told
  write_refused w e = rw (← p, e) refl

-- The link was read as l.
module _ (n entries : ℕ) (block : List ℕ) (at : ℕ) (l : Result (ℕ × ℕ × ℕ) Refusal) (p : told_link l ≡ scan_link n entries block at) where
  pub link_ends : (a b next : ℕ) → l ≡ Ok (a, b, next) → link_reply 0 a b next ≡ c_link_at n entries block at
  unfolding c_link_at link_told
  link_ends a b next e = rw (← p, e) refl

  pub link_refused : (r : Refusal) → l ≡ Err r → link_reply r.number 0 0 r.place ≡ c_link_at n entries block at
  unfolding c_link_at link_told
  link_refused r e = rw (← p, e) refl
