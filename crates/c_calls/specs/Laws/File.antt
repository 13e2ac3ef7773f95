-- The head of a list file, at each of its answers, and as the beginning of the whole file.
-- Assumes nothing.
use Rattle.std.specs.Prelude.{ℕ, ◌≡◌, Bool, true, false, List, Result, Ok, Err}
use Rattle.std.proofs.Math.Path.{refl}
use Rattle.base.specs.Pick.{pick, pick_true, pick_false}
use Rattle.base.specs.Answer.{Answer, gives, refuses}
use Rattle.numbers.specs.Number.{Numeral, read_number}
use Rattle.numbers.specs.Answers.{number_of, told}
use Rattle.lists.specs.List.{and_then, no_size, sized, ListFile, file_links}
use Rattle.c_calls.specs.File.{Head, list_head, links_from, head_reply, head_told, c_head}
use Rattle.numbers.specs.declared.Why.{Why}

-- The number was read as a.
module _ (s : List ℕ) (a : Result (ℕ × ℕ) Why) (p : told a ≡ read_number s 0) where
  module _ (v x : ℕ) (e : a ≡ Ok (v, x)) where
    pub head_no_size : true ≡ no_size v → head_reply 1 0 0 ≡ c_head s
    unfolding c_head head_told list_head and_then sized
    head_no_size t = rw (← p, e, ← t, pick_true) refl

    pub head_read : false ≡ no_size v → head_reply 0 v x ≡ c_head s
    unfolding c_head head_told list_head and_then sized
    head_read t = rw (← p, e, ← t, pick_false) refl

  pub head_refused : (w : Why) → a ≡ Err w → head_reply (number_of w) 0 0 ≡ c_head s
  unfolding c_head head_told list_head and_then
  head_refused w e = rw (← p, e) refl

-- The head first, then the links.
pick_then : (t : Bool) (a : Head) (next : Head → Answer ListFile) → pick t (refuses 1 0) (next a) ≡ and_then (pick t (refuses 1 0) (gives a)) next
unfolding pick and_then
pick_then true a next = refl
pick_then false a next = refl

head_then : (s : List ℕ) (x : Answer Numeral) → read_number s 0 ≡ x → file_links s ≡ and_then (list_head s) (links_from s)
unfolding file_links list_head and_then sized
head_then s (gives n) e = rw e (pick_then (no_size n.value) (record { fragments = n.value; begins = n.next }) (links_from s))
head_then s (refuses number place) e = rw e refl

pub file_parted : (s : List ℕ) → file_links s ≡ and_then (list_head s) (links_from s)
file_parted s = head_then s (read_number s 0) refl
