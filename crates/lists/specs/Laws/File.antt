-- The answers of reading a list file, and the cut's steps.
-- Assumes nothing.
use Rattle.std.specs.Prelude.{true, false, ◌≡◌, ℕ, zero, suc, ◌-◌, ◌≤◌}
use mathlib.Core.List.{List}
use Rattle.std.proofs.Common.{inl, inr, ◌∙◌, arith}
use Rattle.std.proofs.Math.Path.{refl, sym}
use Rattle.std.proofs.Math.ListN.{length}
use Rattle.base.specs.Pick.{pick_true, pick_false, tests}
use Rattle.base.specs.Answer.{gives, refuses}
use Rattle.base.specs.Link.{Link}
use Rattle.numbers.specs.Number.{read_number}
use Rattle.lists.specs.List.{no_size, links_at, and_then, sized, LinkAt, read_ends, read_list, file_links, cut_after, cut_in, cut_at}
use Rattle.numbers.proofs.Theorems.{number_none}
use Rattle.lists.specs.Laws.Link.{no_first, ends_told, Ends, NoEnds, ends_are, ends_are_not, ends_within}
use Rattle.lists.specs.Laws.Block.{count_gives, count_refuses}
use Rattle.lists.specs.Scan.{scan_from}

-- The answers of reading a list file.
module _ (s : List ℕ) where
  pub file_header : (number place : ℕ) → read_number s 0 ≡ refuses number place → refuses number place ≡ read_list s
  unfolding and_then read_list file_links
  file_header number place r = rw r refl

  module _ (n begins : ℕ) (r : read_number s 0 ≡ gives (record { value = n; next = begins })) where
    pub file_size : no_size n ≡ true → refuses 1 0 ≡ read_list s
    unfolding and_then read_list file_links sized
    file_size h = rw r (simp (h, pick_true))

    module _ (h : no_size n ≡ false) where
      pub file_list : (count : ℕ) → scan_from n 0 s begins ≡ gives count → gives (record { fragments = n; begins = begins; count = count }) ≡ read_list s
      unfolding and_then read_list file_links sized scan_from
      file_list count p = let (ls, q, z) = count_gives (links_at n 0 s begins) count p in go ls q z
        where
          go : (ls : List Link) → links_at n 0 s begins ≡ gives ls → count ≡ length ls
              → gives (record { fragments = n; begins = begins; count = count }) ≡ read_list s
          go ls q z = rw (r, z) (simp (h, pick_false, q))

      pub file_bad : (number place : ℕ) → scan_from n 0 s begins ≡ refuses number place → refuses number place ≡ read_list s
      unfolding and_then read_list file_links sized scan_from
      file_bad number place p = rw r (simp (h, pick_false, count_refuses (links_at n 0 s begins) number place p))

-- The cut's steps: from a link on, the cut is the same.
cut_none : (s : List ℕ) (k at : ℕ) → length s ≤ at → cut_in k s at ≡ at
unfolding cut_in cut_after
cut_none s zero at h = refl
cut_none s (suc k) at h = rw (ends_are_not (no_first (number_none s at h))) (simp tests)

cut_turns : (s : List ℕ) (k m at : ℕ) → length s - at ≤ k → length s - at ≤ m → cut_in k s at ≡ cut_in m s at
unfolding cut_in cut_after
cut_turns s zero m at p q = sym (cut_none s m at (omega arith))
cut_turns s (suc k) zero at p q = cut_none s (suc k) at (omega arith)
cut_turns s (suc k) (suc m) at p q = elim (ends_told s at (read_ends s at) refl) [
  | inl (l, e, d) ↦ let w = ends_within d in rw e (cut_turns s k m l.next (omega arith) (omega arith))
  | inr (number, place, e, d) ↦ rw e refl
]

-- The cut with a turn at hand.
module _ (s : List ℕ) (at : ℕ) where
  cut_turn : cut_at s at ≡ cut_after s at (cut_in (length s) s) (read_ends s at)
  unfolding cut_at cut_in
  cut_turn = cut_turns s (length s - at) (suc (length s)) at (omega arith) (omega arith)

module _ {s : List ℕ} {at : ℕ} where
  pub cut_on : {l : LinkAt} → Ends s at l → cut_at s l.next ≡ cut_at s at
  unfolding cut_at cut_after
  cut_on {l} d = cut_turns s (length s - l.next) (length s) l.next (omega arith) (omega arith) ∙ sym (cut_turn s at ∙ rw (ends_are d) refl)

  module _ {number place : ℕ} (d : NoEnds s at number place) where
    pub cut_here : number ≡ 8 → at ≡ cut_at s at
    unfolding cut_after
    cut_here h = sym (cut_turn s at ∙ rw (ends_are_not d) (simp tests))

    pub cut_all : (number ≡ 8 → ⊥) → length s ≡ cut_at s at
    unfolding cut_after
    cut_all h = sym (cut_turn s at ∙ rw (ends_are_not d) (simp tests))
