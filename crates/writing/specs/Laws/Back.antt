-- What is written is read back: the links from any byte on, and what the writer stores.
-- Assumes nothing.
use Rattle.std.specs.Prelude.{List, [], ◌∷◌, ◌++◌, ◌≡◌, refl, ℕ, ◌+◌, ◌-◌, ◌≤◌, length, take, drop}
use Rattle.std.proofs.Common.{sym, ap, ◌∙◌, arith, length-drop, drop_at, drop-drop}
use Rattle.std.proofs.Math.Decide.{dec_lt}
use Rattle.std.proofs.Math.Seq.{take-append_seam}
use Rattle.base.specs.Pick.{tests}
use Rattle.base.specs.Answer.{Answer, gives, refuses}
use Rattle.base.specs.Link.{Link}
use Rattle.numbers.specs.Number.{written_number, put}
use Rattle.numbers.proofs.Theorems.{number_written}
use Rattle.lists.specs.List.{entries_most, fragments_most, and_then, before, LinkAt, links_at, written_links}
use Rattle.lists.specs.Words.{Sound}
use Rattle.lists.specs.Laws.Link.{Ends, never_both}
use Rattle.lists.specs.Laws.Block.{links_end, links_go}
use Rattle.lists.specs.Laws.Scan.{bad_none, link_none, link_good}
use Rattle.writing.specs.Write.{written_list, store_list}

-- The bytes behind the first ones.
behind : (s x t : List ℕ) (at : ℕ) → drop at s ≡ x ++ t → drop (at + length x) s ≡ t
behind s x t at e = sym (drop-drop (length x) at s) ∙ ap (drop (length x)) e ∙ drop_at x t (length x) refl

-- Links whose bytes stand from `at` on are read there.
pub links_written : (n : ℕ) (s : List ℕ) (ls : List Link) (e at : ℕ) → n ≤ fragments_most → Sound n ls → length ls ≤ entries_most - e
    → drop at s ≡ written_links ls → links_at n e s at ≡ gives ls
unfolding written_links before and_then
links_written n s [] e at h z k d = links_end n s e at (omega (arith, length-drop at s, ap length d))
links_written n s ((a, b) ∷ ls) e at h (f, g, i, z) k d =
    let x = written_number a in
    let y = written_number b in
    let c = behind s x (y ++ written_links ls) at d in
    let l : LinkAt = record { link = (a, b); next = at + length x + length y } in
    let ends : Ends s at l = record {
      middle = at + length x;
      first = number_written s at a (y ++ written_links ls) (omega arith) d;
      second = number_written s (at + length x) b (written_links ls) (omega arith) c;
    } in
    links_go n s e at l (link_good n e ends (sym (link_none n e a b (sym (bad_none n a b f g i)) (omega arith))))
    ∙ ap (before (a, b)) (links_written n s ls (e + 1) l.next h z (omega arith) (behind s y (written_links ls) (at + length x) c))

-- What is stored where nothing is refused.
pub stored_gives : (n : ℕ) (buffer : List ℕ) (end : ℕ) (x : Answer (List Link)) → (store_list n buffer x).answer ≡ gives end
    → (ls : List Link) × (x ≡ gives ls) × (take end (store_list n buffer x).buffer ≡ written_list n ls)
unfolding store_list put
stored_gives n buffer end (refuses number place) e = absurd (never_both {number = number} {place = place} e refl)
stored_gives n buffer end (gives ls) e = elim (dec_lt (length buffer) (length (written_list n ls))) [
  | yes h ↦ absurd (never_both {number = 3} {place = 0} (simp tests at e) refl)
  | no h ↦
      let l : length (written_list n ls) ≤ length buffer = omega arith in
      let f : gives (length (written_list n ls)) ≡ gives end = (simp tests at e) in
      let y : end ≡ length (written_list n ls) = cc in
      (ls, refl, simp tests (rw y (take-append_seam _ _)))
]
