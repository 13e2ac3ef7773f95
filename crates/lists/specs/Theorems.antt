-- The laws of blocks and list files, over the definitions of List.antt alone.
-- Assumes nothing.
use Rattle.std.specs.Prelude.{List, ◌++◌, ◌≡◌, refl, ℕ, ◌+◌, ◌-◌, ◌≤◌, ◌<◌, length, take, drop}
use Rattle.std.proofs.Common.{append_assoc, sym, ap, ◌∙◌, arith, take-append-drop, length-take-le}
use Rattle.base.specs.Answer.{gives, refuses}
use Rattle.base.specs.Link.{Link}
use Rattle.numbers.specs.Number.{read_number, groups_most}
use Rattle.numbers.specs.Words.{Bytes}
use Rattle.lists.specs.List.{entries_most, and_then, block_links, scan_block, cut_at, cut_block, written_links}
use Rattle.lists.specs.Words.{Sound, shifted, seen_link}
use Rattle.lists.specs.Laws.Block.{links_joined, scans_joined}
use Rattle.lists.specs.Laws.Given.{sound_in, form_in}
use Rattle.lists.specs.Laws.Parts.{second_short, links_less, cut_within, cut_left, cut_whole}

-- Two blocks one after the other read as their concatenation: the links of both in order, the entries of the first counted at the second, the
-- second's places shifted. A first block that ends inside a link (8) is none.
pub blocks_join : (n e : ℕ) (s t : List ℕ) → ((place : ℕ) → block_links n e s ≡ refuses 8 place → ⊥)
    → block_links n e (s ++ t)
    ≡ and_then (block_links n e s) λ ls. and_then (shifted (length s) (block_links n (e + length ls) t)) λ ms. gives (ls ++ ms)
unfolding block_links
blocks_join n e s t c = links_joined n s t e 0 (omega arith) c

-- So do their scans: the numbers of links add up.
pub scans_join : (n e : ℕ) (s t : List ℕ) → ((place : ℕ) → block_links n e s ≡ refuses 8 place → ⊥)
    → scan_block n e (s ++ t) ≡ and_then (scan_block n e s) λ c. and_then (shifted (length s) (scan_block n (e + c) t)) λ d. gives (c + d)
scans_join n e s t c = scans_joined n e s t (blocks_join n e s t c)

-- A refusal depends on no byte after the first bad link: bytes that are the same up to the last that is looked at of it are refused the same.
-- (Where the end decides, 8, no byte comes after it.)
pub refusal_decided : (n e : ℕ) (s : List ℕ) (number place : ℕ) → block_links n e s ≡ refuses number place → (number ≡ 8 → ⊥)
    → (t : List ℕ) → take (seen_link s place) t ≡ take (seen_link s place) s → block_links n e t ≡ refuses number place
unfolding block_links and_then
refusal_decided n e s number place r k t z =
    let c = seen_link s place in
    let p : block_links n e (take c t) ≡ refuses number place
    = rw z (links_less n s c (length s) e 0 number place (omega arith) k (omega arith) r) in
    ap (block_links n e) (sym (take-append-drop c t))
    ∙ blocks_join n e (take c t) (drop c t) (λ q u. k (let v = sym p ∙ u in cc))
    ∙ rw p refl

-- Of a bad link at most two numbers' bytes are looked at.
pub bad_link_short : (s : List ℕ) (place : ℕ) → seen_link s place ≤ place + groups_most + groups_most
unfolding seen_link
bad_link_short s place = second_short s place (read_number s place) refl

-- The links of an accepted block are links of n fragments, and no more than the pass has room for.
pub accepted_sound : (n e : ℕ) (s : List ℕ) (ls : List Link) → block_links n e s ≡ gives ls → Sound n ls
unfolding block_links
accepted_sound n e s ls p = (sound_in n s ls e 0 p).0

pub accepted_count : (n e : ℕ) (s : List ℕ) (ls : List Link) → block_links n e s ≡ gives ls → length ls ≤ entries_most - e
unfolding block_links
accepted_count n e s ls p = (sound_in n s ls e 0 p).1

-- Their bytes are the bytes of these links: links have one form.
pub accepted_form : (n e : ℕ) (s : List ℕ) (ls : List Link) → Bytes s → block_links n e s ≡ gives ls → s ≡ written_links ls
unfolding block_links
accepted_form n e s ls b p = form_in n s b ls e 0 p

-- A part of a list, cut at its last whole link: the cut lies in it; what is before it is a block, which no link is cut off from; what is left
-- is no whole link, so that at the list's end it is refused with 8 at its first byte.
pub cut_inside : (s : List ℕ) → cut_block s ≤ length s
unfolding cut_block
cut_inside s = cut_within s 0 (omega arith)

pub cut_block_lem : (n e : ℕ) (s : List ℕ) (place : ℕ) → block_links n e (take (cut_block s) s) ≡ refuses 8 place → ⊥
unfolding cut_block block_links
cut_block_lem n e s place r = cut_whole n s (cut_at s 0) e 0 place refl (omega arith) r

pub cut_rest : (n e : ℕ) (s : List ℕ) → cut_block s < length s → block_links n e (drop (cut_block s) s) ≡ refuses 8 0
unfolding cut_block block_links
cut_rest n e s h = cut_left s 0 (omega arith) n e h

-- A list told in parts, what is left behind the cut carried over to the next part, reads as a whole.
pub parts_join : (n e : ℕ) (s t : List ℕ)
    → block_links n e (s ++ t)
    ≡ and_then (block_links n e (take (cut_block s) s)) λ ls.
    and_then (shifted (cut_block s) (block_links n (e + length ls) (drop (cut_block s) s ++ t))) λ ms. gives (ls ++ ms)
parts_join n e s t =
    let c = cut_block s in
    let z : take c s ++ (drop c s ++ t) ≡ s ++ t = sym (append_assoc (take c s) (drop c s) t) ∙ ap (λ (l : List ℕ). l ++ t) (take-append-drop c s) in
    let y : length (take c s) ≡ c = length-take-le c s (cut_inside s) in
    let x = blocks_join n e (take c s) (drop c s ++ t) (cut_block_lem n e s) in
    (rw (z, y) at x)
