-- The list writer's steps: the size of the list word by word, and the bytes put number by number.
-- Assumes nothing.
use Rattle.std.specs.Prelude.{true, false, Result, Ok, ◌≡◌, take}
use mathlib.Core.List.{List, [], ◌∷◌, ◌++◌, append_assoc}
use Rattle.std.proofs.Math.Path.{refl, sym, ap}
use Rattle.std.proofs.Common.{◌∙◌, add_assoc, add-one, drop_of_length-le, take_at, drop_at, drop-drop, length-take-le}
use native.Mathlib.Omega.{arith}
use Rattle.std.proofs.Math.Nat.{add-zero}
use Rattle.std.proofs.Math.Decide.{dec_le}
use Prim.Native.Nat.{ℕ, zero, suc, ◌+◌, ◌*◌, ◌≤◌, ◌<◌}
use Rattle.std.proofs.Math.ListN.{length, drop, get_or, length-append}
use Rattle.std.proofs.Math.Seq.{drop-cons}
use Rattle.base.specs.Pick.{pick_true, pick_false, tests}
use Rattle.base.specs.Answer.{Answer, gives, refuses}
use Rattle.base.specs.Link.{Link}
use Rattle.numbers.specs.Number.{groups_most, value_most, written_number, put, width_of, Wrote, write_up_to, write_number}
use Rattle.numbers.specs.Answers.{wrote}
use Rattle.numbers.specs.declared.Why.{Why}
use Rattle.numbers.proofs.Unique.{wrote_once}
use Rattle.numbers.proofs.Laws.Writing.{put_none, length_put, written_few, width_few, width_is}
use Rattle.lists.specs.List.{fragments_most, and_then, before, no_size, sized, bad_ends, written_links}
use Rattle.lists.specs.Words.{Sound}
use Rattle.lists.specs.Laws.Link.{never_both, and_then_gives, size_good, sized_gives, joins_gives}
use Rattle.lists.specs.Laws.Scan.{bad_first, bad_second, joins_bad, joins_good}
use Rattle.writing.specs.Write.{word_links, written_list, store_list, write_list}
use Rattle.writing.specs.Words.{words_of}
use Rattle.writing.specs.Steps.{answer_or, list_size, written_words, Fitting, Stored, Room}

-- The number writer where it is not refused.
pub write_fitting : (v : ℕ) (buffer : List ℕ) (at : ℕ) → v ≤ value_most → at + length (written_number v) ≤ length buffer
    → write_number v buffer at ≡ record { answer = gives (at + length (written_number v)); buffer = put buffer at (written_number v) }
unfolding write_number write_up_to written_number
write_fitting v buffer at h k = simp tests

pub width_bound : (r v : ℕ) → r ≡ width_of v → r ≤ groups_most
width_bound r v z = omega (arith, width_few v)

-- Ends that nothing is wrong with.
good_ends : (n a b : ℕ) → bad_ends n a b ≡ 0 → (a < n) × (b < n)
good_ends n a b z = elim (dec_le n a) [
  | yes h ↦ absurd (omega (arith, bad_first n a b h))
  | no h ↦ elim (dec_le n b) [
    | yes k ↦ absurd (omega (arith, bad_second n a b (omega arith) k))
    | no k ↦ (omega arith, omega arith)
  ]
]

drop_two : (s : List ℕ) (i : ℕ) → i + 1 < length s → drop i s ≡ get_or s i 0 ∷ get_or s (i + 1) 0 ∷ drop (i + 2) s
drop_two s i h = drop-cons s i 0 (omega arith) ∙ ap (◌∷◌ (get_or s i 0)) (rw (← add-one i) (drop-cons s (i + 1) 0 h ∙ rw (← add-one (i + 1), add_assoc) refl))

-- A link more in the size.
size_more : (a b size size' : ℕ) (x : Answer (List Link)) → size' ≡ size + (length (written_number a) + length (written_number b))
    → (and_then x λ ls. gives (size' + length (written_links ls))) ≡ (and_then (before (a, b) x) λ ls. gives (size + length (written_links ls)))
unfolding and_then before written_links
size_more a b size size' (gives ls) z = ap gives (simp length-append (omega arith))
size_more a b size size' (refuses number place) z = refl

-- The list's size: the words from `i` on and the size so far give the whole answer.
module _ (n : ℕ) (words : List ℕ) where
  pub size_refused : no_size n ≡ true → refuses 1 0 ≡ list_size n words
  unfolding and_then list_size sized
  size_refused h = simp (h, pick_true)

  pub record Sizing (i size : ℕ) : Type 0 where
    pub left : (and_then (word_links n (drop i words)) λ ls. gives (size + length (written_links ls))) ≡ list_size n words
    pub upto : i ≤ length words
    pub most : size ≤ groups_most * (i + 1)
    pub few : n ≤ fragments_most

  pub sizing_starts : no_size n ≡ false → (size : ℕ) → size ≡ width_of n → Sizing 0 size
  unfolding list_size sized written_list
  sizing_starts h size z =
      let k = (size_good n h).1 in
      let y : size ≡ length (written_number n) = z ∙ width_is n (omega arith) in
      record { left = simp (h, pick_false, length-append, y); upto = omega arith; most = omega (arith, written_few n); few = k }

  module _ {i size : ℕ} (w : Sizing i size) where
    pub size_end : length words ≤ i → gives size ≡ list_size n words
    unfolding and_then word_links written_links
    size_end h = let y = w.left in (simp add-zero at (rw (drop_of_length-le words h) at y))

    pub size_odd : i < length words → length words ≤ i + 1 → refuses 8 0 ≡ list_size n words
    unfolding and_then word_links
    size_odd h k =
        let y : drop i words ≡ get_or words i 0 ∷ [] = drop-cons words i 0 h ∙ ap (◌∷◌ (get_or words i 0)) (drop_of_length-le words {i = suc i} (omega arith)) in
        (rw y at w.left)

    module _ (h : i + 1 < length words) where
      pub size_bad : (bad : ℕ) → bad ≡ bad_ends n (get_or words i 0) (get_or words (i + 1) 0) → (bad ≡ 0 → ⊥) → refuses bad 0 ≡ list_size n words
      unfolding and_then word_links
      size_bad bad z k =
          let y = (rw (drop_two words i h) at w.left) in
          (rw (joins_bad 0 _ n _ _ (λ x. k (z ∙ x)), ← z) at y)

      pub size_on : bad_ends n (get_or words i 0) (get_or words (i + 1) 0) ≡ 0 → (size' : ℕ)
          → size' ≡ size + (width_of (get_or words i 0) + width_of (get_or words (i + 1) 0)) → Sizing (i + 2) size'
      unfolding word_links
      size_on z size' y =
          let g = good_ends n _ _ z in
          let q = w.few in
          let a = width_is (get_or words i 0) (omega arith) in
          let b = width_is (get_or words (i + 1) 0) (omega arith) in
          let v = width_few (get_or words i 0) in
          let u = width_few (get_or words (i + 1) 0) in
          let m = w.most in
          record {
            left =
                size_more _ _ size size' (word_links n (drop (i + 2) words)) (y ∙ rw (a, b) refl)
                ∙ ap (λ (x : Answer (List Link)). and_then x λ ls. gives (size + length (written_links ls)))
                (sym (ap (word_links n) (drop_two words i h) ∙ joins_good 0 _ n _ _ z))
                ∙ w.left;
            upto = omega arith;
            most = omega arith;
            few = w.few;
          }

-- A number put where the writer has room for it.
pub stored : {value at : ℕ} {buffer : List ℕ} → Fitting value at (length buffer) → (answer : Answer ℕ) (after : List ℕ) (r : ℕ)
    → record { answer = answer; buffer = after } ≡ write_number value buffer at → r ≡ answer_or answer at → Stored value at buffer r after
stored {value} {at} {buffer} f answer after r e z =
    let y = e ∙ write_fitting value buffer at f.most f.room in
    record { end = z ∙ ap (λ (w : Wrote). answer_or w.answer at) y; bytes = ap (λ (w : Wrote). w.buffer) y }

-- So the writer gives where it ends.
pub stored_whole : (value at : ℕ) (buffer : List ℕ) → Fitting value at (length buffer)
    → (w : Result ℕ Why) (after : List ℕ) → wrote w after ≡ write_number value buffer at
    → (w ≡ Ok (at + length (written_number value))) × (after ≡ put buffer at (written_number value))
stored_whole value at buffer f w after e = wrote_once w _ after _ (e ∙ write_fitting value buffer at f.most f.room)

-- Bytes put behind bytes put.
put_put : (s : List ℕ) (at : ℕ) (x y : List ℕ) → at + length x ≤ length s → put (put s at x) (at + length x) y ≡ put s at (x ++ y)
unfolding put
put_put s at x y h =
    let d = drop (at + length x) s in
    let l : length (take at s ++ x) ≡ at + length x = length-append (take at s) x ∙ ap (λ (k : ℕ). k + length x) (length-take-le at s (omega arith)) in
    let f : drop (at + length x + length y) (take at s ++ x ++ d) ≡ drop (at + length x + length y) s
    = sym (drop-drop (length y) (at + length x) (take at s ++ x ++ d))
    ∙ ap (drop (length y)) (drop_at (take at s ++ x) d (at + length x) l)
    ∙ drop-drop (length y) (at + length x) s in
    rw (← append_assoc (take at s) x d, take_at (take at s ++ x) d (at + length x) l, f) (simp (append_assoc, length-append, add_assoc))

-- The words from `i` on are still to be put at `at`, and give what all of them give from `begin` on.
pub record Putting (words from : List ℕ) (begin i at : ℕ) (buffer : List ℕ) : Type 0 where
  pub left : put buffer at (written_words (drop i words)) ≡ put from begin (written_words words)
  pub room : at + length (written_words (drop i words)) ≤ length buffer
  pub upto : i ≤ length words
  pub long : length buffer ≡ length from

module _ {n : ℕ} {words buffer : List ℕ} (r : Room n words buffer) where
  both : length (written_number n) + length (written_words words) ≤ length buffer
  both = (rw length-append at r.room)

  pub putting_fits : Fitting n 0 (length buffer)
  putting_fits = record { most = r.first; room = omega (arith, both) }

  module _ {at : ℕ} {after : List ℕ} (s : Stored n 0 buffer at after) where
    pub putting_long : length after ≡ length buffer
    putting_long = ap length s.bytes ∙ length_put buffer 0 (written_number n) putting_fits.room

    pub putting_starts : Putting words after at 0 at after
    putting_starts = record { left = refl; room = omega (arith, both, s.end, putting_long); upto = omega arith; long = refl }

    pub putting_whole : put after at (written_words words) ≡ put buffer 0 (written_number n ++ written_words words)
    putting_whole = rw (s.end, s.bytes) (put_put buffer 0 (written_number n) (written_words words) putting_fits.room)

module _ {words from : List ℕ} {begin i at : ℕ} {buffer : List ℕ} (w : Putting words from begin i at buffer) where
  pub putting_ends : length words ≤ i → buffer ≡ put from begin (written_words words)
  unfolding written_words
  putting_ends h = sym (put_none buffer at) ∙ (rw (drop_of_length-le words h) at w.left)

  module _ (h : i < length words) where
    more : written_words (drop i words) ≡ written_number (get_or words i 0) ++ written_words (drop (i + 1) words)
    unfolding written_words
    more = rw (add-one, drop-cons words i 0 h) refl

    pub putting_more : get_or words i 0 ≤ value_most → Fitting (get_or words i 0) at (length buffer)
    putting_more k = record { most = k; room = let m = more in let v = w.room in omega (arith, ap length m, length-append (written_number (get_or words i 0)) (written_words (drop (i + 1) words))) }

    pub putting_on : (r : ℕ) (after : List ℕ) → Stored (get_or words i 0) at buffer r after → Putting words from begin (i + 1) r after
    putting_on r after s =
        let z = ap length more ∙ length-append (written_number (get_or words i 0)) (written_words (drop (i + 1) words)) in
        let f : at + length (written_number (get_or words i 0)) ≤ length buffer = let v = w.room in omega arith in
        let l = length_put buffer at (written_number (get_or words i 0)) f in
        record {
          left = rw (s.end, s.bytes) (put_put buffer at _ _ f ∙ rw (← more) w.left);
          room = rw (s.end, s.bytes, l) (let v = w.room in omega arith);
          upto = omega arith;
          long = ap length s.bytes ∙ l ∙ w.long;
        }

-- What the words of an accepted list are.
pub record Worded (n : ℕ) (words : List ℕ) (ls : List Link) : Type 0 where
  pub sound : Sound n ls
  pub same : words_of ls ≡ words
  pub bytes : written_words words ≡ written_links ls
  pub below : (i : ℕ) → get_or words i 0 ≤ n

below_two : (n a b : ℕ) (ws : List ℕ) → a < n → b < n → ((i : ℕ) → get_or ws i 0 ≤ n) → (i : ℕ) → get_or (a ∷ b ∷ ws) i 0 ≤ n
below_two n a b ws f g h zero = omega arith
below_two n a b ws f g h (suc zero) = omega arith
below_two n a b ws f g h (suc (suc i)) = h i

pub words_accepted : (n : ℕ) (words : List ℕ) (ls : List Link) → word_links n words ≡ gives ls → Worded n words ls
unfolding word_links before words_of written_words written_links
words_accepted n [] ls e =
    let z : [] ≡ ls = cc in
    let it : Worded n [] [] = record { sound = tt; same = refl; bytes = refl; below = λ i. omega arith } in
    rw z at it
words_accepted n (a ∷ []) ls e = absurd (never_both {number = 8} {place = 0} e refl)
words_accepted n (a ∷ b ∷ ws) ls e =
    let (f, g, h, r) = joins_gives n a b 0 _ ls e in
    let (ms, q, z) = and_then_gives (word_links n ws) _ ls r in
    let w = words_accepted n ws ms q in
    let y : (a, b) ∷ ms ≡ ls = cc in
    let it : Worded n (a ∷ b ∷ ws) ((a, b) ∷ ms) = record {
      sound = (f, g, h, w.sound);
      same = rw w.same refl;
      bytes = rw w.bytes refl;
      below = below_two n a b ws f g w.below;
    } in
    rw y at it

store_refused : (n : ℕ) (buffer : List ℕ) (number place : ℕ) (x : Answer (List Link))
    → (and_then x λ ls. gives (length (written_list n ls))) ≡ refuses number place
    → record { answer = refuses number place; buffer = buffer } ≡ store_list n buffer x
unfolding and_then store_list
store_refused n buffer number place (gives ls) p = absurd (never_both refl p)
store_refused n buffer number place (refuses k q) p =
    let y : number ≡ k = cc in
    let z : place ≡ q = cc in
    rw (y, z) refl

-- The writer's answers by the list's size.
module _ (n : ℕ) (words buffer : List ℕ) where
  pub write_refused : (number place : ℕ) → list_size n words ≡ refuses number place
      → record { answer = refuses number place; buffer = buffer } ≡ write_list n words buffer
  unfolding write_list list_size
  write_refused number place e = store_refused n buffer number place (sized n (word_links n words)) e

  -- An accepted list of that size.
  module _ (size : ℕ) (ls : List Link) (e : sized n (word_links n words) ≡ gives ls) (z : size ≡ length (written_list n ls)) where
    short : length buffer < size → record { answer = refuses 3 0; buffer = buffer } ≡ write_list n words buffer
    unfolding write_list store_list
    short h = rw e (let k : length buffer < length (written_list n ls) = omega arith in simp tests)

    same : written_number n ++ written_words words ≡ written_list n ls
    unfolding written_list
    same = rw (words_accepted n words ls (sized_gives n (word_links n words) ls e).2).bytes refl

    module _ (h : size ≤ length buffer) where
      room : Room n words buffer
      room =
          let (f, g, q) = sized_gives n (word_links n words) ls e in
          record {
            first = omega arith;
            most = λ i. omega (arith, (words_accepted n words ls q).below i);
            room = rw same (omega arith);
          }

      finished : (after : List ℕ) → after ≡ put buffer 0 (written_number n ++ written_words words)
          → record { answer = gives size; buffer = after } ≡ write_list n words buffer
      unfolding write_list store_list
      finished after y = rw (e, z, y, same) (let k : length (written_list n ls) ≤ length buffer = omega arith in simp tests)

  module _ (size : ℕ) (e : list_size n words ≡ gives size) where
    accepted : (ls : List Link) × (sized n (word_links n words) ≡ gives ls) × (size ≡ length (written_list n ls))
    unfolding list_size
    accepted = let (ls, p, q) = and_then_gives (sized n (word_links n words)) _ size e in (ls, p, cc)

    pub write_short : length buffer < size → (answer : Answer ℕ) → answer ≡ refuses 3 0
        → record { answer = answer; buffer = buffer } ≡ write_list n words buffer
    write_short h answer z = rw z (short size accepted.0 accepted.1 accepted.2 h)

    pub write_room : size ≤ length buffer → Room n words buffer
    write_room h = room size accepted.0 accepted.1 accepted.2 h

    pub write_done : size ≤ length buffer → (after : List ℕ) → after ≡ put buffer 0 (written_number n ++ written_words words)
        → record { answer = gives size; buffer = after } ≡ write_list n words buffer
    write_done h after z = finished size accepted.0 accepted.1 accepted.2 h after z
