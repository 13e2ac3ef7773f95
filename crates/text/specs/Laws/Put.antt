-- Text one behind another, and how long it is.
-- Assumes nothing.
use Rattle.std.specs.Prelude.{ℕ, zero, suc, ◌+◌, ◌/◌, ◌%◌, ◌^◌, ◌<◌, ◌≤◌, Bool, true, false, ◌≡◌, refl, take, get_or, set}
use mathlib.Core.List.{List, [], ◌∷◌, ◌++◌, append_assoc}
use Rattle.std.proofs.Common.{sym, ◌∙◌, arith, add-zero, add-suc, suc-add, add-one, length-append, take-suc}
use Rattle.std.proofs.Math.Path.{ap}
use Rattle.std.proofs.Math.Decide.{dec_lt}
use Rattle.std.proofs.Math.ListN.{length}
use Rattle.std.proofs.Math.Seq.{sets, sets-eq, length-sets, set_out, take-length}
use Rattle.base.specs.Pick.{pick_true, pick_false, tests}
use Rattle.base.specs.Answer.{Answer, gives, refuses}
use Rattle.numbers.specs.Number.{put}
use Rattle.text.specs.Lines.{digits_in, decimal, item, cut_word, store}
use Rattle.text.specs.Put.{Put, Line, ample, within}

sets_append : (xs ys out : List ℕ) (at : ℕ) → sets (sets out at xs) (at + length xs) ys ≡ sets out at (xs ++ ys)
sets_append [] ys out at = rw add-zero refl
sets_append (x ∷ xs) ys out at = ap (λ (i : ℕ). sets (sets (set out at x) (suc at) xs) i ys) (add-suc at (length xs) ∙ sym (suc-add at (length xs))) ∙ sets_append xs ys (set out at x) (suc at)

-- Nothing, one text behind another.
pub put_none : (at : ℕ) (out : List ℕ) → Put [] at out at out
put_none at out = record { end = omega arith; stored = refl }

pub put_then : {xs ys : List ℕ} {at r q : ℕ} {out mid after : List ℕ} → Put xs at out r mid → Put ys r mid q after → Put (xs ++ ys) at out q after
put_then {xs} {ys} {at} {r} {q} {out} {mid} {after} p t = record {
  end = simp length-append (omega (arith, p.end, t.end));
  stored = t.stored ∙ rw (p.stored, p.end) (sets_append xs ys out at);
}

-- The number's digits: those of its quotient by 10, and its remainder.
digits_more : (k j x : ℕ) → x < k → x < j → digits_in k x ≡ digits_in j x
unfolding digits_in
digits_more zero j x h g = absurd (omega arith)
digits_more (suc k) zero x h g = absurd (omega arith)
digits_more (suc k) (suc j) x h g = elim (dec_lt x 10) [
  | yes l ↦ simp tests
  | no l ↦
      let m : 10 ≤ x = omega arith in
      let e = digits_more k j (x / 10) (omega arith) (omega arith) in
      simp tests (ap (λ (d : List ℕ). d ++ ((x % 10 + 48) ∷ [])) e)
]

pub decimal_last : (x : ℕ) → x < 10 → decimal x ≡ (x % 10 + 48) ∷ []
unfolding decimal digits_in
decimal_last x h = simp tests

pub decimal_more : (x : ℕ) → 10 ≤ x → decimal x ≡ decimal (x / 10) ++ ((x % 10 + 48) ∷ [])
unfolding decimal digits_in
decimal_more x h = simp tests (ap (λ (d : List ℕ). d ++ ((x % 10 + 48) ∷ [])) (digits_more x (suc (x / 10)) (x / 10) (omega arith) (omega arith)))

pub digits_few : (k x : ℕ) → x < 10 ^ suc k → length (decimal x) ≤ suc k
digits_few zero x h = rw (decimal_last x (omega arith)) (omega arith)
digits_few (suc k) x h = elim (dec_lt x 10) [
  | yes l ↦ rw (decimal_last x l) (omega arith)
  | no l ↦ let i = digits_few k (x / 10) (omega arith) in rw (decimal_more x (omega arith)) (simp length-append (omega arith))
]

pub decimal_few : (x : ℕ) → x < 2 ^ 64 → length (decimal x) ≤ 20
decimal_few x h = digits_few 19 x (omega arith)

-- A byte for which there is no room.
pub put_out : (b at : ℕ) (out : List ℕ) → length out ≤ at → Put (b ∷ []) at out (at + 1) out
put_out b at out h = record { end = omega arith; stored = sym (set_out out at b h) }

pub put_is : {xs ys : List ℕ} {at r : ℕ} {out after : List ℕ} → xs ≡ ys → Put xs at out r after → Put ys at out r after
put_is e p = record { end = p.end ∙ rw e refl; stored = p.stored ∙ rw e refl }

pub put_length : {xs : List ℕ} {at r : ℕ} {out after : List ℕ} → Put xs at out r after → length after ≡ length out
put_length {xs} {at} {r} {out} {after} p = ap length p.stored ∙ length-sets out at xs

-- A word is written byte by byte.
pub word_more : (bytes : List ℕ) (i : ℕ) {at end r : ℕ} {out mid after : List ℕ} → i < length bytes → Put (take i bytes) at out end mid
    → Put (get_or bytes i 0 ∷ []) end mid r after → Put (take (i + 1) bytes) at out r after
word_more bytes i h p q = put_is (sym (take-suc bytes i 0 h) ∙ ap (λ (k : ℕ). take k bytes) (sym (add-one i))) (put_then p q)

pub word_done : (bytes : List ℕ) (i : ℕ) {at end : ℕ} {out mid : List ℕ} → i ≡ length bytes → Put (take i bytes) at out end mid → Put bytes at out end mid
word_done bytes i h p = put_is (rw h (take-length bytes)) p

pub decimal_end : (x : ℕ) {at r : ℕ} {out after : List ℕ} → Put (decimal x) at out r after → x < 2 ^ 64 → r ≤ at + 20
decimal_end x p h = omega (arith, decimal_few x h, p.end)

-- A word of at most 20 letters and a number behind it.
pub line_item : (w : List ℕ) (x : ℕ) {at m r : ℕ} {out mid after : List ℕ} → length w ≤ 20 → x < 2 ^ 64 → Put w at out m mid → Put (decimal x) m mid r after
    → Line (item w x) 40 at out r after
unfolding item
line_item w x h l p q = record { put = put_then p q; short = omega (arith, decimal_end x q l, p.end) }

-- Lines one behind another.
pub line_then : {xs ys : List ℕ} {a b at r q : ℕ} {out mid after : List ℕ} → Line xs a at out r mid → Line ys b r mid q after → Line (xs ++ ys) (a + b) at out q after
line_then p t = record { put = put_then p.put t.put; short = omega (arith, p.short, t.short) }

pub line_less : {xs : List ℕ} {a b at r : ℕ} {out after : List ℕ} → a ≤ b → Line xs a at out r after → Line xs b at out r after
line_less h p = record { put = p.put; short = omega (arith, p.short) }

pub line_put : {xs : List ℕ} {a at r : ℕ} {out after : List ℕ} → length xs ≤ a → Put xs at out r after → Line xs a at out r after
line_put h p = record { put = p; short = omega (arith, p.end) }

pub cut_yes : (c : Bool) {at r : ℕ} {out after : List ℕ} → c ≡ true → Put (32 ∷ 99 ∷ 117 ∷ 116 ∷ 32 ∷ 121 ∷ 101 ∷ 115 ∷ 10 ∷ []) at out r after → Line (cut_word c) 20 at out r after
unfolding cut_word
cut_yes c e p = record { put = put_is (rw e (sym (pick_true _ _))) p; short = omega (arith, p.end) }

pub cut_no : (c : Bool) {at r : ℕ} {out after : List ℕ} → c ≡ false → Put (32 ∷ 99 ∷ 117 ∷ 116 ∷ 32 ∷ 110 ∷ 111 ∷ 10 ∷ []) at out r after → Line (cut_word c) 20 at out r after
unfolding cut_word
cut_no c e p = record { put = put_is (rw e (sym (pick_false _ _))) p; short = omega (arith, p.end) }

-- A line where it is within the greatest position, and where it is not.
module _ {xs : List ℕ} {m at r : ℕ} {out after : List ℕ} where
  pub within_line : at ≤ ample → Line xs m at out r after → Line (within at xs) m at out r after
  unfolding within
  within_line h p = simp tests p

  pub within_back : at ≤ ample → Line (within at xs) m at out r after → Line xs m at out r after
  unfolding within
  within_back h p = (simp tests at p)

pub within_none : (xs : List ℕ) (m at : ℕ) (out : List ℕ) → ample < at → Line (within at xs) m at out at out
unfolding within
within_none xs m at out h = simp tests (record { put = put_none at out; short = omega arith })

-- What a run over no room leaves.
sets_none : (xs : List ℕ) (at : ℕ) → sets [] at xs ≡ []
sets_none [] at = refl
sets_none (x ∷ xs) at = sets_none xs (suc at)

-- Text whose length a run over no room, in front of the buffer, has told is stored, or refused where there is no room.
module _ {bytes : List ℕ} {size : ℕ} {none : List ℕ} (p : Put bytes 0 [] size none) (out : List ℕ) where
  as_was : none ++ out ≡ out
  as_was = rw (p.stored, sets_none bytes 0)

  pub store_short : (a : Answer ℕ) → a ≡ refuses 3 0 → length (none ++ out) < size → record { answer = a; buffer = none ++ out } ≡ store out bytes
  unfolding store
  store_short a e h =
      let l : length out < length bytes = omega (arith, p.end, ap length as_was) in
      rw (e, as_was) (simp tests)

  pub store_done : (r : ℕ) (after : List ℕ) → size ≤ length (none ++ out) → Put bytes 0 (none ++ out) r after
      → record { answer = gives size; buffer = after } ≡ store out bytes
  unfolding store put
  store_done r after h q =
      let l : length bytes ≤ length out = omega (arith, p.end, ap length as_was) in
      let e : size ≡ length bytes = omega (arith, p.end) in
      let g : after ≡ put out 0 bytes = q.stored ∙ ap (λ (o : List ℕ). sets o 0 bytes) as_was ∙ sets-eq bytes out 0 (omega arith) ∙ append_assoc [] bytes _ in
      rw (e, g) (simp tests)
