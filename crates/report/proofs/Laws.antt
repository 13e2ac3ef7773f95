-- What is heard of a read.
-- Assumes nothing.
use Rattle.std.specs.Prelude.{ℕ, ◌+◌, ◌<◌, ◌≤◌, Bool, true, false, List, ◌++◌, ◌≡◌, eqb, length, take, drop, Option, None, Some, ◌-◌, Result, Ok, Err, is_none, unwrap_or}
use Rattle.std.specs.Io.KnownBytes.{Appends, Consumes, IsAtEnd, Keeps, ReadConsumes}
use Rattle.std.proofs.Common.{sym, ap, subst, ◌∙◌, arith, lt-ltb, le-ltb, eq-eqb, ne_eqb}
use Rattle.std.proofs.Math.Decide.{dec_lt}
use Rattle.std.proofs.Math.Seq.{drop-append_seam, take-add}
use Rattle.std.proofs.lemmas.List.{length-take-le, take-append-le, append_assoc}
use borrow.Rule.Slice.PartMut.{put_mid, post_of}
use Rattle.base.specs.Pick.{pick_true, pick_false, pick_all, tests}
use Rattle.telling.specs.declared.Heard.{Heard}
use Rattle.telling.specs.declared.Heard.TheVariants.{Bytes, End, Failed, NoFile}
use Rattle.report.specs.Reading.{Silent, heard_of, Fits, Gives}
use Rattle.std.specs.Io.{ReadsAtMost}
use Rattle.std.specs.Result.{result_ok}

module _ (failed : Bool) (room count : ℕ) where
  pub heard_failed : failed ≡ true → Failed ≡ heard_of failed room count
  unfolding heard_of
  heard_failed e = rw e (sym (pick_true _ _))

  pub heard_more : failed ≡ false → room < count → Failed ≡ heard_of failed room count
  unfolding heard_of
  heard_more e l = rw e (sym (pick_false _ _ ∙ simp tests))

  pub heard_end : failed ≡ false → count ≤ room → count ≡ 0 → End ≡ heard_of failed room count
  unfolding heard_of
  heard_end e l z = rw e (sym (pick_false _ _ ∙ simp tests))

  pub heard_bytes : failed ≡ false → count ≤ room → (count ≡ 0 → ⊥) → Bytes count ≡ heard_of failed room count
  unfolding heard_of
  heard_bytes e l z = rw e (sym (pick_false _ _ ∙ simp tests))

-- So many bytes are in the buffer.
pub heard_fits : (failed : Bool) (room count have : ℕ) (b : List ℕ) → have + room ≤ length b → Fits have (heard_of failed room count) b
unfolding heard_of
heard_fits true room count have b l = rw pick_true tt
heard_fits false room count have b l = rw pick_false (elim (dec_lt room count) [
  | yes k ↦ rw (lt-ltb room count k, pick_true) tt
  | no k ↦ rw (le-ltb room count (omega arith), pick_false) (pick_all (λ (x : Heard). Fits have x b) (eqb count 0) End (Bytes count) tt (omega arith))
])

pub silent_fits : (r : Heard) (have : ℕ) (b : List ℕ) → Silent r → Fits have r b
silent_fits (Bytes count) have b s = absurd s
silent_fits End have b s = absurd s
silent_fits Failed have b s = tt
silent_fits NoFile have b s = tt

-- What was read stands behind the front.
pub read_behind : (have k count : ℕ) (b new : List ℕ) → have ≤ length b → count ≤ length new → take count (drop have (put_mid have k b new)) ≡ take count new
read_behind have k count b new h l =
    let rest = new ++ post_of have k b in
    ap (take count) (subst (λ (n : ℕ). drop n (take have b ++ rest) ≡ rest) (length-take-le have b h) (drop-append_seam (take have b) rest))
    ∙ take-append-le count new (post_of have k b) l

pub heard_gives : (left left' : Option (List ℕ)) (room count have : ℕ) (b : List ℕ) → count ≤ room → Consumes left left' (take count (drop have b)) → (count ≡ 0 → IsAtEnd left') → Gives left left' have (heard_of false room count) b
unfolding heard_of
heard_gives left left' room count have b l c e = rw (pick_false, le-ltb room count l, pick_false) (elim (dec_lt 0 count) [
  | yes k ↦ rw (ne_eqb count 0 (λ z. omega (arith, z, k)), pick_false) c
  | no k ↦
      let z : count ≡ 0 = omega (arith, k) in
      rw (eq-eqb count 0 z, pick_true) (subst (λ (n : ℕ). Consumes left left' (take n (drop have b))) z c, e z)
])

pub failed_gives : (left left' : Option (List ℕ)) (room have : ℕ) (b : List ℕ) → Keeps left left' → Gives left left' have (heard_of true room 0) b
unfolding heard_of
failed_gives left left' room have b k = rw pick_true k

-- What was written, and a part more.
pub wrote_more : (held held' held'' : Option (List ℕ)) (done n : ℕ) (text : List ℕ) → Appends held held' (take done text) → Appends held' held'' (take n (drop done text))
    → Appends held held'' (take (done + n) text)
wrote_more None held' held'' done n text a b = tt
wrote_more (Some xs) None held'' done n text a b = absurd a
wrote_more (Some xs) (Some ys) None done n text a b = absurd b
wrote_more (Some xs) (Some ys) (Some zs) done n text a b = b ∙ ap (λ (l : List ℕ). l ++ take n (drop done text)) a ∙ append_assoc xs (take done text) (take n (drop done text)) ∙ ap (λ (l : List ℕ). xs ++ l) (sym (take-add done n text))

-- What is heard of a read that put its bytes behind the front: those, that none was left, or that it failed and took none.
pub read_gives : {E : Type 0} (left left' : Option (List ℕ)) (have : ℕ) (b new : List ℕ) (read : Result ℕ E) (told : Option ℕ) (r : Heard) → have < length b → length new ≡ length b - have
    → ReadsAtMost read new → ReadConsumes left left' read new → told ≡ result_ok read → r ≡ heard_of (is_none told) (length b - have) (unwrap_or told 0)
    → Gives left left' have r (put_mid have (length b - have) b new)
unfolding heard_of
read_gives left left' have b new (Err x) told r h l n k t e = rw (e, t, pick_true) k
read_gives left left' have b new (Ok count) told r h l n (c, z) t e = rw (e, t, pick_false, le-ltb (length b - have) count (omega arith), pick_false) (elim (dec_lt 0 count) [
  | yes k ↦ rw (ne_eqb count 0 (λ z. omega (arith, z, k)), pick_false, read_behind have (length b - have) count b new (omega arith) n.0) c
  | no k ↦
      let z' : count ≡ 0 = omega (arith, k) in
      rw (eq-eqb count 0 z', pick_true) (subst (λ (n : ℕ). Consumes left left' (take n new)) z' c, z z' (omega arith))
])
