-- What holds of reading and writing with any greatest number of groups.
-- Assumes nothing.
use Rattle.std.specs.Prelude.{ℕ, zero, suc, ◌+◌, ◌-◌, ◌*◌, ◌^◌, ◌/◌, ◌%◌, ◌<◌, ◌≤◌, ◌≡◌, List, [], ◌∷◌, ◌++◌, Bool, true, false, ◌⊎◌, ltb, length, take, drop}
use native.Mathlib.Omega.{arith}
use Rattle.std.proofs.Math.Decide.{dec_lt}
use Rattle.std.proofs.Common.{pow-suc, add-suc, ap, inl, inr}
use Rattle.std.proofs.Math.Nat.{sub-zero, zero-sub, suc-sub-suc}
use Rattle.std.proofs.Math.Path.{refl}
use Rattle.std.proofs.Math.Seq.{take-nil}
use Rattle.base.specs.Pick.{pick, pick_all, tests}
use Rattle.base.specs.Answer.{Answer, gives, refuses}
use Rattle.numbers.specs.Number.{Numeral, onto, read_groups, at_most, groups_of}
use Rattle.numbers.specs.Words.{Bytes, seen_groups, Whole, moved}

pub drop_take : (a c : ℕ) (s : List ℕ) → take (c - a) (drop a s) ≡ drop a (take c s)
drop_take zero c s = rw (sub-zero c)
drop_take (suc a) zero s = rw (zero-sub (suc a))
drop_take (suc a) (suc c) [] = take-nil (suc c - suc a)
drop_take (suc a) (suc c) (x ∷ s) = rw (suc-sub-suc c a) (drop_take a c s)

-- What is seen.

pub seen_few : (groups : ℕ) (s : List ℕ) → seen_groups groups s ≤ groups
unfolding seen_groups
seen_few zero s = omega arith
seen_few (suc groups) [] = omega arith
seen_few (suc groups) (b ∷ s) = pick_all (λ (k : ℕ). k ≤ suc groups) _ _ _ (omega arith) (omega (arith, seen_few groups s))

pub seen_within : (groups : ℕ) (s : List ℕ) → seen_groups groups s ≤ length s
unfolding seen_groups
seen_within zero s = omega arith
seen_within (suc groups) [] = omega arith
seen_within (suc groups) (b ∷ s) = pick_all (λ (k : ℕ). k ≤ suc (length s)) _ _ _ (omega arith) (omega (arith, seen_within groups s))

seen_some : (groups b : ℕ) (s : List ℕ) → 0 < seen_groups (suc groups) (b ∷ s)
unfolding seen_groups
seen_some groups b s = pick_all (λ (k : ℕ). 0 < k) _ _ _ (omega arith) (omega arith)

-- What is read from two lists that agree as far as one of them is seen.

whole_onto : (low scale : ℕ) (a : Answer Numeral) → Whole (onto low scale a) → Whole a
unfolding onto
whole_onto low scale (gives n) w = tt
whole_onto low scale (refuses number place) w = w

pub whole_most : (most : ℕ) (a : Answer Numeral) → Whole (at_most most a) → Whole a
unfolding at_most
whole_most most (gives n) w = tt
whole_most most (refuses number place) w = w

pub groups_only : (groups least : ℕ) (s t : List ℕ) (at c : ℕ) → seen_groups groups s ≤ c → take c s ≡ take c t → Whole (read_groups groups least s at)
    → read_groups groups least t at ≡ read_groups groups least s at
unfolding seen_groups read_groups
groups_only zero least s t at c h e w = refl
groups_only (suc groups) least [] t at c h e w = absurd (w refl)
groups_only (suc groups) least (b ∷ s) t at zero h e w = absurd (omega (arith, seen_some groups b s))
groups_only (suc groups) least (b ∷ s) [] at (suc c) h e w = absurd (omega (arith, ap length e))
groups_only (suc groups) least (b ∷ s) (d ∷ t) at (suc c) h e w =
    let p : d ≡ b = cc in
    let q : take c s ≡ take c t = cc in
    rw p
    (elim (dec_lt b 128) [
      | yes k ↦ simp tests
      | no k ↦
          let l : 128 ≤ b = omega arith in
          let m : seen_groups groups s ≤ c = omega (arith, simp tests at h) in
          simp tests (ap (onto (b % 128) 128) (groups_only groups 1 s t (suc at) c m q (whole_onto _ _ _ (simp tests at w))))
    ])

-- What an answer says of the bytes.

pub record Stands (groups least : ℕ) (s : List ℕ) (at : ℕ) (n : Numeral) : Type 0 where
  pub ends : n.next ≡ at + seen_groups groups s
  pub some : 0 < seen_groups groups s
  pub low : least ≤ n.value
  pub form : Bytes s → take (seen_groups groups s) s ≡ groups_of groups n.value

pub record Stopped (groups : ℕ) (s : List ℕ) (number place : ℕ) : Type 0 where
  pub kind : (number ≡ 7) ⊎ (number ≡ 8)
  pub nowhere : place ≡ 0
  pub all : number ≡ 8 → seen_groups groups s ≡ length s

abbrev pub Says : (groups least : ℕ) → List ℕ → ℕ → Answer Numeral → Type 0
Says groups least s at (gives n) = Stands groups least s at n
Says groups least s at (refuses number place) = Stopped groups s number place

pub stopped : (groups : ℕ) (s : List ℕ) → Stopped groups s 7 0
stopped groups s = record { kind = inl refl; nowhere = refl; all = λ e. absurd (omega arith) }

-- A byte with its top bit set, before what the further groups say.
says_onto : (groups least b : ℕ) (s : List ℕ) (at : ℕ) (a : Answer Numeral) → 128 ≤ b → least ≤ 1 → Says groups 1 s (suc at) a
    → Says (suc groups) least (b ∷ s) at (onto (b % 128) 128 a)
unfolding onto seen_groups groups_of
says_onto groups least b s at (gives n) h l z = record {
  ends = simp tests (omega arith);
  some = simp tests (omega arith);
  low = omega arith;
  form = λ y.
      let v = b % 128 + 128 * n.value in
      let m : 128 ≤ v = omega arith in
      let p : v % 128 + 128 ≡ b = omega (arith, y 0) in
      let q : v / 128 ≡ n.value = omega arith in
      simp tests (rw (p, q, z.form (λ i. y (suc i))));
}
says_onto groups least b s at (refuses number place) h l z = record { kind = z.kind; nowhere = z.nowhere; all = λ e. simp tests (ap suc (z.all e)) }

says_last : (groups least b : ℕ) (s : List ℕ) (at : ℕ) → b < 128
    → Says (suc groups) least (b ∷ s) at (pick (ltb b least) (refuses 7 0) (gives (record { value = b; next = suc at })))
unfolding seen_groups groups_of
says_last groups least b s at k =
    elim (dec_lt b least) [
      | yes m ↦ simp tests (stopped (suc groups) (b ∷ s))
      | no m ↦
          let h : least ≤ b = omega arith in
          let z : Stands (suc groups) least (b ∷ s) at (record { value = b; next = suc at }) =
          record { ends = simp tests (omega arith); some = simp tests (omega arith); low = h; form = λ y. simp tests } in
          simp tests z
    ]

pub groups_say : (groups least : ℕ) (s : List ℕ) (at : ℕ) → least ≤ 1 → Says groups least s at (read_groups groups least s at)
unfolding read_groups seen_groups
groups_say zero least s at l = stopped zero s
groups_say (suc groups) least [] at l = record { kind = inr refl; nowhere = refl; all = λ e. refl }
groups_say (suc groups) least (b ∷ s) at l =
    elim (dec_lt b 128) [
      | yes k ↦ simp tests (says_last groups least b s at k)
      | no k ↦
          let h : 128 ≤ b = omega arith in
          simp tests (says_onto groups least b s at _ h l (groups_say groups 1 s (suc at) (omega arith)))
    ]

-- Positions are counted from where the first byte stands.

moved_onto : (k low scale : ℕ) (a : Answer Numeral) → onto low scale (moved k a) ≡ moved k (onto low scale a)
unfolding onto
moved_onto k low scale (gives n) = refl
moved_onto k low scale (refuses number place) = refl

moved_pick : (k : ℕ) (t : Bool) (a b : Answer Numeral) → moved k (pick t a b) ≡ pick t (moved k a) (moved k b)
unfolding pick
moved_pick k true a b = refl
moved_pick k false a b = refl

pub moved_most : (k most : ℕ) (a : Answer Numeral) → at_most most (moved k a) ≡ moved k (at_most most a)
unfolding at_most
moved_most k most (gives n) = simp moved_pick
moved_most k most (refuses number place) = refl

pub moved_groups : (k groups least : ℕ) (s : List ℕ) (at : ℕ) → read_groups groups least s (k + at) ≡ moved k (read_groups groups least s at)
unfolding read_groups
moved_groups k zero least s at = refl
moved_groups k (suc groups) least [] at = refl
moved_groups k (suc groups) least (b ∷ s) at = simp (moved_pick, ← add-suc, moved_groups k groups 1 s (suc at), moved_onto)

-- What is written is read.

pub same_number : {a b p q : ℕ} → a ≡ b → p ≡ q → ◌≡◌ {A = Answer Numeral} (gives (record { value = a; next = p })) (gives (record { value = b; next = q }))
same_number d e = rw (d, e)

module _ (groups least v : ℕ) (rest : List ℕ) (at : ℕ) where
  written_last : v < 128 → least ≤ v
      → read_groups (suc groups) least (groups_of (suc groups) v ++ rest) at ≡ gives (record { value = v; next = at + length (groups_of (suc groups) v) })
  unfolding read_groups groups_of
  written_last h m = simp tests (same_number refl (omega arith))

  written_more : 128 ≤ v
      → read_groups groups 1 (groups_of groups (v / 128) ++ rest) (suc at) ≡ gives (record { value = v / 128; next = suc at + length (groups_of groups (v / 128)) })
      → read_groups (suc groups) least (groups_of (suc groups) v ++ rest) at ≡ gives (record { value = v; next = at + length (groups_of (suc groups) v) })
  unfolding read_groups groups_of onto
  written_more h z =
      let k : 128 ≤ v % 128 + 128 = omega arith in
      simp tests (rw z (same_number (omega arith) (omega arith)))

pub groups_written : (groups least v : ℕ) (rest : List ℕ) (at : ℕ) → v < 128 ^ suc groups → least ≤ 1 → least ≤ v
    → read_groups (suc groups) least (groups_of (suc groups) v ++ rest) at ≡ gives (record { value = v; next = at + length (groups_of (suc groups) v) })
groups_written zero least v rest at h l m = written_last zero least v rest at h m
groups_written (suc groups) least v rest at h l m =
    elim (dec_lt v 128) [
      | yes k ↦ written_last (suc groups) least v rest at k m
      | no k ↦
          written_more (suc groups) least v rest at (omega arith)
          (groups_written groups 1 (v / 128) rest (suc at) (omega (arith, pow-suc 128 (suc groups))) (omega arith) (omega arith))
    ]
