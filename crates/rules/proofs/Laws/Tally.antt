-- Counting the entries of a list of links, and the bound of a union.
-- Assumes nothing.
use Rattle.std.specs.Prelude.{ℕ, zero, suc, ◌+◌, ◌*◌, ◌≤◌, ◌<◌, ◌≡◌, Bool, true, false, ◌||◌, List, [], ◌∷◌, T}
use Rattle.std.proofs.Common.{arith, mul-suc}
use Rattle.base.specs.Truth.{T_dec}
use Rattle.base.specs.Link.{Link}
use Rattle.rules.specs.Links.{tally}
use Rattle.rules.specs.Search.{count, some, sum}
use Rattle.rules.proofs.Laws.Search.{count_yes, count_no}
use Rattle.rules.proofs.Laws.Split.{bit, bit_le, tally_cons, tally_nil, Entry, entry_head, entry_tail, tally_none}

-- A test that every entry passes which passes another counts as many or more.
pub tally_mono : (p q : Link → Bool) (g : List Link) → ((e : Link) → Entry g e → T (p e) → T (q e)) → tally p g ≤ tally q g
tally_mono p q [] f = omega (arith, tally_nil p, tally_nil q)
tally_mono p q (x ∷ g) f =
    omega (arith, tally_cons p x g, tally_cons q x g, bit_le (p x) (q x) (f x (entry_head x g)), tally_mono p q g (λ e h. f e (entry_tail x g e h)))

bit_or : (a b : Bool) → bit (a || b) ≤ bit a + bit b
unfolding bit
bit_or true b = omega arith
bit_or false b = omega arith

tally_or : (p q : Link → Bool) (g : List Link) → tally (λ l. p l || q l) g ≤ tally p g + tally q g
tally_or p q [] = omega (arith, tally_nil (λ l. p l || q l))
tally_or p q (x ∷ g) = omega (arith, tally_cons (λ l. p l || q l) x g, tally_cons p x g, tally_cons q x g, bit_or (p x) (q x), tally_or p q g)

-- A union counts at most what its parts count together.
pub tally_some : (q : ℕ → Link → Bool) (g : List Link) (m : ℕ) → tally (λ l. some (λ i. q i l) m) g ≤ sum (λ i. tally (q i) g) m
unfolding some sum
tally_some q g zero = omega (arith, tally_none (λ l. false) g (λ e h f. f))
tally_some q g (suc m) = omega (arith, tally_or (q m) (λ l. some (λ i. q i l) m) g, tally_some q g m)

-- A sum with a bound for each part, and one whose parts are nothing where a test fails.
pub sum_most : (f : ℕ → ℕ) (d n : ℕ) → ((i : ℕ) → i < n → f i ≤ d) → sum f n ≤ d * n
unfolding sum
sum_most f d zero h = omega arith
sum_most f d (suc n) h = omega (arith, mul-suc d n, h n (omega arith), sum_most f d n (λ i l. h i (omega arith)))

pub sum_count : (p : ℕ → Bool) (f : ℕ → ℕ) (d n : ℕ) → ((i : ℕ) → f i ≤ d) → ((i : ℕ) → (T (p i) → ⊥) → f i ≡ 0) → sum f n ≤ d * count p n
unfolding sum
sum_count p f d zero h z = omega arith
sum_count p f d (suc n) h z = elim (T_dec (p n)) [
  | yes t ↦ rw (count_yes p n t) (omega (arith, mul-suc d (count p n), h n, sum_count p f d n h z))
  | no t ↦ rw (count_no p n t) (omega (arith, z n t, sum_count p f d n h z))
]
