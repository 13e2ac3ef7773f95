-- Counts and tallies whose tests agree, imply one another, or part another's test in two.
-- Assumes nothing.
use Rattle.std.specs.Prelude.{ℕ, zero, suc, ◌+◌, ◌<◌, ◌≤◌, ◌≡◌, refl, Bool, true, false, cond, ◌&&◌, List, [], ◌∷◌, ◌++◌, ◌⊎◌, length, T}
use Rattle.std.proofs.Common.{sym, ap, ◌∙◌, inl, inr, arith}
use Rattle.base.specs.Link.{Link}
use Rattle.rules.specs.Links.{between, linked, tally}
use Rattle.rules.specs.Search.{count}
use Rattle.rules.proofs.Laws.Search.{count_zero}
pub use Rattle.rules.proofs.Laws.Search.{some_count as count_some}
use Rattle.rules.proofs.Laws.Links.{between_here, between_elim, between_turn, linked_head, linked_tail}

-- A test as a number.
unfoldable pub bit : Bool → ℕ
bit true = 1
bit false = 0

pub bit_yes : (b : Bool) → T b → bit b ≡ 1
unfolding bit
bit_yes true p = refl
bit_yes false p = absurd p

pub bit_no : (b : Bool) → (T b → ⊥) → bit b ≡ 0
unfolding bit
bit_no true p = absurd (p tt)
bit_no false p = refl

pub bit_most : (b : Bool) → bit b ≤ 1
unfolding bit
bit_most true = omega arith
bit_most false = omega arith

pub bit_le : (p r : Bool) → (T p → T r) → bit p ≤ bit r
unfolding bit
bit_le true true f = omega arith
bit_le true false f = absurd (f tt)
bit_le false true f = omega arith
bit_le false false f = omega arith

-- r holds where one of p and q does, and they do not hold together.
pub bit_parts : (r p q : Bool) → (T r → T p ⊎ T q) → (T p → T r) → (T q → T r) → (T p → T q → ⊥) → bit r ≡ bit p + bit q
unfolding bit
bit_parts r true true h f g n = absurd (n tt tt)
bit_parts true true false h f g n = refl
bit_parts false true false h f g n = absurd (f tt)
bit_parts true false true h f g n = refl
bit_parts false false true h f g n = absurd (g tt)
bit_parts true false false h f g n = elim (h tt) [ inl x ↦ absurd x | inr x ↦ absurd x ]
bit_parts false false false h f g n = refl

-- A part in two stays one where a test is asked besides.
pub bit_under : (c r p q : Bool) → bit r ≡ bit p + bit q → bit (c && r) ≡ bit (c && p) + bit (c && q)
unfolding bit
bit_under true r p q e = e
bit_under false r p q e = refl

pub count_suc : (p : ℕ → Bool) (n : ℕ) → count p (suc n) ≡ count p n + bit (p n)
unfolding count bit
count_suc p n = elim (p n) as (λ b. cond b (suc (count p n)) (count p n) ≡ count p n + bit b) [ true ↦ omega arith | false ↦ omega arith ]

pub count_parts : (r p q : ℕ → Bool) (n : ℕ) → ((v : ℕ) → v < n → bit (r v) ≡ bit (p v) + bit (q v)) → count r n ≡ count p n + count q n
count_parts r p q zero h = omega (arith, count_zero r, count_zero p, count_zero q)
count_parts r p q (suc n) h = omega (arith, count_suc r n, count_suc p n, count_suc q n, h n (omega arith), count_parts r p q n (λ v l. h v (omega arith)))

-- How many entries pass a test, entry by entry.
pub tally_cons : (p : Link → Bool) (e : Link) (g : List Link) → tally p (e ∷ g) ≡ bit (p e) + tally p g
unfolding tally bit
tally_cons p e g = elim (p e) as (λ b. cond b (suc (tally p g)) (tally p g) ≡ bit b + tally p g) [ true ↦ omega arith | false ↦ omega arith ]

pub tally_nil : (p : Link → Bool) → tally p [] ≡ 0
unfolding tally
tally_nil p = refl

pub tally_snoc : (p : Link → Bool) (g : List Link) (e : Link) → tally p (g ++ (e ∷ [])) ≡ tally p g + bit (p e)
tally_snoc p [] e = omega (arith, tally_cons p e [], tally_nil p)
tally_snoc p (x ∷ g) e = omega (arith, tally_cons p x (g ++ (e ∷ [])), tally_cons p x g, tally_snoc p g e)

-- e is an entry of the list, written either way round.
abbrev pub Entry : List Link → Link → Type 0
Entry g e = T (linked g e.0 e.1)

pub entry_head : (e : Link) (g : List Link) → Entry (e ∷ g) e
entry_head (a, b) g = linked_head (a, b) g a b (between_here a b)

pub entry_tail : (x : Link) (g : List Link) (e : Link) → Entry g e → Entry (x ∷ g) e
entry_tail x g e h = linked_tail x g e.0 e.1 h

pub tally_parts : (r p q : Link → Bool) (g : List Link) → ((e : Link) → Entry g e → bit (r e) ≡ bit (p e) + bit (q e)) → tally r g ≡ tally p g + tally q g
tally_parts r p q [] h = omega (arith, tally_nil r, tally_nil p, tally_nil q)
tally_parts r p q (x ∷ g) h =
    omega (arith, tally_cons r x g, tally_cons p x g, tally_cons q x g, h x (entry_head x g), tally_parts r p q g (λ e l. h e (entry_tail x g e l)))

pub tally_same : (p q : Link → Bool) (g : List Link) → ((e : Link) → Entry g e → p e ≡ q e) → tally p g ≡ tally q g
tally_same p q [] h = tally_nil p ∙ sym (tally_nil q)
tally_same p q (x ∷ g) h =
    omega (arith, tally_cons p x g, tally_cons q x g, ap bit (h x (entry_head x g)), tally_same p q g (λ e l. h e (entry_tail x g e l)))

pub tally_all : (p : Link → Bool) (g : List Link) → ((e : Link) → Entry g e → T (p e)) → tally p g ≡ length g
tally_all p [] h = tally_nil p
tally_all p (x ∷ g) h = omega (arith, tally_cons p x g, bit_yes (p x) (h x (entry_head x g)), tally_all p g (λ e l. h e (entry_tail x g e l)))

pub tally_none : (p : Link → Bool) (g : List Link) → ((e : Link) → Entry g e → T (p e) → ⊥) → tally p g ≡ 0
tally_none p [] f = tally_nil p
tally_none p (x ∷ g) f = omega (arith, tally_cons p x g, bit_no (p x) (f x (entry_head x g)), tally_none p g (λ e l. f e (entry_tail x g e l)))

-- What links without direction keep holds of both names of a link.
pub by_between : (P : ℕ → ℕ → Type 0) → ((u v : ℕ) → P u v → P v u) → (a b u v : ℕ) → T (between (a, b) u v) → P a b → P u v
by_between P turn a b u v t p = elim (between_elim a b u v t) [
  | inl (e, f) ↦ rw (← e, ← f) p
  | inr (e, f) ↦ rw (← e, ← f) (turn a b p)
]

-- What the two ends have, both have under either name.
pub between_both : (P : ℕ → Type 0) (a b u v : ℕ) → T (between (a, b) u v) → P a → P b → P u × P v
between_both P a b u v t p q = by_between (λ x y. P x × P y) (λ x y (i, j). (j, i)) a b u v t (p, q)

pub between_flip : (a b u v : ℕ) → T (between (a, b) u v) → T (between (u, v) a b)
between_flip a b u v t = elim (between_elim a b u v t) [
  | inl (e, f) ↦ rw (e, f) (between_here u v)
  | inr (e, f) ↦ rw (e, f) (between_turn (u, v) u v (between_here u v))
]

pub between_swap : (a b u v : ℕ) → T (between (a, b) u v) → T (between (b, a) u v)
between_swap a b u v t = between_flip u v b a (between_turn (u, v) a b (between_flip a b u v t))
