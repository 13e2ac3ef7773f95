-- Facts about the truth of a test, `T b`.
-- Assumes nothing.
use Rattle.std.specs.Prelude.{Bool, true, false, ◌&&◌, ◌||◌, ◌⊎◌, ◌≡◌, refl, ℕ, T, eqb}
use Rattle.std.proofs.Common.{inl, inr, subst, sym}
use Rattle.std.proofs.Math.Dec.{eqb_refl}

pub and_intro : (a b : Bool) → T a → T b → T (a && b)
and_intro true true p q = tt
and_intro true false p q = q
and_intro false true p q = p
and_intro false false p q = p

pub and_l : (a b : Bool) → T (a && b) → T a
and_l true true p = tt
and_l true false p = tt
and_l false true p = p
and_l false false p = p

pub and_r : (a b : Bool) → T (a && b) → T b
and_r true true p = tt
and_r true false p = p
and_r false true p = tt
and_r false false p = p

pub or_l : (a b : Bool) → T a → T (a || b)
or_l true true p = tt
or_l true false p = tt
or_l false true p = tt
or_l false false p = p

pub or_r : (a b : Bool) → T b → T (a || b)
or_r true true p = tt
or_r true false p = tt
or_r false true p = tt
or_r false false p = p

pub or_cases : (a b : Bool) → T (a || b) → T a ⊎ T b
or_cases true true p = inl tt
or_cases true false p = inl tt
or_cases false true p = inr tt
or_cases false false p = inl p

-- A test is decided.
pub T_dec : (b : Bool) → Dec (T b)
T_dec true = yes tt
T_dec false = no (λ p. p)

pub T_true : (b : Bool) → T b → b ≡ true
T_true true p = refl
T_true false p = absurd p

pub true_T : (b : Bool) → b ≡ true → T b
true_T b e = subst T (sym e) tt

pub T_false : (b : Bool) → (T b → ⊥) → b ≡ false
T_false true p = absurd (p tt)
T_false false p = refl

pub false_T : (b : Bool) → b ≡ false → T b → ⊥
false_T b e = subst (λ (x : Bool). T x → ⊥) (sym e) (λ p. p)

-- Two tests that hold together are one.
pub T_ext : (a b : Bool) → (T a → T b) → (T b → T a) → a ≡ b
T_ext true true p q = refl
T_ext true false p q = absurd (p tt)
T_ext false true p q = absurd (q tt)
T_ext false false p q = refl

pub eq_to_eqb : (a b : ℕ) → a ≡ b → T (eqb a b)
eq_to_eqb a b e = subst (λ (x : ℕ). T (eqb a x)) e (eqb_refl a)
