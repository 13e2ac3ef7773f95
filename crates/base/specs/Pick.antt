-- A choice between two answers by a test, and the rules by which a ladder of such choices is followed.
-- Assumes nothing.
use Rattle.std.specs.Prelude.{Bool, true, false, ◌≡◌, refl}
use Rattle.std.proofs.Math.Bool.{or-true, or-false, and-true, and-false}
use Rattle.std.proofs.Common.{arith, lt-ltb, le-ltb, le-leb, eq-eqb, ne_eqb, ltb-true, ltb-false, leb-true, leb-false, eqb-true}
use Rattle.std.proofs.lemmas.Bool.{lt-leb, eqb-false}

-- `pick test yes no`: the first answer where the test holds, else the second.
unfoldable pub pick : {A : Type 0} → Bool → A → A → A
pick true a b = a
pick false a b = b

pub pick_true : {A : Type 0} (a b : A) → pick true a b ≡ a
unfolding pick
pick_true a b = refl

pub pick_false : {A : Type 0} (a b : A) → pick false a b ≡ b
unfolding pick
pick_false a b = refl

-- What holds of both answers holds of the one picked.
pub pick_all : {A : Type 0} (P : A → Type 0) (t : Bool) (a b : A) → P a → P b → P (pick t a b)
unfolding pick
pick_all P true a b p q = p
pick_all P false a b p q = q

-- `simp tests` follows a ladder whose tests are decided by facts in scope.
pub ruleset tests = (lt-ltb, le-ltb, le-leb, lt-leb, eq-eqb, ne_eqb, pick_true, pick_false, or-true, or-false, and-true, and-false)

-- `omega flags` reads the tests themselves, given as equations.
pub ruleset flags = (arith, ltb-true, ltb-false, leb-true, leb-false, eqb-true, eqb-false)
