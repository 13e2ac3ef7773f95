-- Counting, adding, searching, choosing the least and listing, among the fragments below n. Definitions only.
-- Assumes nothing.
use Rattle.std.specs.Prelude.{ℕ, zero, suc, ◌+◌, min, Bool, true, false, cond, ◌||◌, ◌&&◌, List, [], ◌∷◌, ◌++◌, ltb}

-- How many fragments below n pass a test.
unfoldable pub count : (ℕ → Bool) → ℕ → ℕ
count p zero = 0
count p (suc n) = cond (p n) (suc (count p n)) (count p n)

-- The sum of the values of the fragments below n.
unfoldable pub sum : (ℕ → ℕ) → ℕ → ℕ
sum f zero = 0
sum f (suc n) = f n + sum f n

-- Some fragment below n passes a test.
unfoldable pub some : (ℕ → Bool) → ℕ → Bool
some p zero = false
some p (suc n) = p n || some p n

-- Every fragment below n passes a test.
unfoldable pub every : (ℕ → Bool) → ℕ → Bool
every p zero = true
every p (suc n) = p n && every p n

-- The smallest fragment below n that passes a test; n where none does.
unfoldable pub first : (ℕ → Bool) → ℕ → ℕ
first p zero = 0
first p (suc n) = cond (ltb (first p n) n) (first p n) (cond (p n) n (suc n))

-- The least of d and the values of the fragments below n that pass a test.
unfoldable pub least : (ℕ → Bool) → (ℕ → ℕ) → ℕ → ℕ → ℕ
least p f d zero = d
least p f d (suc n) = cond (p n) (min (f n) (least p f d n)) (least p f d n)

-- The values of the fragments below n, in order.
unfoldable pub table : {A : Type 0} → (ℕ → A) → ℕ → List A
table f zero = []
table f (suc n) = table f n ++ (f n ∷ [])

-- The fragments below n that pass a test, rising.
unfoldable pub listed : (ℕ → Bool) → ℕ → List ℕ
listed p zero = []
listed p (suc n) = cond (p n) (listed p n ++ (n ∷ [])) (listed p n)
