-- Laws of lists: their parts, and runs of zeros.
-- Assumes nothing.
use Rattle.std.specs.Prelude.{ℕ, zero, suc, ◌+◌, ◌-◌, ◌≤◌, ◌<◌, ◌≡◌, refl, List, [], ◌∷◌, ◌++◌, map, T, eqb, length, get_or, take, drop, replicate}
use Rattle.std.proofs.Common.{sym, ap, ◌∙◌, append_assoc, arith, eqb→eq, length-take, length-drop, take-append-drop, drop-drop, ext_get_or, get_or-take, get_or-drop}
use Rattle.std.proofs.lemmas.List.{length-replicate, get_or-replicate, replicate-append-replicate}
use Rattle.base.specs.Truth.{and_l, and_r}
use Rattle.numbers.proofs.Laws.Groups.{drop_take as taken-between}
use Rattle.state.specs.Test.{all_zero}

pub length-map : {A B : Type 0} (f : A → B) (l : List A) → length (map f l) ≡ length l
length-map f [] = refl
length-map f (x ∷ l) = ap suc (length-map f l)

pub length_none : {A : Type 0} (l : List A) → length l ≡ 0 → l ≡ []
length_none [] e = refl
length_none (x ∷ l) e = absurd (omega arith)

pub drop_take : (a n : ℕ) (l : List ℕ) → drop a (take (a + n) l) ≡ take n (drop a l)
drop_take a n l = let e : a + n - a ≡ n = omega arith in sym (ap (λ i. take i (drop a l)) (sym e) ∙ taken-between a (a + n) l)

-- A list from word a on is its next m words and the rest.
pub parts : (a m b : ℕ) (l : List ℕ) → a + m ≡ b → drop a l ≡ take m (drop a l) ++ drop b l
parts a m b l e = sym (take-append-drop m (drop a l)) ∙ ap (λ r. take m (drop a l) ++ r) (drop-drop m a l ∙ ap (λ i. drop i l) e)

-- A run of zeros is a shorter one and the rest.
pub zeros : (n r m : ℕ) (l : List ℕ) → m ≡ n + r → replicate m 0 ++ l ≡ replicate n 0 ++ (replicate r 0 ++ l)
zeros n r m l e = rw (e, ← replicate-append-replicate {A = ℕ} n r 0, append_assoc)

pub zeros_pass : (m : ℕ) → T (all_zero (replicate m 0))
unfolding all_zero
zeros_pass zero = tt
zeros_pass (suc m) = zeros_pass m

pub all_zeros : (l : List ℕ) (m : ℕ) → length l ≡ m → T (all_zero l) → l ≡ replicate m 0
unfolding all_zero
all_zeros [] m e t = rw (← e)
all_zeros (x ∷ l) m e t =
    rw (← e) (λ i. eqb→eq x 0 (and_l (eqb x 0) (all_zero l) t) i ∷ all_zeros l (length l) refl (and_r (eqb x 0) (all_zero l) t) i)

pub all_none : (l : List ℕ) (n : ℕ) → length l ≡ n → ((v : ℕ) → v < n → get_or l v 0 ≡ 0) → l ≡ replicate n 0
all_none l n e h = ext_get_or 0 l (replicate n 0) (e ∙ sym (length-replicate n 0)) (λ v b. h v (omega arith) ∙ sym (get_or-replicate n v 0 0 (omega arith)))

-- A word in a run of zeros.
pub zero_at : (m k : ℕ) (l : List ℕ) → take k (drop m l) ≡ replicate k 0 → (i : ℕ) → m ≤ i → i < m + k → get_or l i 0 ≡ 0
zero_at m k l z i h g =
    let e : i ≡ m + (i - m) = omega arith in
    ap (λ (j : ℕ). get_or l j 0) e ∙ sym (get_or-drop m l (i - m) 0) ∙ sym (get_or-take k (drop m l) (i - m) 0 (omega arith))
    ∙ ap (λ (r : List ℕ). get_or r (i - m) 0) z ∙ get_or-replicate k (i - m) 0 0 (omega arith)

-- A list whose words from m to b are 0.
pub zeros_between : (m b : ℕ) (l : List ℕ) → m ≤ b → b ≤ length l → T (all_zero (drop m (take b l))) → l ≡ take m l ++ (replicate (b - m) 0 ++ drop b l)
zeros_between m b l h g t =
    let e : m + (b - m) ≡ b = omega arith in
    let d : drop m (take b l) ≡ take (b - m) (drop m l) = ap (λ i. drop m (take i l)) (sym e) ∙ drop_take m (b - m) l in
    let z = all_zeros (take (b - m) (drop m l)) (b - m) (simp (length-take, length-drop) (omega arith)) (rw d at t) in
    sym (take-append-drop m l) ∙ ap (λ r. take m l ++ r) (parts m (b - m) b l e ∙ ap (λ r. r ++ drop b l) z)
