-- Laws of the way to the root in a forest of levels, and of who is above whom.
-- Assumes nothing.
use Rattle.std.specs.Prelude.{ℕ, zero, suc, pred, ◌+◌, ◌-◌, ◌≤◌, ◌<◌, ◌≡◌, ◌≢◌, ◌↔◌, Bool, eqb}
use Rattle.std.proofs.Math.Path.{refl}
use Rattle.std.proofs.Common.{sym, ap, ◌∙◌, subst, inl, inr, eqb→eq, arith}
use Rattle.base.specs.Truth.{T_ext, eq_to_eqb}
use Rattle.std.proofs.Math.Decide.{ℕ_discrete, dec_le}
use Rattle.rules.specs.Forest.{up, Above, Levels, Over}
use Rattle.rules.specs.Search.{count}
use Rattle.rules.proofs.Laws.Search.{count_le, count_one_more, some_count}

module _ (p : ℕ → ℕ) where
  pub up_zero : (v : ℕ) → up p 0 v ≡ v
  unfolding up
  up_zero v = refl

  pub up_suc : (k v : ℕ) → up p (suc k) v ≡ up p k (p v)
  unfolding up
  up_suc k v = refl

  pub up_add : (i j v : ℕ) → up p (i + j) v ≡ up p j (up p i v)
  up_add zero j v = ap (λ (k : ℕ). up p k v) (omega arith) ∙ ap (up p j) (sym (up_zero v))
  up_add (suc i) j v = ap (λ (k : ℕ). up p k v) (omega arith) ∙ up_suc (i + j) v ∙ up_add i j (p v) ∙ ap (up p j) (sym (up_suc i v))

  pub up_par : (k v : ℕ) → up p (suc k) v ≡ p (up p k v)
  up_par k v = ap (λ (i : ℕ). up p i v) (omega arith) ∙ up_add k 1 v ∙ up_suc 0 (up p k v) ∙ up_zero (p (up p k v))

  -- A root is its own forebear.
  pub up_rest : (k v : ℕ) → p v ≡ v → up p k v ≡ v
  up_rest zero v e = up_zero v
  up_rest (suc k) v e = up_suc k v ∙ ap (up p k) e ∙ up_rest k v e

-- Who is above whom is decided.
pub over_dec : (p l : ℕ → ℕ) (a b : ℕ) → Dec (Over p l a b)
over_dec p l a b = ℕ_discrete (up p (l b - l a) b) a

module _ {n : ℕ} {p l : ℕ → ℕ} (L : Levels n p l) where
  pub par_in : (v : ℕ) → v < n → p v < n
  par_in v h = elim (L v h) [ inl a ↦ omega (arith, a.0) | inr a ↦ a.0 ]

  pub par_lev : (v : ℕ) → v < n → l (p v) ≡ pred (l v)
  par_lev v h = elim (L v h) [ inl a ↦ ap l a.0 ∙ omega (arith, a.1) | inr a ↦ omega (arith, a.1) ]

  -- A fragment is its own parent exactly at level 0.
  pub root_par : (v : ℕ) → v < n → l v ≡ 0 → p v ≡ v
  root_par v h e = elim (L v h) [ inl a ↦ a.0 | inr a ↦ absurd (omega (arith, a.1)) ]

  pub root_lev : (v : ℕ) → v < n → p v ≡ v → l v ≡ 0
  root_lev v h e = elim (L v h) [ inl a ↦ a.1 | inr a ↦ absurd (omega (arith, a.1, ap l e)) ]

  pub child_lev : (v : ℕ) → v < n → p v ≢ v → l v ≡ suc (l (p v))
  child_lev v h d = elim (L v h) [ inl a ↦ absurd (d a.0) | inr a ↦ a.1 ]

  pub up_in : (k v : ℕ) → v < n → up p k v < n
  up_in zero v h = rw (up_zero p v) h
  up_in (suc k) v h = rw (up_suc p k v) (up_in k (p v) (par_in v h))

  pub up_lev : (k v : ℕ) → v < n → l (up p k v) ≡ l v - k
  up_lev zero v h = ap l (up_zero p v) ∙ omega arith
  up_lev (suc k) v h = ap l (up_suc p k v) ∙ up_lev k (p v) (par_in v h) ∙ omega (arith, par_lev v h)

  -- The level is the number of steps to the root: so many lead there, and no fewer.
  pub level_arrives : (v : ℕ) → v < n → p (up p (l v) v) ≡ up p (l v) v
  level_arrives v h = root_par (up p (l v) v) (up_in (l v) v h) (omega (arith, up_lev (l v) v h))

  pub level_fewest : (v k : ℕ) → v < n → p (up p k v) ≡ up p k v → l v ≤ k
  level_fewest v k h e = omega (arith, root_lev (up p k v) (up_in k v h) e, up_lev k v h)

  -- Past the root nothing changes.
  pub up_past : (k v : ℕ) → v < n → l v ≤ k → up p k v ≡ up p (l v) v
  up_past k v h g =
      ap (λ (i : ℕ). up p i v) (omega arith) ∙ up_add p (l v) (k - l v) v
      ∙ up_rest p (k - l v) (up p (l v) v) (level_arrives v h)

  pub over_refl : (v : ℕ) → Over p l v v
  over_refl v = ap (λ (i : ℕ). up p i v) (omega arith) ∙ up_zero p v

  pub over_in : (a b : ℕ) → b < n → Over p l a b → a < n
  over_in a b h o = rw o at (up_in (l b - l a) b h)

  pub over_lev : (a b : ℕ) → b < n → Over p l a b → l a ≤ l b
  over_lev a b h o = omega (arith, up_lev (l b - l a) b h, ap l o)

  pub over_same : (a b : ℕ) → Over p l a b → l a ≡ l b → a ≡ b
  over_same a b o e = sym o ∙ ap (λ (i : ℕ). up p i b) (omega arith) ∙ up_zero p b

  -- What some steps lead to is above.
  pub up_over : (k b : ℕ) → b < n → Over p l (up p k b) b
  up_over k b h = elim (dec_le k (l b)) [
    | yes g ↦ ap (λ (i : ℕ). up p i b) (omega (arith, up_lev k b h))
    | no g ↦ ap (λ (i : ℕ). up p i b) (omega (arith, up_lev k b h)) ∙ sym (up_past k b h (omega arith))
  ]

  pub above_over : (a b : ℕ) → b < n → Above p a b ↔ Over p l a b
  above_over a b h = (λ (k, e). subst (λ (x : ℕ). Over p l x b) e (up_over k b h), λ o. (l b - l a, o))

  -- Of two above b, the higher is above the lower.
  pub over_meet : (a c b : ℕ) → b < n → Over p l a b → Over p l c b → l a ≤ l c → Over p l a c
  over_meet a c b h o q g =
      ap (up p (l c - l a)) (sym q) ∙ sym (up_add p (l b - l c) (l c - l a) b)
      ∙ ap (λ (i : ℕ). up p i b) (omega (arith, over_lev c b h q)) ∙ o

  pub over_trans : (a b c : ℕ) → c < n → Over p l a b → Over p l b c → Over p l a c
  over_trans a b c h o q =
      let hb : b < n = over_in b c h q in
      ap (λ (i : ℕ). up p i c) (omega (arith, over_lev a b hb o, over_lev b c h q)) ∙ up_add p (l c - l b) (l b - l a) c
      ∙ ap (up p (l b - l a)) q ∙ o

  pub over_antisym : (a b : ℕ) → a < n → b < n → Over p l a b → Over p l b a → a ≡ b
  over_antisym a b ha hb o q = over_same a b o (omega (arith, over_lev a b hb o, over_lev b a ha q))

  pub over_par : (b : ℕ) → b < n → Over p l (p b) b
  over_par b h = subst (λ (x : ℕ). Over p l x b) (up_suc p 0 b ∙ up_zero p (p b)) (up_over 1 b h)

  -- Strictly above b is above its parent.
  pub over_up : (a b : ℕ) → b < n → Over p l a b → a ≢ b → Over p l a (p b)
  over_up a b h o d = elim (dec_le (l b) (l a)) [
    | yes g ↦ absurd (d (over_same a b o (omega (arith, over_lev a b h o))))
    | no g ↦ over_meet a (p b) b h o (over_par b h) (omega (arith, par_lev b h))
  ]

  -- The child of a towards b.
  pub over_child : (a b : ℕ) → b < n → Over p l a b → a ≢ b → (c : ℕ) × (c < n) × (p c ≡ a) × (l c ≡ suc (l a)) × Over p l c b
  over_child a b h o d =
      let k = l b - suc (l a) in
      let s : l a < l b = elim (dec_le (l b) (l a)) [
        | yes g ↦ absurd (d (over_same a b o (omega (arith, over_lev a b h o))))
        | no g ↦ omega arith
      ] in
      (up p k b, up_in k b h, sym (up_par p k b) ∙ ap (λ (i : ℕ). up p i b) (omega arith) ∙ o, omega (arith, up_lev k b h), up_over k b h)

  -- a's forebear is above what a is above.
  pub over_par_of : (a b : ℕ) → b < n → Over p l a b → Over p l (p a) b
  over_par_of a b h o = over_trans (p a) a b h (over_par a (over_in a b h o)) o

  -- What is above b's parent is above b.
  pub over_down : (a b : ℕ) → b < n → Over p l a (p b) → Over p l a b
  over_down a b h o = over_trans a (p b) b h o (over_par b h)

-- No level is n or more: the fragments above v are different.
abbrev over_test : (p l : ℕ → ℕ) → ℕ → ℕ → Bool
over_test p l v a = eqb (up p (l v - l a) v) a

module _ {n : ℕ} {p l : ℕ → ℕ} (L : Levels n p l) where
  over_count : (k v : ℕ) → v < n → l v ≡ k → l v < count (over_test p l v) n
  over_count zero v h e = omega (arith, some_count (over_test p l v) n v h (eq_to_eqb (up p (l v - l v) v) v (over_refl L v)))
  over_count (suc k) v h e =
      let d : p v ≢ v = λ q. omega (arith, root_lev L v h q) in
      let m : l v ≡ suc (l (p v)) = child_lev L v h d in
      let more : count (over_test p l v) n ≡ suc (count (over_test p l (p v)) n) = count_one_more (over_test p l (p v)) (over_test p l v) n v h
      (λ t. omega (arith, over_lev L v (p v) (par_in L v h) (eqb→eq (up p (l (p v) - l v) (p v)) v t)))
      (eq_to_eqb (up p (l v - l v) v) v (over_refl L v))
      (λ a g q. T_ext (over_test p l (p v) a) (over_test p l v a)
      (λ t. eq_to_eqb (up p (l v - l a) v) a (over_down L a v h (eqb→eq (up p (l (p v) - l a) (p v)) a t)))
      (λ t. eq_to_eqb (up p (l (p v) - l a) (p v)) a (over_up L a v h (eqb→eq (up p (l v - l a) v) a t) q))) in
      omega (arith, over_count k (p v) (par_in L v h) (omega arith))

  pub level_below : (v : ℕ) → v < n → l v < n
  level_below v h = omega (arith, over_count (l v) v h refl, count_le (over_test p l v) n)

-- Levels follow from the parents.
pub levels_unique : {n : ℕ} {p l m : ℕ → ℕ} → Levels n p l → Levels n p m → (v : ℕ) → v < n → l v ≡ m v
levels_unique {n} {p} {l} {m} L M v h = go (l v) v h refl
  where
    go : (k w : ℕ) → w < n → l w ≡ k → l w ≡ m w
    go zero w g e = e ∙ sym (root_lev M w g (root_par L w g e))
    go (suc k) w g e =
        let f : p w ≢ w = λ q. omega (arith, root_lev L w g q) in
        omega (arith, child_lev L w g f, child_lev M w g f, go k (p w) (par_in L w g) (omega (arith, par_lev L w g)))
