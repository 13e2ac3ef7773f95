-- What may be adopted, and what adopting leaves.
-- Assumes nothing.
use Prim.Native.Nat.{ℕ, zero, suc, ◌-◌, ◌≤◌, ◌<◌, max}
use Rattle.std.specs.Prelude.{◌≡◌, Bool, List, ◌≢◌, ◌↔◌, T, ltb, length}
use Rattle.std.proofs.Math.Path.{refl, sym, ap}
use Rattle.std.proofs.Common.{◌∙◌, arith, eqb→eq, ltb→lt, lt→ltb, eq-eqb, ne_eqb}
use Rattle.std.proofs.Math.Logic.{inl, inr}
use Rattle.std.proofs.Math.Decide.{ℕ_discrete}
use Rattle.std.proofs.Math.ListN.{length-replicate}
use Rattle.std.proofs.Math.Seq.{get_or-take, length-take-le}
use Rattle.base.specs.Truth.{and_intro, and_l, and_r, eq_to_eqb}
use Rattle.base.specs.Link.{Link}
use Rattle.rules.specs.Links.{linked, Among}
use Rattle.rules.specs.Forest.{up, depth, Levels, DepthFirst}
use Rattle.rules.specs.Search.{every}
use Rattle.rules.specs.Tables.{parent_of, rank, placed, par}
use Rattle.rules.specs.Adopting.{parent_in, rooted_in, adoptable, adopted}
use Rattle.rules.specs.Reading.{read_links, accepted}
use Rattle.rules.specs.Facts.{Standing, Rested, Unnoted}
use Rattle.rules.proofs.Laws.Search.{every_at, every_intro, below_suc, table_length, table_at}
use Rattle.rules.proofs.Laws.Up.{up_zero, up_suc, up_add, up_rest, par_in, up_in, up_lev, root_par, level_arrives, level_below, levels_unique}
use Rattle.rules.proofs.Laws.Tables.{rank_placed, par_placed, same_par, rested_unnoted}
use Rattle.rules.proofs.Laws.Append.{depth_first_same}
use Rattle.rules.proofs.Laws.Reading.{read_same, read_notes}
use Rattle.rules.proofs.Laws.Reports.{accepts}

-- Levels counted along parents that lead to a root within k steps.
module _ (p : ℕ → ℕ) where
  depth_root : (k v : ℕ) → p v ≡ v → depth p k v ≡ 0
  unfolding depth
  depth_root zero v e = refl
  depth_root (suc k) v e = rw (eq-eqb (p v) v e)

  depth_suc : (k v : ℕ) → p v ≢ v → depth p (suc k) v ≡ suc (depth p k (p v))
  unfolding depth
  depth_suc k v d = rw (ne_eqb (p v) v d)

  -- Past a root the bound does not matter.
  depth_more : (k v : ℕ) → p (up p k v) ≡ up p k v → depth p (suc k) v ≡ depth p k v
  depth_more zero v e = let q : p v ≡ v = rw (up_zero p v) at e in depth_root 1 v q ∙ sym (depth_root 0 v q)
  depth_more (suc k) v e = elim (ℕ_discrete (p v) v) [
    | yes q ↦ depth_root (suc (suc k)) v q ∙ sym (depth_root (suc k) v q)
    | no d ↦ depth_suc (suc k) v d ∙ ap suc (depth_more k (p v) (rw (up_suc p k v) at e)) ∙ sym (depth_suc k v d)
  ]

  depth_levels : (n k : ℕ) → ((v : ℕ) → v < n → p v < n) → ((v : ℕ) → v < n → p (up p k v) ≡ up p k v) → Levels n p (depth p k)
  depth_levels n k f r v h = elim (ℕ_discrete (p v) v) [
    | yes e ↦ inl (e, depth_root k v e)
    | no d ↦ inr (f v h, sym (depth_more k v (r v h)) ∙ depth_suc k v d)
  ]

-- One bound for all below n, where a greater bound does as well.
one_bound : (P : ℕ → ℕ → Type 0) → ((v i j : ℕ) → i ≤ j → P v i → P v j) → (n : ℕ) → ((v : ℕ) → v < n → (k : ℕ) × P v k) → (k : ℕ) × ((v : ℕ) → v < n → P v k)
one_bound P m zero f = (0, λ v h. absurd (omega arith))
one_bound P m (suc n) f =
    let (i, a) = f n (omega arith) in
    let (j, b) = one_bound P m n (λ v h. f v (omega arith)) in
    (max i j, below_suc (λ v. P v (max i j)) (m n i (max i j) (omega arith) a) (λ v h. m v j (max i j) (omega arith) (b v h)))

-- Parents that stay below n and lead to roots have levels, and lead there within n steps.
module _ (n : ℕ) (p : ℕ → ℕ) (inside : (v : ℕ) → v < n → p v < n) (rooted : (v : ℕ) → v < n → (k : ℕ) × (p (up p k v) ≡ up p k v)) where
  root_stays : (v i j : ℕ) → i ≤ j → p (up p i v) ≡ up p i v → p (up p j v) ≡ up p j v
  root_stays v i j h e =
      let q : up p j v ≡ up p i v = ap (λ (x : ℕ). up p x v) (omega arith) ∙ up_add p i (j - i) v ∙ up_rest p (j - i) (up p i v) e in
      rw q e

  pub rooted_levels : (l : ℕ → ℕ) × Levels n p l
  rooted_levels =
      let (k, f) = one_bound (λ v i. p (up p i v) ≡ up p i v) root_stays n rooted in
      (depth p k, depth_levels p n k inside f)

  rooted_soon : (v : ℕ) → v < n → p (up p n v) ≡ up p n v
  rooted_soon v h =
      let (l, L) = rooted_levels in
      root_par L (up p n v) (up_in L n v h) (omega (arith, up_lev L n v h, level_below L v h))

-- Levels are counted along the parents.
pub level_depth : {n : ℕ} {p l : ℕ → ℕ} → Levels n p l → (v : ℕ) → v < n → l v ≡ depth p n v
level_depth {n} {p} {l} L v h = levels_unique L (depth_levels p n n (par_in L) (rooted_soon n p (par_in L) (λ w g. (l w, level_arrives L w g)))) v h

-- Refusal 10 is given exactly when a parent is n or more, or a way leads to no root.
pub adoptable_exact : (n : ℕ) (ps : List ℕ) → T (adoptable n ps) ↔ (((v : ℕ) → v < n → parent_in ps v < n) × ((v : ℕ) → v < n → (k : ℕ) × (parent_in ps (up (parent_in ps) k v) ≡ up (parent_in ps) k v)))
unfolding adoptable rooted_in
adoptable_exact n ps = (
  (λ q. (
    (λ v h. ltb→lt (parent_in ps v) n (every_at below n (and_l (every below n) (every (rooted_in n ps) n) q) v h)),
    (λ v h. (n, eqb→eq (parent_in ps (up (parent_in ps) n v)) (up (parent_in ps) n v) (every_at (rooted_in n ps) n (and_r (every below n) (every (rooted_in n ps) n) q) v h))),
  )),
  (λ (f, r). and_intro (every below n) (every (rooted_in n ps) n)
      (every_intro below n (λ v h. lt→ltb (parent_in ps v) n (f v h)))
      (every_intro (rooted_in n ps) n (λ v h. eq_to_eqb (parent_in ps (up (parent_in ps) n v)) (up (parent_in ps) n v) (rooted_soon n (parent_in ps) f r v h)))),
)
  where
    below : ℕ → Bool
    below v = ltb (parent_in ps v) n

-- What is adopted stands whole, with the parents given.
module _ (n : ℕ) (ps : List ℕ) where
  adopted_rank : (v : ℕ) → v < n → rank (adopted n ps) v ≡ suc (depth (parent_in ps) n v)
  unfolding adopted rank
  adopted_rank v h = table_at (λ v. suc (depth (parent_in ps) n v)) n v 0 h

  pub adopted_parent : (v : ℕ) → v < n → parent_of (adopted n ps) v ≡ parent_in ps v
  unfolding adopted parent_of
  adopted_parent v h = get_or-take n ps v 0 h

  pub adopted_placed : (v : ℕ) → v < n → T (placed (adopted n ps) v)
  adopted_placed v h = rank_placed (adopted n ps) v (omega (arith, adopted_rank v h))

  pub adopted_par : (v : ℕ) → v < n → par (adopted n ps) v ≡ parent_in ps v
  adopted_par v h = par_placed (adopted n ps) v (adopted_placed v h) ∙ adopted_parent v h

  pub adopted_rested : Rested n (adopted n ps)
  unfolding adopted
  adopted_rested = record { no_note = refl; no_mark = refl; no_held = refl; no_cross = refl }

  pub adopted_levels : T (adoptable n ps) → Levels n (parent_in ps) (depth (parent_in ps) n)
  adopted_levels q =
      let (f, r) = (adoptable_exact n ps).0 q in
      depth_levels (parent_in ps) n n f (rooted_soon n (parent_in ps) f r)

  pub adopted_stands : n ≤ length ps → T (adoptable n ps) → Standing n (adopted n ps)
  unfolding adopted
  adopted_stands h q = record {
    long_parent = length-take-le n ps h;
    long_level = table_length (λ v. suc (depth (parent_in ps) n v)) n;
    long_note = length-replicate n 0;
    long_mark = length-replicate n 0;
    stands = λ v g k. elim (adopted_levels q v g) [
      | inl (e, z) ↦ inl (adopted_parent v g ∙ e, adopted_rank v g ∙ ap suc z)
      | inr (i, z) ↦ inr (rw (adopted_parent v g) (i, adopted_placed (parent_in ps v) i, adopted_rank v g ∙ ap suc (z ∙ sym (adopted_rank (parent_in ps v) i))))
    ];
  }

-- Adopted, and read: both are accepted exactly where the parents are a depth-first forest of the list.
module _ (n : ℕ) (ps : List ℕ) (g : List Link) (long : n ≤ length ps) (A : Among n (linked g)) where
  module _ (q : T (adoptable n ps)) where
    stands : Standing n (adopted n ps)
    stands = adopted_stands n ps long q

    unnoted : Unnoted n (adopted n ps)
    unnoted = rested_unnoted (adopted_rested n ps)

    adopted_reads : T (accepted n (read_links (adopted n ps) g)) ↔ DepthFirst n (par (adopted n ps)) (linked g)
    adopted_reads = rw (same_par (read_same stands unnoted g A)) at (accepts (read_notes stands unnoted g A))

  pub adopted_exact : (T (adoptable n ps) × T (accepted n (read_links (adopted n ps) g))) ↔ DepthFirst n (parent_in ps) (linked g)
  adopted_exact = (
    (λ (q, r).
        let D = (adopted_reads q).0 r in
        depth_first_same n (par (adopted n ps)) (parent_in ps) (adopted_par n ps) D.inside (linked g) A D),
    (λ D.
        let q = (adoptable_exact n ps).1 (D.inside, D.rooted) in
        (q, (adopted_reads q).1 (depth_first_same n (parent_in ps) (par (adopted n ps)) (λ v h. sym (adopted_par n ps v h)) D.inside (linked g) A D))),
  )
