-- Tables that keep what is placed in others, whatever they place besides: the way up from a placed fragment is then the same in both.
-- Assumes nothing.
use Prim.Native.Nat.{ℕ, zero, suc, pred, ◌-◌, ◌<◌, ◌≤◌}
use Rattle.std.specs.Prelude.{◌≡◌, length, T, ltb}
use Rattle.std.proofs.Math.Path.{refl}
use Rattle.std.proofs.Common.{sym, ap, ◌∙◌, subst, inl, inr, arith}
use Rattle.rules.specs.Forest.{up, Over}
use Rattle.rules.specs.Search.{count}
use Rattle.rules.specs.Tables.{Tables, parent_of, rank, placed, par, lev, place}
use Rattle.rules.specs.Facts.{Standing, Loose}
use Rattle.rules.proofs.Laws.Search.{count_one_more}
use Rattle.rules.proofs.Laws.Up.{over_lev}
use Rattle.rules.proofs.Laws.Tables.{placed_rank, placed_loose, par_placed, lev_rank, standing_levels, placed_place_same, placed_place_other}

-- What is placed in s has the same parent and the same level in t.
pub record Kept (s t : Tables) : Type 0 where
  pub parent : (v : ℕ) → T (placed s v) → parent_of t v ≡ parent_of s v
  pub level : (v : ℕ) → T (placed s v) → rank t v ≡ rank s v

-- Equal levels are placed alike.
pub rank_alike : (s t : Tables) (v : ℕ) → rank s v ≡ rank t v → placed s v ≡ placed t v
unfolding placed
rank_alike s t v e = ap (ltb 0) e

-- An unplaced fragment placed is one fragment more.
pub place_count : {n : ℕ} (t : Tables) (v p r : ℕ) → v < n → length t.level ≡ n → Loose t v → 0 < r → count (placed (place v p r t)) n ≡ suc (count (placed t) n)
place_count {n} t v p r h l e g = count_one_more (placed t) (placed (place v p r t)) n v h (λ q. placed_loose t v q e) (placed_place_same v p r t (omega arith) g) (λ u j d. sym (placed_place_other v p r t u d))

module _ {s t : Tables} (K : Kept s t) where
  pub kept_placed : (v : ℕ) → T (placed s v) → T (placed t v)
  kept_placed v p = rw (rank_alike t s v (K.level v p)) p

  pub kept_par : (v : ℕ) → T (placed s v) → par t v ≡ par s v
  kept_par v p = par_placed t v (kept_placed v p) ∙ K.parent v p ∙ sym (par_placed s v p)

  pub kept_lev : (v : ℕ) → T (placed s v) → lev t v ≡ lev s v
  kept_lev v p = lev_rank t v ∙ ap pred (K.level v p) ∙ sym (lev_rank s v)

pub kept_trans : {s t r : Tables} → Kept s t → Kept t r → Kept s r
kept_trans {s} {t} K M = record {
  parent = λ v p. M.parent v (kept_placed K v p) ∙ K.parent v p;
  level = λ v p. M.level v (kept_placed K v p) ∙ K.level v p;
}

module _ {n : ℕ} {s : Tables} (S : Standing n s) where
  -- The parent of a placed fragment is placed.
  pub parent_placed : (v : ℕ) → v < n → T (placed s v) → (parent_of s v < n) × T (placed s (parent_of s v))
  parent_placed v h p = elim (S.stands v h p) [ inl (e, _) ↦ rw e (h, p) | inr (i, q, _) ↦ (i, q) ]

  pub way_placed : (v : ℕ) → v < n → T (placed s v) → (par s v < n) × T (placed s (par s v))
  way_placed v h p = rw (par_placed s v p) (parent_placed v h p)

  -- What is above has no greater level.
  pub over_rank : (a b : ℕ) → b < n → T (placed s b) → Over (par s) (lev s) a b → rank s a ≤ rank s b
  over_rank a b h p o = omega (arith, over_lev (standing_levels S) a b h o, lev_rank s a, lev_rank s b, placed_rank s b p)

  pub up_placed : (k v : ℕ) → v < n → T (placed s v) → T (placed s (up (par s) k v))
  unfolding up
  up_placed zero v h p = p
  up_placed (suc k) v h p = up_placed k (par s v) (way_placed v h p).0 (way_placed v h p).1

module _ {n : ℕ} {s t : Tables} (S : Standing n s) (K : Kept s t) where
  pub up_kept : (k v : ℕ) → v < n → T (placed s v) → up (par t) k v ≡ up (par s) k v
  unfolding up
  up_kept zero v h p = refl
  up_kept (suc k) v h p = rw (kept_par K v p) (up_kept k (par s v) (way_placed S v h p).0 (way_placed S v h p).1)

  -- What is above a placed fragment is above it in both.
  pub over_kept : (a b : ℕ) → b < n → T (placed s b) → Over (par s) (lev s) a b → Over (par t) (lev t) a b
  over_kept a b h p o =
      let q : T (placed s a) = subst (λ (x : ℕ). T (placed s x)) o (up_placed S (lev s b - lev s a) b h p) in
      rw (kept_lev K a q, kept_lev K b p, up_kept (lev s b - lev s a) b h p) o

  pub over_before : (a b : ℕ) → b < n → T (placed s b) → Over (par t) (lev t) a b → Over (par s) (lev s) a b
  over_before a b h p o =
      let k = lev t b - lev t a in
      let e : up (par s) k b ≡ a = sym (up_kept k b h p) ∙ o in
      let q : T (placed s a) = subst (λ (x : ℕ). T (placed s x)) e (up_placed S k b h p) in
      rw (← kept_lev K a q, ← kept_lev K b p) e
