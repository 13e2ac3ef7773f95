-- The quota piece by piece, and where the pieces can be gathered.
-- Assumes nothing.
use Prim.Native.Nat.{ℕ, pred, ◌+◌, ◌-◌, ◌*◌, ◌≤◌, ◌<◌}
use Rattle.std.specs.Prelude.{◌≡◌, refl, Bool, true, false, List, leb}
use Rattle.std.proofs.Common.{sym, ◌∙◌, arith, mul-le-mul, eq-eqb, ne_eqb}
use Rattle.std.proofs.Math.Path.{ap}
use Rattle.std.proofs.Math.ListN.{get_or}
use Rattle.base.specs.Truth.{true_T}
use Rattle.rules.specs.Search.{every}
use Rattle.rules.specs.Building.{pieces, member, size_of, held_in}
use Rattle.rules.proofs.Laws.Pieces.{label_le}
use Rattle.state.specs.Layout.{forest_in, held_links}
use Rattle.state.specs.Call.{room_most}
use Rattle.state.specs.Test.{asked, ends_fit, quota_fits}
use Rattle.state.specs.declared.State.{State}
use Rattle.state.proofs.Laws.Held.{ends_known}
use Rattle.state.proofs.Laws.Tests.{every_none, every_more, every_fails}
use Rattle.pieces.specs.Pieces.{Gatherable}
use Rattle.testing.specs.Laws.Head.{head_known}
use Rattle.differing.specs.Links.{Lookable}
use Rattle.differing.specs.Laws.Links.{headed_lookable}
use Rattle.differing.specs.Laws.Head.{Differing}
use Rattle.pieces.specs.Check.{piece_fits, Tells}

-- The quota of a piece, by the words at p.
module _ (n k p : ℕ) (f : List ℕ) (h : p < n) where
  -- A fragment that points to another is not the smallest member of its piece.
  pub piece_other : (get_or f (4 * n + p) 0 ≡ 0 → ⊥) → Tells n f true (λ held. piece_fits n k held p)
  unfolding piece_fits asked member
  piece_other d held g =
      let u = pred (get_or f (4 * n + p) 0) in
      let e = g.next p u h (omega arith) in
      let o = label_le n held g.inside u (omega (arith, g.pointing.down p h)) in
      let z : get_or (pieces n held) p 0 ≡ p → ⊥ = λ z. omega (arith, g.pointing.down p h) in
      rw (ne_eqb (get_or (pieces n held) p 0) p z)

  pub piece_own : get_or f (4 * n + p) 0 ≡ 0 → (x y : ℕ) → x ≡ get_or f (5 * n + p) 0 → y ≡ get_or f (6 * n + p) 0
      → Tells n f (leb y (k * (x + 1) - 1)) (λ held. piece_fits n k held p)
  unfolding piece_fits asked member
  piece_own e x y ex ey held g =
      let o = g.first p h e in
      let sz : x + 1 ≡ size_of n (pieces n held) p = omega (arith, g.size p h o) in
      let ln : y ≡ held_in (pieces n held) held p = ey ∙ g.links p h o in
      rw (eq-eqb (get_or (pieces n held) p 0) p o, sz, ln)

module _ (n k : ℕ) (f : List ℕ) where
  -- Every piece below p keeps its quota.
  abbrev pub Below : ℕ → Type 0
  Below p = Tells n f true (λ held. every (piece_fits n k held) p)

  pub quota_none : Below 0
  quota_none held g = sym (every_none (piece_fits n k held))

  pub quota_more : (p : ℕ) (b : Bool) → b ≡ true → Tells n f b (λ held. piece_fits n k held p) → Below p → Below (p + 1)
  quota_more p b e q B held g = sym (every_more (piece_fits n k held) p (sym (B held g)) (sym (q held g) ∙ e))

  pub quota_off : (p : ℕ) (b : Bool) → p < n → b ≡ false → Tells n f b (λ held. piece_fits n k held p) → Tells n f false (quota_fits n k)
  unfolding quota_fits piece_fits
  quota_off p b l e q held g = every_fails (piece_fits n k held) p n l (sym (q held g) ∙ e)

  pub quota_all : (p : ℕ) → p ≡ n → Below p → Tells n f true (quota_fits n k)
  unfolding quota_fits piece_fits
  quota_all p e B held g = B held g ∙ ap (λ m. every (piece_fits n k held) m) e

-- Where their ends fit they can be gathered.
pub links_gatherable : {n k count : ℕ} {f h : List ℕ} → Lookable n k count f h → true ≡ ends_fit n (forest_in n f) (held_links count h) → Gatherable n f h count
links_gatherable {n} {k} {count} {f} {h} L e = record {
  few_fragments = L.few_fragments;
  long = L.long;
  blank = L.blank;
  few = omega (arith, L.few, mul-le-mul L.room L.few_fragments);
  there = L.there;
  inside = λ u v x. let d = ends_known n (forest_in n f) (held_links count h) (true_T (ends_fit n (forest_in n f) (held_links count h)) (sym e)) u v x in (d.0, d.1);
}

-- Where no refusal is due before the quota, in a table that is as it was found.
pub quota_gatherable : {s : State} {f g h : List ℕ} → Differing s f h → g ≡ f → Gatherable s.n g h s.held × (0 < s.k) × (s.k ≤ room_most)
quota_gatherable D q =
    let L = headed_lookable refl (head_known _ _ _ _ D.due) in
    (rw q (links_gatherable L D.ends), L.some_room, L.room)
